-- From what was read of a text to what is printed for it. Assumes nothing.
use Rattle.std.proofs.Common.{◌≡◌, ℕ, ◌≤◌, ◌<◌, [], List, length, refl, sym, ap, ◌∙◌, arith}
use lib.Dec.{ltb, ltb→lt, lt→ltb}
use Rattle.rules.specs.Scene.{Component, Connection, scene_of}
use Rattle.rules.specs.Refusals.{scene_limits, check_scene}
use Rattle.rules.specs.Text.{Place, broken, read, place, scene_at, max_text, read_scene}
use Rattle.rules.specs.Report.{component_fields, connection_fields, refusal_text, check_read, report_checked, report_read, report_of}
use Rattle.rules.specs.declared.answers.RefusalKind.TheVariants.{TextNotInForm}
use Rattle.rules.proofs.Lists.{chosen, not_chosen}
use Rattle.rules.proofs.SceneTexts.{read_fits}
use Rattle.laws.proofs.ReadScenes.{fields-scene}
use Rattle.text.specs.Answers.{FieldsRead}

module _ (text : List ℕ) where
  -- a text of more than the limit, and one within it
  pub report_long : max_text < length text → report_of text ≡ refusal_text (record { kind = TextNotInForm; place = 0 })
  unfolding report_of read_scene
  report_long h = ap report_read (chosen (broken 0) (scene_at (place 1 text)) (ltb max_text (length text)) (lt→ltb max_text (length text) h))

  module _ (h : length text ≤ max_text) where
    read_short : read_scene text ≡ scene_at (place 1 text)
    unfolding read_scene
    read_short = not_chosen (broken 0) (scene_at (place 1 text)) (ltb max_text (length text)) (λ t. omega (arith, h, ltb→lt max_text (length text) t))

    pub report_broken : (line : ℕ) → scene_at (place 1 text) ≡ broken line → report_of text ≡ refusal_text (record { kind = TextNotInForm; place = line })
    unfolding report_of
    report_broken line e = ap report_read (read_short ∙ e)

    module _ (cs : List Component) (ns : List Connection) (end : Place) (e : scene_at (place 1 text) ≡ read (record { components = cs; connections = ns }) end) where
      pub fields_read : FieldsRead (component_fields cs) (connection_fields ns)
      fields_read = record {
        scene = record { components = cs; connections = ns };
        components_are = refl;
        connections_are = refl;
        widths = read_fits text (record { components = cs; connections = ns }) end (read_short ∙ e);
      }

      pub report_found : report_of text ≡ report_checked (check_scene scene_limits (component_fields cs) (connection_fields ns) []) (scene_of (component_fields cs) (connection_fields ns))
      unfolding report_of check_read
      report_found =
          ap report_read (read_short ∙ e)
          ∙ ap (report_checked (check_scene scene_limits (component_fields cs) (connection_fields ns) [])) (sym (fields-scene (record { components = cs; connections = ns })))
