-- The report of a scene by the answer of the call that assesses it. Assumes nothing.
use Rattle.std.specs.Prelude.{Result, Ok, Err}
use mathlib.Core.List.{[], ◌∷◌}
use mathlib.Core.Path.{◌≡◌, refl, sym, ap, ◌∙◌}
use Prim.Native.Nat.{ℕ, ◌≤◌}
use native.Mathlib.Omega.{arith}
use lib.ListN.{length, replicate, length-replicate}
use Rattle.rules.specs.Scene.{Scene, ComponentLists, ConnectionLists, scene_of, edges}
use Rattle.rules.specs.Refusals.{Checked, accepted, scene_limits, check_scene}
use Rattle.rules.specs.Assess.{AssessLists, assess_lists, AssessedBy, AssessCall, check_assess, assess_checked, scene_answer}
use Rattle.rules.specs.Report.{component_fields, connection_fields, refusal_text, report, check_read, report_checked}
use Rattle.rules.specs.declared.answers.Assessment.{Assessment}
use Rattle.rules.specs.declared.answers.Refusal.{Refusal}
use Rattle.rules.proofs.Columns.{component-ids}
use Rattle.laws.proofs.ReadScenes.{fields-scene, read-checked}
use Rattle.laws.proofs.ReportRoom.{report-room}
use Rattle.text.specs.ReportLists.{printed_lists, report_by, ReportWithin}
use Rattle.text.specs.Page.{Room}
use Rattle.text.specs.declared.page.Page.{Page}
use Rattle.text.specs.Answers.{FieldsRead, Fresh}
use Rattle.text.proofs.ReportLaws.{report-by, report-shapes}

-- lists as long as a scene at the limits needs them
pub record Sized (o : AssessLists) : Type 0 where
  pub reason_kinds : length o.reason_kinds ≡ 1025
  pub reason_components : length o.reason_components ≡ 1025
  pub reason_blocks : length o.reason_blocks ≡ 1025
  pub reason_minimums : length o.reason_minimums ≡ 1025
  pub reason_maximums : length o.reason_maximums ≡ 1025
  pub feedback_ids : length o.feedback_ids ≡ 512
  pub marks : length o.marks ≡ 512
  pub projected_sources : length o.projected_sources ≡ 2048
  pub projected_sinks : length o.projected_sinks ≡ 2048
  pub projected_inverted : length o.projected_inverted ≡ 2048
  pub projected_minimums : length o.projected_minimums ≡ 2048
  pub projected_maximums : length o.projected_maximums ≡ 2048
  pub projected_starts : length o.projected_starts ≡ 2048
  pub projected_lengths : length o.projected_lengths ≡ 2048
  pub path_ids : length o.path_ids ≡ 4608
  pub label_settled : length o.label_settled ≡ 512
  pub label_lows : length o.label_lows ≡ 512
  pub label_highs : length o.label_highs ≡ 512

-- a refusal answered is the refusal found, and an assessment answered was accepted
refused-same : (checked : Checked) (s : Scene) (r : Refusal) → ◌≡◌ {A = Result Assessment Refusal} (Err r) (scene_answer checked s) → report_checked checked s ≡ refusal_text r
refused-same (Ok u) s r e = cc
refused-same (Err q) s r e = let same : q ≡ r = cc in ap refusal_text same

accepted-same : (checked : Checked) (s : Scene) (a : Assessment) → ◌≡◌ {A = Result Assessment Refusal} (Ok a) (scene_answer checked s) → checked ≡ accepted
accepted-same (Ok u) s a e = refl
accepted-same (Err r) s a e = cc

-- the checks of a call that is lent such lists
lengths-same : (l : ComponentLists) (m : ConnectionLists) (o : AssessLists) → Sized o
    → assess_checked scene_limits l m o ≡ check_assess scene_limits l m (1025 ∷ 1025 ∷ 1025 ∷ 1025 ∷ 1025 ∷ []) (512 ∷ []) (512 ∷ []) (2048 ∷ 2048 ∷ 2048 ∷ 2048 ∷ 2048 ∷ 2048 ∷ 2048 ∷ []) (4608 ∷ []) (512 ∷ 512 ∷ 512 ∷ [])
lengths-same l m o z =
    rw (z.reason_kinds, z.reason_components, z.reason_blocks, z.reason_minimums, z.reason_maximums, z.feedback_ids, z.marks, z.projected_sources, z.projected_sinks, z.projected_inverted, z.projected_minimums, z.projected_maximums, z.projected_starts, z.projected_lengths, z.path_ids, z.label_settled, z.label_lows, z.label_highs)

module _ (l : ComponentLists) (m : ConnectionLists) (f : FieldsRead l m) where
  scene_same : scene_of l m ≡ f.scene
  scene_same = ap (λ k. scene_of k m) f.components_are ∙ ap (scene_of (component_fields f.scene.components)) f.connections_are ∙ fields-scene f.scene

  -- the call finds what the checks find where no list is lent
  read_same : check_scene scene_limits l m [] ≡ check_read scene_limits f.scene
  unfolding check_read
  read_same = ap (λ k. check_scene scene_limits k m []) f.components_are ∙ ap (λ k. check_scene scene_limits (component_fields f.scene.components) k []) f.connections_are

  module _ (old : AssessLists) (sized : Sized old) where
    checked-same : assess_checked scene_limits l m old ≡ check_scene scene_limits l m []
    checked-same =
        ap (λ k. assess_checked scene_limits k m old) f.components_are ∙ ap (λ k. assess_checked scene_limits (component_fields f.scene.components) k old) f.connections_are
        ∙ lengths-same (component_fields f.scene.components) (connection_fields f.scene.connections) old sized ∙ read-checked f.scene ∙ sym read_same

    module _ (new : AssessLists) (answer : Result Assessment Refusal) (call : AssessCall scene_limits l m old new answer) where
      told : AssessedBy (check_scene scene_limits l m []) (scene_of l m) old new answer
      told = rw checked-same at call

      -- refused
      pub scene_refused : (r : Refusal) → answer ≡ Err r → report_checked (check_scene scene_limits l m []) (scene_of l m) ≡ refusal_text r
      scene_refused r e = refused-same (check_scene scene_limits l m []) (scene_of l m) r (sym e ∙ told.answered)

      -- assessed
      module _ (a : Assessment) (e : answer ≡ Ok a) where
        accepts : check_scene scene_limits l m [] ≡ accepted
        accepts = accepted-same (check_scene scene_limits l m []) (scene_of l m) a (sym e ∙ told.answered)

        assessed : AssessedBy accepted (scene_of l m) old new (Ok a)
        assessed = rw (accepts, e) at told

        pub scene_reported : report_by a l.ids (printed_lists new) ≡ report_checked (check_scene scene_limits l m []) (scene_of l m)
        scene_reported = report-by assessed (component-ids l) ∙ sym (ap (λ c. report_checked c (scene_of l m)) accepts)

        pub scene_within : ReportWithin a l.ids (printed_lists new)
        scene_within = report-shapes assessed (component-ids l)

        pub scene_room : (p : Page) → Fresh p → Room (report_by a l.ids (printed_lists new)) p
        scene_room p h =
            let short : length (report f.scene.components (edges f.scene)) ≤ 1048576 = report-room f.scene (sym read_same ∙ accepts) (λ c i. (f.widths.components_fit c i).id_fits) in
            let same : report_by a l.ids (printed_lists new) ≡ report f.scene.components (edges f.scene) = report-by assessed (component-ids l) ∙ ap (λ s. report s.components (edges s)) scene_same in
            record { fits = omega (arith, h.starts, h.room, short, ap length same) }

-- lists made for the call
abbrev pub fresh_lists : AssessLists
fresh_lists =
    assess_lists (replicate 1025 0) (replicate 1025 0) (replicate 1025 0) (replicate 1025 0) (replicate 1025 0) (replicate 512 0) (replicate 512 0) (replicate 2048 0) (replicate 2048 0) (replicate 2048 0) (replicate 2048 0) (replicate 2048 0) (replicate 2048 0) (replicate 2048 0) (replicate 4608 0) (replicate 512 0) (replicate 512 0) (replicate 512 0)

pub fresh-sized : Sized fresh_lists
fresh-sized =
    record {
      reason_kinds = length-replicate {A = ℕ} 1025 0;
      reason_components = length-replicate {A = ℕ} 1025 0;
      reason_blocks = length-replicate {A = ℕ} 1025 0;
      reason_minimums = length-replicate {A = ℕ} 1025 0;
      reason_maximums = length-replicate {A = ℕ} 1025 0;
      feedback_ids = length-replicate {A = ℕ} 512 0;
      marks = length-replicate {A = ℕ} 512 0;
      projected_sources = length-replicate {A = ℕ} 2048 0;
      projected_sinks = length-replicate {A = ℕ} 2048 0;
      projected_inverted = length-replicate {A = ℕ} 2048 0;
      projected_minimums = length-replicate {A = ℕ} 2048 0;
      projected_maximums = length-replicate {A = ℕ} 2048 0;
      projected_starts = length-replicate {A = ℕ} 2048 0;
      projected_lengths = length-replicate {A = ℕ} 2048 0;
      path_ids = length-replicate {A = ℕ} 4608 0;
      label_settled = length-replicate {A = ℕ} 512 0;
      label_lows = length-replicate {A = ℕ} 512 0;
      label_highs = length-replicate {A = ℕ} 512 0;
    }
