-- What the report of a text is made from, and what putting it on a page promises. Assumes nothing: these are definitions.
use Rattle.std.specs.Prelude.{List, [], ℕ, Result, MatchResult, ◌≡◌, ◌≤◌, length}
use Rattle.rules.specs.Lent.{components_lent, connections_lent}
use Rattle.rules.specs.Scene.{Scene, ComponentLists, ConnectionLists, scene_of}
use Rattle.rules.specs.Refusals.{Checked, scene_limits, check_scene}
use Rattle.rules.specs.Report.{component_fields, connection_fields, refusal_text}
use Rattle.rules.specs.Text.{SceneWidths}
use Rattle.rules.specs.declared.answers.Refusal.{Refusal}
use Rattle.rules.specs.declared.lent.Scene.{Scene as SceneLent}
use Rattle.text.specs.Page.{Put}
use Rattle.text.specs.declared.page.Page.{Page}

-- the lists are the fields of a scene whose fields fit their widths
pub record FieldsRead (l : ComponentLists) (m : ConnectionLists) : Type 0 where
  pub scene : Scene
  pub components_are : l ≡ component_fields scene.components
  pub connections_are : m ≡ connection_fields scene.connections
  pub widths : SceneWidths scene

-- a scene that is lent, and what its checks find
abbrev pub scene_lent : SceneLent → Scene
scene_lent s = scene_of (components_lent s.components) (connections_lent s.connections)

abbrev pub checked_lent : SceneLent → Checked
checked_lent s = check_scene scene_limits (components_lent s.components) (connections_lent s.connections) []

-- nothing stands on a page, and it has room for the longest report
pub record Fresh (p : Page) : Type 0 where
  pub starts : p.end ≡ 0
  pub room : 1048576 ≤ length p.bytes.now

-- a report was put on a page, or it is a refusal, which isn't put yet
abbrev pub PutOrRefused : (report : List ℕ) → (old new : Page) → Result (Unit {0}) Refusal → Type 0
PutOrRefused report old new r = MatchResult r (λ _. Put report old new) (λ e. (new ≡ old) × (report ≡ refusal_text e))
