-- The scene is placed, then list 4 is written from its edges. Assumes nothing.
use Rattle.std.proofs.Common.{rules}
use mathlib.Core.Path.{◌≡◌, ap}
use Rattle.std.specs.Prelude.{Err, is_some}
use Rattle.scene.proofs.SceneFeedback.{call-refused, told, call-listed}
use Rattle.scene.proofs.feedback.feedback_scene.Goals as goal

pub returns-in_err-placed : goal.returns-in_err-placed
returns-in_err-placed c =
    let answer : c.from_residual.result ≡ Err c.in_err-placed.field-0.0 = search rules in
    rw answer (call-refused _ _ _ _ c.in_err-placed.ensures)

pub unwrap-listed-requires : goal.unwrap-listed-requires
unwrap-listed-requires c = ap is_some (told _ _ _ _ c.in_ok-placed.ensures _ _ c.active_feedback_components.ensures)

pub returns : goal.returns
returns c = call-listed _ _ _ _ c.in_ok-placed.ensures _ _ c.active_feedback_components.ensures _ _ c.unwrap-listed.ensures c.feedback_reasons.ensures
