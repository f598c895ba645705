-- The scene is placed, then both parts are written, or nothing is. Assumes nothing.
use Rattle.std.proofs.Common.{Err, ◌≡◌, sym, rules}
use Rattle.analyze.proofs.SceneAnalyze.{by_room, parts-accepted, call-analyzed}
use Rattle.analyze.proofs.analyze.analyze_scene.Goals as goal

pub returns-in_err-placed-clause-analyzed : goal.returns-in_err-placed-clause-analyzed
returns-in_err-placed-clause-analyzed c =
    let answer : c.from_residual.result ≡ Err c.in_err-placed.field-0.0 = search rules in
    rw (answer, ← by_room _ _ _ c.analysis_room-room.ensures c.in_err-placed.ensures) (search rules)

pub describe_placed-description-requires-clause-accepted : goal.describe_placed-description-requires-clause-accepted
describe_placed-description-requires-clause-accepted c =
    (parts-accepted _ _ _ (sym (by_room _ _ _ c.analysis_room-room.ensures c.in_ok-placed.ensures))).0

pub assess_placed-assessment-requires-clause-accepted : goal.assess_placed-assessment-requires-clause-accepted
assess_placed-assessment-requires-clause-accepted c =
    (parts-accepted _ _ _ (sym (by_room _ _ _ c.analysis_room-room.ensures c.in_ok-placed.ensures))).1

pub returns-clause-analyzed : goal.returns-clause-analyzed
returns-clause-analyzed c =
    call-analyzed _ _ _ (sym (by_room _ _ _ c.analysis_room-room.ensures c.in_ok-placed.ensures)) _ _ _ c.describe_placed-description.ensures.described c.assess_placed-assessment.ensures.assessed
