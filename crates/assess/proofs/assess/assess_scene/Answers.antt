-- The scene is placed, then its lists are written, or nothing is. Assumes nothing.
use Rattle.std.proofs.Common.{Err, ◌≡◌, sym, rules}
use Rattle.assess.proofs.SceneAssess.{by_room}
use Rattle.assess.proofs.assess.assess_scene.Goals as goal

pub returns-in_err-placed-clause-assessed : goal.returns-in_err-placed-clause-assessed
returns-in_err-placed-clause-assessed c =
    let answer : c.from_residual.result ≡ Err c.in_err-placed.field-0.0 = search rules in
    rw (answer, ← by_room _ _ _ c.assessment_room-room.ensures c.in_err-placed.ensures) (search rules)

pub assess_placed-requires-clause-accepted : goal.assess_placed-requires-clause-accepted
assess_placed-requires-clause-accepted c = sym (by_room _ _ _ c.assessment_room-room.ensures c.in_ok-placed.ensures)

pub returns-clause-assessed : goal.returns-clause-assessed
returns-clause-assessed c = rw (← by_room _ _ _ c.assessment_room-room.ensures c.in_ok-placed.ensures) c.assess_placed.ensures.assessed
