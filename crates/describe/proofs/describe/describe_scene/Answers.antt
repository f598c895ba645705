-- The scene is placed, then its lists are written, or nothing is. Assumes nothing.
use Rattle.std.proofs.Common.{Err, ◌≡◌, sym, rules}
use Rattle.describe.proofs.SceneDescribe.{by_room}
use Rattle.describe.proofs.describe.describe_scene.Goals as goal

pub returns-in_err-placed-clause-described : goal.returns-in_err-placed-clause-described
returns-in_err-placed-clause-described c =
    let answer : c.from_residual.result ≡ Err c.in_err-placed.field-0.0 = search rules in
    rw (answer, ← by_room c.args.scene.now c.args.lists.now c.description_room-room.ensures c.in_err-placed.ensures) (search rules)

pub describe_placed-requires-clause-accepted : goal.describe_placed-requires-clause-accepted
describe_placed-requires-clause-accepted c = sym (by_room c.args.scene.now c.args.lists.now c.description_room-room.ensures c.in_ok-placed.ensures)

pub returns-clause-described : goal.returns-clause-described
returns-clause-described c = rw (← by_room c.args.scene.now c.args.lists.now c.description_room-room.ensures c.in_ok-placed.ensures) c.describe_placed.ensures.described
