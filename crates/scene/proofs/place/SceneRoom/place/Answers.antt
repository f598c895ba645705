-- The lengths are tested, then the rows, and the positions are handed out. Assumes nothing.
use Rattle.std.proofs.Common.{rules}
use native.Mathlib.Omega.{arith}
use mathlib.Core.Path.{◌≡◌, refl}
use Rattle.std.specs.Prelude.{Err}
use Rattle.scene.specs.Indexed.{IndexRoom}
use Rattle.scene.specs.Lent.{position_lists}
use Rattle.scene.proofs.PlaceSteps.{sizes-refused, sized, rows-refused, rows-placed}
use Rattle.scene.proofs.place.SceneRoom.place.Goals as goal

pub returns-in_err-check_sizes : goal.returns-in_err-check_sizes
returns-in_err-check_sizes c =
    let answer : c.from_residual.result ≡ Err c.in_err-check_sizes.field-0.0 = search rules in
    rw answer (sizes-refused _ _ _ _ c.in_err-check_sizes.ensures)

pub index_rows-requires : goal.index_rows-requires
index_rows-requires c = (sized _ _ _ c.in_ok-check_sizes.ensures, record { order_room = omega arith; starts_room = omega arith; stops_room = omega arith })

pub returns-in_err-count : goal.returns-in_err-count
returns-in_err-count c =
    let answer : c.from_residual-in_err-count.result ≡ Err c.in_err-count.field-0.0 = search rules in
    rw answer (rows-refused _ _ _ c.in_ok-check_sizes.ensures _ _ c.in_err-count.ensures)

pub shared_ref_as_front-sources : goal.shared_ref_as_front-sources
shared_ref_as_front-sources c =
    let size = sized _ _ _ c.in_ok-check_sizes.ensures in
    omega (arith, c.in_ok-count.ensures.accepted.edges_few, size.connections_few)

pub shared_ref_as_front-order : goal.shared_ref_as_front-order
shared_ref_as_front-order c =
    let size = sized _ _ _ c.in_ok-check_sizes.ensures in
    omega (arith, size.components_few)

pub returns : goal.returns
returns c =
    let room : IndexRoom (position_lists c.index_rows.new.order c.index_rows.new.starts c.index_rows.new.stops) = record { order_room = omega arith; starts_room = omega arith; stops_room = omega arith } in
    rows-placed _ _ _ c.in_ok-check_sizes.ensures _ room _ c.in_ok-count.ensures _ refl refl refl
