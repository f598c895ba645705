-- The lists tested so far are long enough. Assumes nothing.
use mathlib.Core.Path.{◌≡◌}
use Prim.Native.Nat.{◌+◌}
use lib.ListN.{length}
use Rattle.scene.proofs.Room.{room_left}
use Rattle.scene.proofs.sizes.check_room.Given as goal

abbrev pub invariant-loop-list : goal.invariant-loop-list
invariant-loop-list l = room_left l.n l.m l.first 0 l.room ≡ room_left l.n l.m (l.first + length l.yielded) (length l.yielded) l.room
