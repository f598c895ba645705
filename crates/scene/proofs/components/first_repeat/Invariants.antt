-- The ordered positions are gone through by neighbours. Assumes nothing.
use lib.ListN.{length}
use Rattle.order.proofs.Pairs.{PairsFrom}
use Rattle.scene.proofs.Repeats.{RepeatBelow}
use Rattle.scene.proofs.components.first_repeat.Given as goal

abbrev pub invariant-loop-p : goal.invariant-loop-p
invariant-loop-p l = PairsFrom l.order (length l.yielded) l.p-iterator × RepeatBelow l.ids (length l.yielded) l.first
