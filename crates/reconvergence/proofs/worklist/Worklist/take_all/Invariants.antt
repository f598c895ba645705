-- `take_all` takes the nodes in the order in which they came to wait. Assumes nothing.
use Rattle.std.proofs.Common.{◌-◌, length}
use Rattle.reconvergence.specs.Lent.{SameWorklist, kept, taking}
use Rattle.reconvergence.proofs.worklist.Worklist.take_all.Given as goal

abbrev pub invariant-loop-i : goal.invariant-loop-i
invariant-loop-i l = SameWorklist l.initial.self l.self × taking l.edges l.delays l.self l.i × kept (length l.delays.low.now) l.initial.self l.self

abbrev pub decreases-loop-i : goal.decreases-loop-i
decreases-loop-i l = length l.delays.low.now - l.i
