-- `take` relaxes the edges that leave one node. Assumes nothing.
use Rattle.std.proofs.Common.{◌-◌, length, take}
use Rattle.rules.specs.Ordered.{key_at}
use Rattle.reconvergence.specs.Lent.{SameWorklist, kept, edges_lent}
use Rattle.reconvergence.proofs.Takes.{Leaving, Brings}
use Rattle.reconvergence.proofs.worklist.Worklist.take.Given as goal

abbrev pub invariant-loop-e : goal.invariant-loop-e
invariant-loop-e l =
    SameWorklist l.initial.self l.self
    × Leaving (edges_lent l.edges) (key_at l.delays.low.now) (key_at l.delays.high.now) (length l.delays.low.now) (take (length l.edges.sources.now) l.initial.self.room.now.next.now) l.edges.sinks.now l.self.room.now.incoming.now
    l.initial.self.room.now.queue.now l.i l.u l.self.room.now.left.now l.self.sums.now.smallest.now l.self.sums.now.largest.now l.self.room.now.queue.now l.self.waiting l.e
    × Brings (edges_lent l.edges) (key_at l.delays.low.now) (key_at l.delays.high.now) l.u l.sum
    × kept (length l.delays.low.now) l.initial.self l.self

abbrev pub decreases-loop-e : goal.decreases-loop-e
decreases-loop-e l = length l.edges.sinks.now - l.e
