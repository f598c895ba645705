-- `strongly_connected_components` makes its two passes. Assumes nothing.
use Rattle.std.specs.Slice.Iter.{iter_rest}
use Rattle.std.specs.Iterator.Adapters.{rev_source}
use Rattle.graph.proofs.Sweep.{SweepingLeft}
use Rattle.graph.proofs.components.strongly_connected_components.Given as goal

abbrev pub invariant-loop-root : goal.invariant-loop-root
invariant-loop-root l = SweepingLeft l.edges.sources.now l.edges.sinks.now l.backwards.head.now l.backwards.next.now (iter_rest (rev_source l.root-iterator)) l.marks l.group
