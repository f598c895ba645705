-- `mark_nodes` marks the nodes one by one. Assumes nothing.
use Rattle.projection.proofs.MarkSteps.{MarkedBelow}
use Rattle.projection.proofs.marks.mark_nodes.Given as goal

abbrev pub invariant-loop-v : goal.invariant-loop-v
invariant-loop-v l = MarkedBelow l.compressible l.incoming l.links.head.now l.links.next.now l.marks l.retained l.v
