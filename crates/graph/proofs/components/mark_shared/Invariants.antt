-- `mark_shared` marks the nodes that share their group. Assumes nothing.
use Rattle.graph.proofs.SharedMarks.{Marking}
use Rattle.graph.proofs.components.mark_shared.Given as goal

abbrev pub invariant-loop-u : goal.invariant-loop-u
invariant-loop-u l = Marking l.group l.marks l.u
