-- `mark_settled` marks the nodes with no edge left. Assumes nothing.
use Rattle.rules.proofs.Filling.{Filling}
use Rattle.reconvergence.specs.Pass.{done_marks}
use Rattle.reconvergence.proofs.answers.mark_settled.Given as goal

abbrev pub invariant-loop-v : goal.invariant-loop-v
invariant-loop-v l = Filling (done_marks l.left) l.settled l.v
