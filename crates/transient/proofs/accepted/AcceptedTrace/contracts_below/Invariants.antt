-- The contracts before the i-th have components below. Assumes nothing.
use Rattle.transient.specs.Sought.{AllBelow}
use Rattle.transient.proofs.accepted.AcceptedTrace.contracts_below.Given as goal

abbrev pub invariant-loop-i : goal.invariant-loop-i
invariant-loop-i l = AllBelow l.self.aligned.lent.contracts.components.now l.component l.i
