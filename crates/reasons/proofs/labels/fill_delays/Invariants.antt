-- Assumes nothing.
use Rattle.rules.proofs.Filling.{Filling}
use Rattle.reasons.proofs.SumSteps.{column}
use Rattle.reasons.proofs.labels.fill_delays.Given as goal

abbrev pub invariant-loop-i : goal.invariant-loop-i
invariant-loop-i l = Filling (column l.kinds l.words) l.delays l.i
