-- Assumes nothing.
use Rattle.rules.specs.Lent.{SameLabels}
use Rattle.reasons.specs.Lent.{labels_lent}
use Rattle.reasons.specs.Sums.{Cleared}
use Rattle.reasons.proofs.labels.clear_unsettled.Given as goal

abbrev pub invariant-loop-v : goal.invariant-loop-v
invariant-loop-v l = record { same : SameLabels l.initial.labels l.labels; cleared : Cleared l.v (labels_lent l.initial.labels) (labels_lent l.labels) }
