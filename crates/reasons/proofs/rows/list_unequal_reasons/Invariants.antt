-- Assumes nothing.
use Rattle.rules.specs.Lent.{SameReasons}
use Rattle.reasons.specs.Lent.{reasons_lent}
use Rattle.reasons.proofs.RowSteps.{UnequalBelow}
use Rattle.reasons.proofs.rows.list_unequal_reasons.Given as goal

abbrev pub invariant-loop-k : goal.invariant-loop-k
invariant-loop-k l = record { same : SameReasons l.initial.reasons l.reasons; below : UnequalBelow l.ids l.labels.lows.now l.labels.highs.now l.unequal l.start (reasons_lent l.initial.reasons) l.k (reasons_lent l.reasons) }
