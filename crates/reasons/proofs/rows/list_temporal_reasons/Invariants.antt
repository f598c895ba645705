-- Assumes nothing.
use lib.ListN.{length}
use Rattle.rules.specs.Lent.{SameReasons}
use Rattle.reasons.specs.Lent.{reasons_lent}
use Rattle.reasons.proofs.RowSteps.{TemporalBelow}
use Rattle.reasons.proofs.rows.list_temporal_reasons.Given as goal

abbrev pub invariant-loop-id : goal.invariant-loop-id
invariant-loop-id l = record { same : SameReasons l.fn.reasons l.reasons; below : TemporalBelow l.components.ids.now l.components.kinds.now l.components.locked.now l.feedback (reasons_lent l.fn.reasons) (length l.yielded) l.count (reasons_lent l.reasons) }
