-- Assumes nothing.
use native.Mathlib.Omega.{arith}
use Rattle.reasons.specs.Lent.{labels_lent}
use Rattle.reasons.proofs.SumSteps.{cleared-none, cleared-more, cleared-same}
use Rattle.reasons.proofs.labels.clear_unsettled.Goals as goal
use Rattle.reasons.proofs.labels.clear_unsettled.Goals.{then-labels-v-eq0, else-labels-v-eq0}

pub loop-v-init : goal.loop-v-init
loop-v-init c = record { same = search; cleared = cleared-none (labels_lent c.args.labels.now) }

pub loop-v-preserved : goal.loop-v-preserved
loop-v-preserved c = elim c.if-labels-v-eq0.branch [
  | then-labels-v-eq0 w ↦ rw w.labels-is (record { same = record { settled = c.loop-v.invariant.same.settled; lows = c.loop-v.invariant.same.lows; highs = c.loop-v.invariant.same.highs }; cleared = cleared-more (labels_lent c.args.labels.now) c.loop-v.v (labels_lent c.loop-v.labels) (omega arith) (omega arith) c.loop-v.invariant.cleared w.if-labels-v-eq0.true })
  | else-labels-v-eq0 w ↦ rw w.labels-is (record { same = c.loop-v.invariant.same; cleared = cleared-same (labels_lent c.args.labels.now) c.loop-v.v (labels_lent c.loop-v.labels) (omega arith) (omega arith) c.loop-v.invariant.cleared w.if-labels-v-eq0.false })
]
