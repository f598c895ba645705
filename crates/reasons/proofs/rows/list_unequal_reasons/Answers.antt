-- Assumes nothing.
use native.Mathlib.Omega.{arith}
use Rattle.reasons.specs.Lent.{reasons_lent}
use Rattle.reasons.proofs.RowSteps.{same-then, unequal-start, unequal-room, unequal-next}
use Rattle.reasons.proofs.rows.list_unequal_reasons.Goals as goal

pub loop-k-init : goal.loop-k-init
loop-k-init c = record { same = search; below = unequal-start c.args.ids.now c.args.labels.now.lows.now c.args.labels.now.highs.now c.args.unequal.now c.args.start (reasons_lent c.args.reasons.now) }

pub write_reason-requires : goal.write_reason-requires
write_reason-requires c = unequal-room c.args.ids.now c.args.labels.now.lows.now c.args.labels.now.highs.now c.args.unequal.now c.args.start (reasons_lent c.args.reasons.now) c.requires.1 c.loop-k.k c.loop-k.invariant.below (omega arith)

pub loop-k-preserved : goal.loop-k-preserved
loop-k-preserved c = record { same = same-then c.loop-k.invariant.same c.write_reason.ensures.same; below = unequal-next c.args.ids.now c.args.labels.now.lows.now c.args.labels.now.highs.now c.args.unequal.now c.args.start (reasons_lent c.args.reasons.now) c.requires.1 c.loop-k.k c.loop-k.invariant.below (omega arith) c.write_reason.ensures.put }
