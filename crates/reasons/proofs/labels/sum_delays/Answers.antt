-- Assumes nothing.
use mathlib.Core.Path.{refl}
use native.Mathlib.Omega.{arith}
use Rattle.reasons.specs.Lent.{labels_lent}
use Rattle.reasons.proofs.SumSteps.{sums-some, sums-counted, sums-given}
use Rattle.reasons.proofs.labels.sum_delays.Goals as goal

pub unwrap-count-requires : goal.unwrap-count-requires
unwrap-count-requires c = grind (arith, sums-some c.args.delays.now c.args.edges.now.sources.now c.args.edges.now.sinks.now c.args.order.now (labels_lent c.args.labels.now) c.args.room.now c.requires refl refl refl refl refl c.reconvergent_delay_reasons.ensures.reasons)

pub slice_bounds-result-end : goal.slice_bounds-result-end
slice_bounds-result-end c = sums-counted c.args.delays.now c.args.edges.now.sources.now c.args.edges.now.sinks.now c.args.order.now (labels_lent c.args.labels.now) c.args.room.now c.requires refl refl refl refl refl c.reconvergent_delay_reasons.ensures.reasons c.unwrap-count.ensures

pub returns-clause-summed : goal.returns-clause-summed
returns-clause-summed c =
    let p = sums-given c.args.delays.now c.args.edges.now.sources.now c.args.edges.now.sinks.now c.args.order.now (labels_lent c.args.labels.now) c.args.room.now c.requires refl refl refl refl refl c.reconvergent_delay_reasons.ensures.reasons c.unwrap-count.ensures in
    grind (arith, p)
