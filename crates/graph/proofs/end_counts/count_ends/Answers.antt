-- `count_ends` counts the ends one by one. Assumes nothing.
use mathlib.Core.Path.{refl}
use native.Mathlib.Omega.{arith}
use Rattle.graph.proofs.EndCounting.{counting-none, counting-few, counting_more, counting-skip}
use Rattle.graph.proofs.end_counts.count_ends.Goals.{then-v-counts, else-v-counts}
use Rattle.graph.proofs.end_counts.count_ends.Goals as goal

pub loop-v-init : goal.loop-v-init
loop-v-init c = counting-none _ _ _ refl (rw c.fill.ensures.len (c.fill.ensures.after (λ y e. e)))

pub overflow_add-counts : goal.overflow_add-counts
overflow_add-counts c = omega (arith, counting-few _ _ _ _ c.loop-v.invariant)

pub loop-v-preserved : goal.loop-v-preserved
loop-v-preserved c =
    elim c.if-v-counts.branch [
      | then-v-counts w ↦ rw w.counts-is (counting_more _ _ _ _ c.loop-v.invariant c.loop-v-test.true (omega (arith, w.if-v-counts.true, c.loop-v.invariant.kept)))
      | else-v-counts w ↦ rw w.counts-is (counting-skip _ _ _ _ c.loop-v.invariant c.loop-v-test.true (omega (arith, w.if-v-counts.false, c.loop-v.invariant.kept)))
    ]
