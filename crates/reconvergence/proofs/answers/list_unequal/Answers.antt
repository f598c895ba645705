-- `list_unequal` lists the nodes of order that pass. Assumes nothing.
use Rattle.reconvergence.proofs.Listing.{listed-none, listed-yes, listed-no, apart, equal, too_few}
use Rattle.reconvergence.proofs.answers.list_unequal.Goals as goal
use Rattle.reconvergence.proofs.answers.list_unequal.Goals.{then-incoming-v-ge2+then-sums-v, else-incoming-v-ge2, else-incoming-v-ge2-via-then-incoming-v-ge2+else-sums-v, else-incoming-v-ge2-via-else-incoming-v-ge2}

pub loop-v-init : goal.loop-v-init
loop-v-init c = listed-none _ _ _

pub loop-v-preserved : goal.loop-v-preserved
loop-v-preserved c =
    let was = c.loop-v.invariant in
    let here = c.loop-v-test.true in
    elim c.if-incoming-v-ge2.branch [
      | then-incoming-v-ge2+then-sums-v w ↦ rw (w.unequal-is, w.count-is) (listed-yes _ _ _ was here c.requires.3 (apart _ _ _ w.if-incoming-v-ge2.true w.if-sums-v.true))
      | else-incoming-v-ge2 w ↦ rw (w.unequal-is, w.count-is) (
          listed-no _ _ _ was here (elim w.else-incoming-v-ge2.branch [
            | else-incoming-v-ge2-via-then-incoming-v-ge2+else-sums-v k ↦ equal _ _ _ k.if-incoming-v-ge2.true k.if-sums-v.false
            | else-incoming-v-ge2-via-else-incoming-v-ge2 k ↦ too_few _ _ _ k.if-incoming-v-ge2.false
          ])
          )
    ]
