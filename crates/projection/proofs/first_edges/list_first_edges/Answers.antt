-- `list_first_edges` lists the chains of the retained nodes. Assumes nothing.
use native.Mathlib.Omega.{arith}
use Rattle.projection.proofs.ListSteps.{firsts-none, firsts_same, firsts_room, firsts_more}
use Rattle.projection.proofs.first_edges.list_first_edges.Goals as goal
use Rattle.projection.proofs.first_edges.list_first_edges.Goals.{then-marks-v-ne0, else-marks-v-ne0}

pub loop-v-init : goal.loop-v-init
loop-v-init c = firsts-none _ _ _ _ _ c.requires

pub list_leaving-count-requires : goal.list_leaving-count-requires
list_leaving-count-requires c = (omega (arith, c.requires.heads, c.requires.nodes _ c.loop-v-test.true), firsts_room _ _ _ _ _ c.requires _ _ _ c.loop-v.invariant c.loop-v-test.true c.if-marks-v-ne0.true)

pub loop-v-preserved : goal.loop-v-preserved
loop-v-preserved c =
    let was = c.loop-v.invariant in
    let here = c.loop-v-test.true in
    elim c.if-marks-v-ne0.branch [
      | then-marks-v-ne0 w ↦ rw (w.firsts-is, w.count-is) (firsts_more _ _ _ _ _ c.requires _ _ _ was here w.if-marks-v-ne0.true _ _ w.list_leaving-count.ensures)
      | else-marks-v-ne0 w ↦ rw (w.firsts-is, w.count-is) (firsts_same _ _ _ _ _ c.requires _ _ _ was here w.if-marks-v-ne0.false)
    ]
