-- `fill` writes a projected edge and its path for each first edge. Assumes nothing.
use native.Mathlib.Omega.{arith}
use Rattle.std.proofs.Common.{rules}
use Rattle.projection.proofs.FillSteps.{filled_none, filled_more, first_edge, next_room, sizes}
use Rattle.projection.proofs.marked.MarkedGraph.fill.Goals as goal

pub loop-k-init : goal.loop-k-init
loop-k-init c = (search rules, filled_none c.requires, search rules)

pub walk-walked-requires : goal.walk-walked-requires
walk-walked-requires c =
    let r = c.requires in
    let i = c.loop-k.invariant.1 in (first_edge r (omega arith) i c.loop-k-test.true, next_room r (omega arith) i c.loop-k-test.true)

pub bounds-self-first : goal.bounds-self-first
bounds-self-first c = (first_edge c.requires (omega arith) c.loop-k.invariant.1 c.loop-k-test.true).listed

pub offset_bounds-self-first : goal.offset_bounds-self-first
offset_bounds-self-first c = omega (arith, bounds-self-first c)

pub loop-k-preserved : goal.loop-k-preserved
loop-k-preserved c =
    let r = c.requires in
    let more = filled_more r (omega arith) c.loop-k.invariant.1 c.loop-k-test.true c.walk-walked.ensures in
    (search rules, rw c.from.ensures more, rw c.from.ensures (sizes r (omega arith) more))
