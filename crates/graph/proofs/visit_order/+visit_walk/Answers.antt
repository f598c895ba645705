-- `visit` and `walk` visit nodes depth-first. The measure is of the unseen nodes and of the edges left of a walk's chain. Assumes nothing.
use mathlib.Core.Path.{◌≡◌, refl}
use native.Mathlib.Omega.{arith}
use Rattle.graph.proofs.Chains.{step-on, step-end, edges_left-most, passed-some}
use Rattle.graph.proofs.Visits.{below-t, fewer-nodes, fewer-edges}
use Rattle.graph.proofs.OrderSteps.{visit-old, fewer, marked, place, visit-new, no_more, walking-none, walking-ready, walking-more, walked}
use Rattle.graph.proofs.visit_order.+visit_walk.Goals as goal

pub visit-walk-done-requires : goal.visit-walk-done-requires
visit-walk-done-requires t c =
    let a = c.args in
    let p = c.requires in
    (below-t c.decreases (fewer-nodes (fewer p.0 a.u p.1 c.if-marks-u-ne0.false) (edges_left-most _ _)), marked p.0 a.u p.1 c.if-marks-u-ne0.false)

pub visit-offset_bounds-order-done : goal.visit-offset_bounds-order-done
visit-offset_bounds-order-done t c =
    let a = c.args in
    let p = c.requires in
    let w = c.walk-done in
    omega (arith, place p.0 a.u p.1 c.if-marks-u-ne0.false w.ensures, w.auto.order)

pub visit-bounds-order-done : goal.visit-bounds-order-done
visit-bounds-order-done t c =
    let a = c.args in
    let p = c.requires in
    let w = c.walk-done in
    omega (arith, place p.0 a.u p.1 c.if-marks-u-ne0.false w.ensures, w.auto.order)

pub visit-overflow_add-result : goal.visit-overflow_add-result
visit-overflow_add-result t c =
    let a = c.args in
    let p = c.requires in
    let w = c.walk-done in
    omega (arith, place p.0 a.u p.1 c.if-marks-u-ne0.false w.ensures, w.auto.order)

pub visit-returns-then-marks-u-ne0 : goal.visit-returns-then-marks-u-ne0
visit-returns-then-marks-u-ne0 t c = visit-old c.requires.0 c.args.u c.if-marks-u-ne0.true

pub visit-returns : goal.visit-returns
visit-returns t c =
    let a = c.args in
    let p = c.requires in
    visit-new p.0 a.u p.1 c.if-marks-u-ne0.false c.walk-done.ensures

pub walk-loop-e-init : goal.walk-loop-e-init
walk-loop-e-init t c =
    let at : c.into_iter-e-iterator.result.at ≡ c.args.first = cc in
    (cc, rw at (walking-none _ _ _ _ _ _ _))

pub walk-visit-done-requires : goal.walk-visit-done-requires
walk-visit-done-requires t c =
    let p = c.requires in
    let l = c.loop-e in
    let s = step-on c.args.links.now.next.now l.e-iterator l.invariant.0 c.in-Some.e c.next.new.self c.in-Some.ensures.steps in (
      below-t c.decreases (fewer-edges _ (no_more p l.invariant.1.visited l.invariant.1.size) (passed-some _ _ _ _ _ (rw s.1 at l.invariant.1.passed) p.linked.rises s.0)),
      (walking-ready p c.args.first _ l.invariant.1, p.linked.inside c.in-Some.e (omega (arith, s.0, p.linked.pairs))),
    )

pub walk-loop-e-preserved-then-marks-v-eq0 : goal.walk-loop-e-preserved-then-marks-v-eq0
walk-loop-e-preserved-then-marks-v-eq0 t c =
    let p = c.requires in
    let l = c.loop-e in
    let s = step-on c.args.links.now.next.now l.e-iterator l.invariant.0 c.in-Some.e c.next.new.self c.in-Some.ensures.steps in
    (s.2, rw s.3 (walking-more p c.args.first c.in-Some.e (rw s.1 at l.invariant.1) s.0 c.visit-done.ensures c.visit-done.auto.order))

pub walk-loop-e-preserved : goal.walk-loop-e-preserved
walk-loop-e-preserved t c =
    let p = c.requires in
    let l = c.loop-e in
    let s = step-on c.args.links.now.next.now l.e-iterator l.invariant.0 c.in-Some.e c.next.new.self c.in-Some.ensures.steps in
    (s.2, rw s.3 (walking-more p c.args.first c.in-Some.e (rw s.1 at l.invariant.1) s.0 (visit-old (walking-ready p c.args.first _ l.invariant.1) _ c.if-marks-v-eq0.false) refl))

pub walk-returns : goal.walk-returns
walk-returns t c =
    let l = c.loop-e in
    walked c.requires c.args.first _ l.invariant.1 (step-end c.args.links.now.next.now l.e-iterator l.invariant.0 c.next.new.self c.in-None.ensures.steps)
