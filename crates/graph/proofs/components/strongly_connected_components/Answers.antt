-- `strongly_connected_components` makes its two passes. Assumes nothing.
use mathlib.Core.Path.{sym, subst, ◌∙◌}
use native.Mathlib.Omega.{arith}
use lib.ListN.{length}
use lib.Seq.{length-take-le}
use Rattle.rules.specs.Graph.{edges_between}
use Rattle.graph.specs.Groups.{Between, Grouped}
use Rattle.graph.proofs.Filled.{no-marks}
use Rattle.graph.proofs.Visits.{unseen_most}
use Rattle.graph.proofs.Sweep.{linked_of, sweep-start, visited-room, all-left, left-node, left-open, left-old, left-new, sweep-end}
use Rattle.graph.proofs.components.strongly_connected_components.Goals as goal

pub visit_order-count-requires : goal.visit_order-count-requires
visit_order-count-requires c =
    let p = c.requires in
    let i = c.index_within in
    let k = c.fill in
    record {
      linked = linked_of c.args.edges.now.sinks.now k.new.self p.edges.high p.edges.pairs (i.auto.head ∙ p.heads) i.ensures k.ensures.len;
      room = omega (arith, unseen_most k.new.self, k.ensures.len, p.places);
    }

pub loop-root-init : goal.loop-root-init
loop-root-init c =
    let a = c.args in
    let p = c.requires in
    let i = c.index_within in
    let k = c.fill in
    let v = c.visit_order-count in
    let i2 = c.index_within-2 in
    let k2 = c.fill-2 in
    let same = i2.auto.head ∙ i.auto.head ∙ p.heads in
    let start =
    sweep-start a.edges.now.sources.now a.edges.now.sinks.now i.new.head i.new.next i2.new.head i2.new.next (subst (Between a.edges.now.sources.now a.edges.now.sinks.now) (sym same) p.edges) (sym i2.auto.head) i.ensures i2.ensures
    k.new.self a.order.now v.new.marks v.new.order k2.new.self a.group.now v.result
    v.ensures (no-marks (length a.marks.now) (k.ensures.after (λ y e. e))) (k.ensures.len ∙ sym same) (no-marks (length v.new.marks) (k2.ensures.after (λ y e. e))) (k2.ensures.len ∙ v.auto.marks ∙ k.ensures.len ∙ sym same) (p.groups ∙ sym same) in
    rw (c.into_iter-root-iterator.ensures.into_iter_gives, c.rev-root-items.ensures.source, c.iter.ensures.rest) (all-left (visited-room v.ensures) start)

pub slice_bounds-iter-end : goal.slice_bounds-iter-end
slice_bounds-iter-end c = visited-room c.visit_order-count.ensures

pub slice_bounds-iter-end-2 : goal.slice_bounds-iter-end-2
slice_bounds-iter-end-2 c = sym (length-take-le c.visit_order-count.result c.visit_order-count.new.order (visited-room c.visit_order-count.ensures))

pub bounds-marks-root : goal.bounds-marks-root
bounds-marks-root c = omega (arith, left-node c.loop-root.invariant _ _ c.in-Some.ensures.steps, c.loop-root.invariant.sweeping.marks)

pub collect-requires : goal.collect-requires
collect-requires c = let w = c.loop-root.invariant in (left-open w _ _ c.in-Some.ensures.steps, left-node w _ _ c.in-Some.ensures.steps, c.if-marks-root-eq0.true)

pub loop-root-preserved-then-marks-root-eq0 : goal.loop-root-preserved-then-marks-root-eq0
loop-root-preserved-then-marks-root-eq0 c = left-new c.loop-root.invariant _ _ c.in-Some.ensures.steps c.if-marks-root-eq0.true c.collect.ensures

pub loop-root-preserved : goal.loop-root-preserved
loop-root-preserved c = left-old c.loop-root.invariant _ _ c.in-Some.ensures.steps c.if-marks-root-eq0.false

pub returns : goal.returns
returns c =
    let a = c.args in
    let l = c.loop-root in
    let same = c.index_within-2.auto.head ∙ c.index_within.auto.head ∙ c.requires.heads in
    subst (λ k. Grouped (edges_between a.edges.now.sources.now a.edges.now.sinks.now) k l.group) same (sweep-end _ l.invariant.sweeping c.in-None.ensures.steps.0)
