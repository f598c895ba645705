-- Assumes nothing.
use native.Mathlib.Omega.{arith}
use lib.ListN.{length, length-append}
use Rattle.reasons.proofs.RowSteps.{same-then, without-loop, with-loop, temporal_few, temporal_room, temporal-own, temporal-none}
use Rattle.reasons.proofs.SideBySide.{turn}
use Rattle.reasons.proofs.rows.list_temporal_reasons.Goals as goal
use Rattle.reasons.proofs.rows.list_temporal_reasons.Goals.{then-feedback-gt0, else-feedback-gt0}

pub loop-id-init : goal.loop-id-init
loop-id-init c = elim c.if-feedback-gt0.branch [
  | then-feedback-gt0 w ↦ rw (w.reasons-is, w.count-is) (record { same = w.write_reason.ensures.same; below = with-loop c.args.components.now.ids.now c.args.components.now.kinds.now c.args.components.now.locked.now c.args.feedback w.if-feedback-gt0.true c.requires.2 w.write_reason.ensures.put })
  | else-feedback-gt0 w ↦ rw (w.reasons-is, w.count-is) (record { same = search; below = without-loop c.args.components.now.ids.now c.args.components.now.kinds.now c.args.components.now.locked.now c.args.feedback w.if-feedback-gt0.false })
]

pub write_reason-requires-in-Some-own_reason : goal.write_reason-requires-in-Some-own_reason
write_reason-requires-in-Some-own_reason c =
    let t = turn c.args.components.now.ids.now c.args.components.now.kinds.now c.args.components.now.locked.now c.requires.0 (omega arith) _ _ c.next.new.self (cc) (cc) (cc) c.loop-id.yielded c.loop-id.yielded_by _ _ c.in-Some.is c.next.ensures.steps in
    temporal_room c.args.components.now.ids.now c.args.components.now.kinds.now c.args.components.now.locked.now c.args.feedback c.requires.2 (length c.loop-id.yielded) c.loop-id.count c.loop-id.invariant.below t.0

pub overflow_add-count : goal.overflow_add-count
overflow_add-count c =
    let t = turn c.args.components.now.ids.now c.args.components.now.kinds.now c.args.components.now.locked.now c.requires.0 (omega arith) _ _ c.next.new.self (cc) (cc) (cc) c.loop-id.yielded c.loop-id.yielded_by _ _ c.in-Some.is c.next.ensures.steps in
    omega (arith, temporal_few c.args.components.now.ids.now c.args.components.now.kinds.now c.args.components.now.locked.now c.args.feedback c.requires.2 (length c.loop-id.yielded) c.loop-id.count c.loop-id.invariant.below)

pub loop-id-preserved-in-Some-own_reason : goal.loop-id-preserved-in-Some-own_reason
loop-id-preserved-in-Some-own_reason c =
    let t = turn c.args.components.now.ids.now c.args.components.now.kinds.now c.args.components.now.locked.now c.requires.0 (omega arith) _ _ c.next.new.self (cc) (cc) (cc) c.loop-id.yielded c.loop-id.yielded_by _ _ c.in-Some.is c.next.ensures.steps in
    rw (length-append c.loop-id.yielded) (record {
      same = same-then c.loop-id.invariant.same c.write_reason-in-Some-own_reason.ensures.same;
      below = temporal-own c.args.components.now.ids.now c.args.components.now.kinds.now c.args.components.now.locked.now c.args.feedback c.requires.2 (length c.loop-id.yielded) c.loop-id.count c.loop-id.invariant.below t.0 (rw (t.1, t.2, t.3) at c.in-Some-own_reason.ensures) c.write_reason-in-Some-own_reason.ensures.put;
    })

pub loop-id-preserved : goal.loop-id-preserved
loop-id-preserved c =
    let t = turn c.args.components.now.ids.now c.args.components.now.kinds.now c.args.components.now.locked.now c.requires.0 (omega arith) _ _ c.next.new.self (cc) (cc) (cc) c.loop-id.yielded c.loop-id.yielded_by _ _ c.in-Some.is c.next.ensures.steps in
    rw (length-append c.loop-id.yielded) (record {
      same = c.loop-id.invariant.same;
      below = temporal-none c.args.components.now.ids.now c.args.components.now.kinds.now c.args.components.now.locked.now c.args.feedback (length c.loop-id.yielded) c.loop-id.count (rw (t.1, t.2, t.3) at c.in_default.ensures) c.loop-id.invariant.below;
    })
