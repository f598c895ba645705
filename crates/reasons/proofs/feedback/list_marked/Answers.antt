-- Assumes nothing.
use mathlib.Core.Bool.{true, false}
use mathlib.Core.Path.{sym, ◌∙◌}
use native.Mathlib.Omega.{arith}
use lib.ListN.{length, length-append}
use Rattle.reasons.proofs.ListingSteps.{listed_start, listed_more}
use Rattle.reasons.proofs.SideBySide.{turn}
use Rattle.reasons.proofs.feedback.list_marked.Goals as goal

pub loop-id-init : goal.loop-id-init
loop-id-init c = listed_start c.args.ids.now c.args.kinds.now c.args.marks.now c.args.feedback_ids.now

pub loop-id-preserved-then-is_listed : goal.loop-id-preserved-then-is_listed
loop-id-preserved-then-is_listed c =
    let t = turn c.args.ids.now c.args.kinds.now c.args.marks.now c.requires.kinds_length c.requires.marks_room _ _ c.next.new.self (cc) (cc) (cc) c.loop-id.yielded c.loop-id.yielded_by _ _ c.in-Some.is c.next.ensures.steps in
    rw (length-append c.loop-id.yielded, t.1) (listed_more c.args.ids.now c.args.kinds.now c.args.marks.now c.args.feedback_ids.now (length c.loop-id.yielded) c.loop-id.count c.loop-id.feedback_ids true (rw (t.2, t.3) at (sym c.if-is_listed.true ∙ c.is_listed.ensures)) (omega (arith, c.requires.room)) c.loop-id.invariant)

pub loop-id-preserved : goal.loop-id-preserved
loop-id-preserved c =
    let t = turn c.args.ids.now c.args.kinds.now c.args.marks.now c.requires.kinds_length c.requires.marks_room _ _ c.next.new.self (cc) (cc) (cc) c.loop-id.yielded c.loop-id.yielded_by _ _ c.in-Some.is c.next.ensures.steps in
    rw (length-append c.loop-id.yielded) (listed_more c.args.ids.now c.args.kinds.now c.args.marks.now c.args.feedback_ids.now (length c.loop-id.yielded) c.loop-id.count c.loop-id.feedback_ids false (rw (t.2, t.3) at (sym c.if-is_listed.false ∙ c.is_listed.ensures)) (omega (arith, c.requires.room)) c.loop-id.invariant)
