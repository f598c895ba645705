-- The output lists are gone through in order. Assumes nothing.
use native.Mathlib.Omega.{arith}
use mathlib.Core.List.{[], ◌∷◌}
use mathlib.Core.Path.{sym, ap, ◌∙◌}
use lib.ListN.{length-append}
use Rattle.rules.specs.Refusals.{need_of, refused}
use Rattle.rules.specs.declared.answers.RefusalKind.TheVariants.{ListTooShort}
use Rattle.scene.proofs.Room.{list-turn, list-end, room-more, room-short, room-end}
use Rattle.scene.proofs.sizes.check_room.Goals as goal

pub returns-then-length-need_of : goal.returns-then-length-need_of
returns-then-length-need_of c =
    let t = list-turn c.args.first c.args.room.now _ (cc) (cc) _ _ c.loop-list.yielded_by _ c.next.new.self c.next.ensures.steps _ _ c.in-Some.is in
    let need = c.need_of.ensures ∙ ap (need_of c.args.n c.args.m) t.1 in
    c.refused.ensures ∙ ap (refused ListTooShort) t.1 ∙ room-short _ _ _ _ _ t.0 (omega (arith, t.2, need)) ∙ sym c.loop-list.invariant

pub loop-list-preserved : goal.loop-list-preserved
loop-list-preserved c =
    let t = list-turn c.args.first c.args.room.now _ (cc) (cc) _ _ c.loop-list.yielded_by _ c.next.new.self c.next.ensures.steps _ _ c.in-Some.is in
    let need = c.need_of.ensures ∙ ap (need_of c.args.n c.args.m) t.1 in
    let more = length-append c.loop-list.yielded ((c.in-Some.list, c.in-Some.field-0-1) ∷ []) in
    c.loop-list.invariant ∙ room-more _ _ _ _ _ _ _ t.0 (omega (arith, t.2, need)) (omega arith) (omega arith)

pub returns : goal.returns
returns c = room-end _ _ _ _ _ (list-end c.args.first c.args.room.now _ (cc) (cc) _ _ c.loop-list.yielded_by _ c.next.new.self c.next.ensures.steps c.in-None.is) ∙ sym c.loop-list.invariant
