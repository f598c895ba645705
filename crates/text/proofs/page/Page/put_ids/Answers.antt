-- The ids are put one after the other. Assumes nothing.
use Rattle.std.proofs.Common.{◌≡◌, ◌++◌, length, arith}
use Rattle.rules.specs.Bytes.{decimal}
use Rattle.rules.specs.Lists.{rows}
use Rattle.text.specs.Page.{Room}
use Rattle.text.proofs.PutSteps.{put_none, room_first, rows_none, rows_room, rows_more, ids_parts, first_is, ids_none, comma_row}
use Rattle.text.proofs.page.Page.put_ids.Goals as goal

pub returns-in_default : goal.returns-in_default
returns-in_default c = rw (ids_none _ c.in_default.ensures.cases) (put_none _ (omega (arith, c.requires.fits)))

room : (c : goal.After-row_known-1) → Room (decimal c.in-Some.first.now ++ rows (comma_row c.in-Some.others.now) (length c.in-Some.others.now)) c.args.self.now
room c = let e = c.in-Some.ensures.cases.0 in rw (ids_parts _ _ _ e, first_is _ _ _ e) at c.requires

pub put_number-requires : goal.put_number-requires
put_number-requires c = room_first _ _ _ (room c)

pub loop-id-init : goal.loop-id-init
loop-id-init c = let e = c.in-Some.ensures.cases.0 in rows_none _ _ _ (rw (first_is _ _ _ e) c.put_number.ensures)

pub put_named-requires : goal.put_named-requires
put_named-requires c = let e = c.in-Some.ensures.cases.0 in rows_room _ _ _ _ _ _ (rw (ids_parts _ _ _ e) at c.requires) c.loop-id.invariant (omega arith)

pub loop-id-preserved : goal.loop-id-preserved
loop-id-preserved c = rows_more _ _ _ _ c.loop-id.invariant c.put_named.ensures

pub returns : goal.returns
returns c =
    let e = c.in-Some.ensures.cases.0 in
    let done : length c.in-Some.others.now ≡ c.loop-id.id-index = omega arith in
    rw (ids_parts _ _ _ e, done) c.loop-id.invariant
