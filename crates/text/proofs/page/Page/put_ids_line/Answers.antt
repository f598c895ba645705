-- The name, the ids and the line's end. Assumes nothing.
use Rattle.text.proofs.PutSteps.{room_first, room_next, put_next}
use Rattle.text.proofs.page.Page.put_ids_line.Goals as goal

pub put_ids-requires : goal.put_ids-requires
put_ids-requires c = room_first _ _ _ (room_next c.put.ensures _ c.requires)

pub put_byte-requires : goal.put_byte-requires
put_byte-requires c = room_next c.put_ids.ensures _ (room_next c.put.ensures _ c.requires)

pub returns : goal.returns
returns c = put_next c.put.ensures (put_next c.put_ids.ensures c.put_byte.ensures)
