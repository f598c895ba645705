-- The name, the number and the line's end. Assumes nothing.
use Rattle.std.proofs.Common.{append_assoc}
use Rattle.text.proofs.PutSteps.{room_next, put_next}
use Rattle.text.proofs.page.Page.put_line.Goals as goal

pub put_byte-requires : goal.put_byte-requires
put_byte-requires c = room_next c.put_named.ensures _ (rw (← append_assoc) at c.requires)

pub returns : goal.returns
returns c = rw (← append_assoc) (put_next c.put_named.ensures c.put_byte.ensures)
