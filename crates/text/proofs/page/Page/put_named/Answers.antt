-- The name, then the number. Assumes nothing.
use Rattle.text.proofs.PutSteps.{room_next, put_next}
use Rattle.text.proofs.page.Page.put_named.Goals as goal

pub put_number-requires : goal.put_number-requires
put_number-requires c = room_next c.put.ensures _ c.requires

pub returns : goal.returns
returns c = put_next c.put.ensures c.put_number.ensures
