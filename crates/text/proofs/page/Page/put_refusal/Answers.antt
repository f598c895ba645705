-- The number, then the place. Assumes nothing.
use Rattle.rules.specs.Report.{refusal_text}
use Rattle.text.proofs.PutSteps.{room_first, room_next, put_next}
use Rattle.text.proofs.page.Page.put_refusal.Goals as goal

pub put_line-requires : goal.put_line-requires
unfolding refusal_text
put_line-requires c = rw c.from.ensures (room_first _ _ _ c.requires)

pub put_line-requires-2 : goal.put_line-requires-2
unfolding refusal_text
put_line-requires-2 c = room_next (rw c.from.ensures at c.put_line.ensures) _ c.requires

pub returns : goal.returns
unfolding refusal_text
returns c = put_next (rw c.from.ensures at c.put_line.ensures) c.put_line-2.ensures
