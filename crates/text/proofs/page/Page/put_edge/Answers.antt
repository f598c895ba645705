-- Six lines. Assumes nothing.
use Rattle.rules.specs.Report.{projected_lines}
use Rattle.rules.specs.Assess.{stored_edge}
use Rattle.text.specs.ReportLists.{projected_row}
use Rattle.text.proofs.PutSteps.{room_first, room_next, put_next}
use Rattle.text.proofs.page.Page.put_edge.Goals as goal

pub put_line-requires : goal.put_line-requires
unfolding projected_row stored_edge projected_lines
put_line-requires c = room_first _ _ _ c.requires.room

pub put_line-requires-2 : goal.put_line-requires-2
unfolding projected_row stored_edge projected_lines
put_line-requires-2 c = room_first _ _ _ (room_next c.put_line.ensures _ c.requires.room)

pub put_line-requires-3 : goal.put_line-requires-3
unfolding projected_row stored_edge projected_lines
put_line-requires-3 c = room_first _ _ _ (room_next c.put_line-2.ensures _ (room_next c.put_line.ensures _ c.requires.room))

pub put_line-requires-4 : goal.put_line-requires-4
unfolding projected_row stored_edge projected_lines
put_line-requires-4 c = room_first _ _ _ (room_next c.put_line-3.ensures _ (room_next c.put_line-2.ensures _ (room_next c.put_line.ensures _ c.requires.room)))

pub put_line-requires-5 : goal.put_line-requires-5
unfolding projected_row stored_edge projected_lines
put_line-requires-5 c = room_first _ _ _ (room_next c.put_line-4.ensures _ (room_next c.put_line-3.ensures _ (room_next c.put_line-2.ensures _ (room_next c.put_line.ensures _ c.requires.room))))

pub put_ids_line-requires : goal.put_ids_line-requires
unfolding projected_row stored_edge projected_lines
put_ids_line-requires c = rw c.projected_path-path.ensures (room_next c.put_line-5.ensures _ (room_next c.put_line-4.ensures _ (room_next c.put_line-3.ensures _ (room_next c.put_line-2.ensures _ (room_next c.put_line.ensures _ c.requires.room)))))

pub returns : goal.returns
unfolding projected_row stored_edge projected_lines
returns c = put_next c.put_line.ensures (put_next c.put_line-2.ensures (put_next c.put_line-3.ensures (put_next c.put_line-4.ensures (put_next c.put_line-5.ensures (rw c.projected_path-path.ensures at c.put_ids_line.ensures)))))
