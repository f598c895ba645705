-- The component's id, then its label. Assumes nothing.
use Rattle.rules.specs.Report.{label_lines}
use Rattle.text.specs.ReportLists.{label_row}
use Rattle.text.proofs.PutSteps.{room_first, room_next, put_next}
use Rattle.text.proofs.ReportSteps.{label_unsettled, label_between}
use Rattle.text.proofs.page.Page.put_label.Goals as goal

pub put_line-requires : goal.put_line-requires
unfolding label_row label_lines
put_line-requires c = room_first _ _ _ c.requires.room

pub put-requires : goal.put-requires
put-requires c = room_next c.put_line.ensures _ (rw (label_unsettled _ _ _ _ _ c.if-labels-k-eq0.true) at c.requires.room)

pub returns-then-labels-k-eq0 : goal.returns-then-labels-k-eq0
returns-then-labels-k-eq0 c = rw (label_unsettled _ _ _ _ _ c.if-labels-k-eq0.true) (put_next c.put_line.ensures c.put.ensures)

pub put_named-requires : goal.put_named-requires
put_named-requires c = room_first _ _ _ (room_next c.put_line.ensures _ (rw (label_between _ _ _ _ _ c.if-labels-k-eq0.false) at c.requires.room))

pub put_line-requires-2 : goal.put_line-requires-2
put_line-requires-2 c = room_next c.put_named.ensures _ (room_next c.put_line.ensures _ (rw (label_between _ _ _ _ _ c.if-labels-k-eq0.false) at c.requires.room))

pub returns : goal.returns
returns c = rw (label_between _ _ _ _ _ c.if-labels-k-eq0.false) (put_next c.put_line.ensures (put_next c.put_named.ensures c.put_line-2.ensures))
