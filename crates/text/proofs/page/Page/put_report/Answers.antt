-- The parts of the report, one after the other. Assumes nothing.
use Rattle.rules.specs.Assess.{stored_edge}
use Rattle.text.specs.ReportLists.{projected_row, report_by}
use Rattle.text.proofs.PutSteps.{room_first, room_next, put_next}
use Rattle.text.proofs.page.Page.put_report.Goals as goal

pub put_scope-requires : goal.put_scope-requires
unfolding report_by projected_row stored_edge
put_scope-requires c = room_first _ _ _ c.requires.room

pub put_line-requires : goal.put_line-requires
unfolding report_by projected_row stored_edge
put_line-requires c = room_first _ _ _ (room_next c.put_scope.ensures _ c.requires.room)

pub put_reasons-requires-clause-room : goal.put_reasons-requires-clause-room
unfolding report_by projected_row stored_edge
put_reasons-requires-clause-room c = room_first _ _ _ (room_next c.put_line.ensures _ (room_next c.put_scope.ensures _ c.requires.room))

pub put_line-requires-2 : goal.put_line-requires-2
unfolding report_by projected_row stored_edge
put_line-requires-2 c = room_first _ _ _ (room_next c.put_reasons.ensures _ (room_next c.put_line.ensures _ (room_next c.put_scope.ensures _ c.requires.room)))

pub put_line-requires-3 : goal.put_line-requires-3
unfolding report_by projected_row stored_edge
put_line-requires-3 c = room_first _ _ _ (room_next c.put_line-2.ensures _ (room_next c.put_reasons.ensures _ (room_next c.put_line.ensures _ (room_next c.put_scope.ensures _ c.requires.room))))

pub put_line-requires-4 : goal.put_line-requires-4
unfolding report_by projected_row stored_edge
put_line-requires-4 c = room_first _ _ _ (room_next c.put_line-3.ensures _ (room_next c.put_line-2.ensures _ (room_next c.put_reasons.ensures _ (room_next c.put_line.ensures _ (room_next c.put_scope.ensures _ c.requires.room)))))

pub put_edges-requires-clause-room : goal.put_edges-requires-clause-room
unfolding report_by projected_row stored_edge
put_edges-requires-clause-room c = room_first _ _ _ (room_next c.put_line-4.ensures _ (room_next c.put_line-3.ensures _ (room_next c.put_line-2.ensures _ (room_next c.put_reasons.ensures _ (room_next c.put_line.ensures _ (room_next c.put_scope.ensures _ c.requires.room))))))

pub put_pattern-requires : goal.put_pattern-requires
unfolding report_by projected_row stored_edge
put_pattern-requires c = room_first _ _ _ (room_next c.put_edges.ensures _ (room_next c.put_line-4.ensures _ (room_next c.put_line-3.ensures _ (room_next c.put_line-2.ensures _ (room_next c.put_reasons.ensures _ (room_next c.put_line.ensures _ (room_next c.put_scope.ensures _ c.requires.room)))))))

pub put_labels-requires-clause-room : goal.put_labels-requires-clause-room
unfolding report_by projected_row stored_edge
put_labels-requires-clause-room c = room_next c.put_pattern.ensures _ (room_next c.put_edges.ensures _ (room_next c.put_line-4.ensures _ (room_next c.put_line-3.ensures _ (room_next c.put_line-2.ensures _ (room_next c.put_reasons.ensures _ (room_next c.put_line.ensures _ (room_next c.put_scope.ensures _ c.requires.room)))))))

pub returns : goal.returns
unfolding report_by projected_row stored_edge
returns c = put_next c.put_scope.ensures (put_next c.put_line.ensures (put_next c.put_reasons.ensures (put_next c.put_line-2.ensures (put_next c.put_line-3.ensures (put_next c.put_line-4.ensures (put_next c.put_edges.ensures (put_next c.put_pattern.ensures c.put_labels.ensures)))))))
