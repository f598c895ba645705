-- `list_first_edges` lists the chains of the retained nodes. Assumes nothing.
use Rattle.std.proofs.Common.{take}
use Rattle.projection.specs.Marking.{linked, firsts_by, RowWritten}
use Rattle.projection.proofs.first_edges.list_first_edges.Given as goal

abbrev pub invariant-loop-v : goal.invariant-loop-v
invariant-loop-v l = RowWritten (firsts_by (linked l.links.head.now l.links.next.now) l.marks (take l.v-index l.order)) 0 l.initial.firsts l.firsts l.count
