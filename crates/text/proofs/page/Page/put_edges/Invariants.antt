-- The edges that are put. Assumes nothing.
use Rattle.rules.specs.Lists.{rows}
use Rattle.text.specs.Page.{Put}
use Rattle.text.specs.ReportLists.{projected_rows}
use Rattle.text.proofs.page.Page.put_edges.Given as goal

abbrev pub invariant-loop-k : goal.invariant-loop-k
invariant-loop-k l = Put (rows (projected_rows l.edges) l.k) l.fn.self l.self
