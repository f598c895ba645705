-- The labels that are put. Assumes nothing.
use Rattle.rules.specs.Lists.{rows}
use Rattle.text.specs.Page.{Put}
use Rattle.text.specs.ReportLists.{label_rows}
use Rattle.text.proofs.page.Page.put_labels.Given as goal

abbrev pub invariant-loop-k : goal.invariant-loop-k
invariant-loop-k l = Put (rows (label_rows l.ids l.labels) l.k) l.fn.self l.self
