-- The reasons that are put. Assumes nothing.
use Rattle.rules.specs.Lists.{rows}
use Rattle.text.specs.Page.{Put}
use Rattle.text.specs.ReportLists.{reason_rows}
use Rattle.text.proofs.page.Page.put_reasons.Given as goal

abbrev pub invariant-loop-k : goal.invariant-loop-k
invariant-loop-k l = Put (rows (reason_rows l.feedback l.reasons) l.k) l.fn.self l.self
