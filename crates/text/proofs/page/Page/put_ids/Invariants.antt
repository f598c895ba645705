-- The ids that are put. Assumes nothing.
use Rattle.std.proofs.Common.{◌++◌, get_or}
use Rattle.rules.specs.Bytes.{decimal}
use Rattle.rules.specs.Lists.{rows}
use Rattle.text.specs.Page.{Put}
use Rattle.text.proofs.PutSteps.{comma_row}
use Rattle.text.proofs.page.Page.put_ids.Given as goal

abbrev pub invariant-loop-id : goal.invariant-loop-id
invariant-loop-id l = Put (decimal (get_or l.ids 0 0) ++ rows (comma_row l.others) l.id-index) l.fn.self l.self
