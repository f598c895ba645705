-- The line is found. Assumes nothing.
use Rattle.reader.proofs.LineSteps.{line_found}
use Rattle.reader.proofs.lines.named_line.Goals as goal

pub returns : goal.returns
returns c = let e = c.in_ok-value.ensures.cases in line_found _ _ _ c.in_ok-end.ensures _ e.0 e.1 e.2
