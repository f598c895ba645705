-- The criterion of the component is that of its intent. Assumes nothing.
use Rattle.std.proofs.Common.{arith}
use Rattle.verdicts.proofs.Criteria.{judged-by}
use Rattle.transient.proofs.sought.SoughtCriterion.judge.Goals as goal

pub returns-clause-judged : goal.returns-clause-judged
returns-clause-judged c =
    judged-by (rw (c.attend.ensures.trace, c.attend.ensures.component) at c.attend.new.self.judges) (omega arith) c.classify.ensures.verdict c.classify.ensures.rationale
