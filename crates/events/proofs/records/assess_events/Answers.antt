-- More events than a trace may have are refused. Assumes nothing.
use Rattle.rules.specs.Lent.{contracts_lent, findings_lent}
use Rattle.events.proofs.Refusing.{too-many}
use Rattle.events.proofs.records.assess_events.Goals as goal

pub returns-then-count-gt-MAX_EVENTS-clause-assessed : goal.returns-then-count-gt-MAX_EVENTS-clause-assessed
returns-then-count-gt-MAX_EVENTS-clause-assessed c = too-many c.args.unit c.args.events.now (contracts_lent c.args.contracts.now) (findings_lent c.args.findings.now) c.if-count-gt-MAX_EVENTS.true c.too_many.ensures
