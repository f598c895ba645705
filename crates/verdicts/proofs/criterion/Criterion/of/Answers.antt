-- The criterion of an intent judges as the intent does. Assumes nothing.
use Rattle.std.specs.Prelude.{Some, None}
use Rattle.verdicts.proofs.Criteria.{criterion-judges}
use Rattle.verdicts.proofs.criterion.Criterion.of.Goals as goal

pub returns-in-None-clause-judges : goal.returns-in-None-clause-judges
returns-in-None-clause-judges c = rw (c.in-None.is, c.alike.ensures) (criterion-judges None c.args.unit)

pub returns-in-Some-clause-judges : goal.returns-in-Some-clause-judges
returns-in-Some-clause-judges c = rw (c.in-Some.is, c.registered.ensures) (criterion-judges (Some c.in-Some.registered) c.args.unit)
