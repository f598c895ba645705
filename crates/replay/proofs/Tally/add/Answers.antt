-- One text more. Assumes nothing.
use Rattle.std.proofs.Common.{rules}
use Rattle.replay.proofs.TallySteps.{same_more, other_more}
use Rattle.replay.proofs.Tally.add.Goals as goal

pub returns-then-not-same : goal.returns-then-not-same
returns-then-not-same c = λ sames tells. other_more c.args.self.now sames c.args.same c.or-self.result (search rules) (search rules) tells

pub returns-else-not-same : goal.returns-else-not-same
returns-else-not-same c = λ sames tells. same_more c.args.self.now sames c.args.same (search rules) tells
