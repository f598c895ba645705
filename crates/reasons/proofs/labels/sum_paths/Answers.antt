-- Assumes nothing.
use Rattle.reasons.proofs.SumSteps.{by-delays}
use Rattle.reasons.proofs.labels.sum_paths.Goals as goal

pub returns-clause-summed : goal.returns-clause-summed
returns-clause-summed c = by-delays c.args.components.now.kinds.now c.args.components.now.delays.now c.fill_delays.ensures c.sum_delays.ensures.summed
