-- `sum_paths` starts the lists and takes the nodes. Assumes nothing.
use native.Mathlib.Omega.{arith}
use Rattle.reconvergence.proofs.Ending.{summed-edges}
use Rattle.reconvergence.proofs.Keeping.{timed-kept}
use Rattle.reconvergence.proofs.Starting.{started}
use Rattle.reconvergence.proofs.pass.sum_paths.Goals as goal

pub take_all-requires : goal.take_all-requires
take_all-requires c = (timed-kept c.args.edges.now c.args.delays.now c.requires.0 c.start-waiting.ensures.kept, started c.requires.0 c.start-waiting.ensures.started)

pub returns-clause-summed : goal.returns-clause-summed
returns-clause-summed c = let p = summed-edges c.requires.0.edges c.take_all.ensures.taken in grind (arith, p)
