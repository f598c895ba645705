-- The components are gone through in order. Assumes nothing.
use Rattle.std.proofs.Common.{arith}
use Rattle.rules.proofs.Made.{made_none, made_more}
use Rattle.describe.proofs.edges.fill_timings.Goals as goal

pub loop-i-init : goal.loop-i-init
loop-i-init c = made_none _ 0 _

pub loop-i-preserved : goal.loop-i-preserved
loop-i-preserved c = made_more _ 0 _ c.loop-i.i _ _ _ (omega arith) (omega arith) c.edge_timing.ensures c.loop-i.invariant
