-- `walk` writes the nodes of one chain, one by one. Assumes nothing.
use Rattle.std.proofs.Common.{suc, ◌+◌, ◌-◌, length}
use Rattle.projection.specs.Lent.{graph_lent}
use Rattle.projection.proofs.WalkSteps.{Going}
use Rattle.projection.proofs.marked.MarkedGraph.walk.Given as goal

abbrev pub invariant-loop-v : goal.invariant-loop-v
invariant-loop-v l = Going (graph_lent l.self) l.first l.start l.initial.path_ids l.path_ids l.v l.e l.end l.delay l.inverted

abbrev pub decreases-loop-v : goal.decreases-loop-v
decreases-loop-v l = (l.start + suc (length l.self.edges.sources.now)) - l.end
