-- `fill` writes a projected edge and its path for each first edge. Assumes nothing.
use Rattle.std.proofs.Common.{take}
use Rattle.rules.specs.Lent.{SameProjection}
use Rattle.projection.specs.Lent.{graph_lent, projection_lent}
use Rattle.projection.specs.Walking.{Filled}
use Rattle.projection.proofs.FillSteps.{Sizes}
use Rattle.projection.proofs.marked.MarkedGraph.fill.Given as goal

abbrev pub invariant-loop-k : goal.invariant-loop-k
invariant-loop-k l =
    SameProjection l.initial.projected l.projected
    × Filled (graph_lent l.self) (take l.k l.firsts) (projection_lent l.initial.projected) (projection_lent l.projected) l.end
    × Sizes (projection_lent l.initial.projected) (projection_lent l.projected)
