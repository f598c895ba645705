-- The edges are gone through in order. Assumes nothing.
use Rattle.rules.specs.Lent.{SameTimedEdges}
use Rattle.describe.proofs.EdgeSteps.{EdgesBelow}
use Rattle.describe.proofs.edges.list_timed_edges.Given as goal

abbrev pub invariant-loop-e : goal.invariant-loop-e
invariant-loop-e l = SameTimedEdges l.initial.lists l.lists × EdgesBelow l.components l.edges l.initial.lists l.lists l.e
