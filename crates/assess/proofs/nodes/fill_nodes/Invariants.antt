-- The components are gone through in order. Assumes nothing.
use Rattle.assess.proofs.NodeSteps.{NodesBelow}
use Rattle.assess.proofs.nodes.fill_nodes.Given as goal

abbrev pub invariant-loop-i : goal.invariant-loop-i
invariant-loop-i l = NodesBelow l.components l.initial.nodes l.nodes l.i
