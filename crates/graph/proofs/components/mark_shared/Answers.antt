-- `mark_shared` marks the nodes that share their group. Assumes nothing.
use native.Mathlib.Omega.{arith}
use Rattle.graph.proofs.SharedMarks.{marking-end}
use Rattle.graph.proofs.components.mark_shared.Goals as goal

pub returns : goal.returns
returns c = marking-end _ _ _ _ c.requires c.loop-u.invariant (omega arith)
