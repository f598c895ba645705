-- `mark_nodes` marks the nodes one by one. Assumes nothing.
use mathlib.Core.Bool.{not}
use mathlib.Core.Path.{ap}
use native.Mathlib.Omega.{arith}
use Rattle.projection.proofs.MarkSteps.{marked-none, marked-few, marked_more}
use Rattle.projection.proofs.marks.mark_nodes.Goals as goal

pub loop-v-init : goal.loop-v-init
loop-v-init c = marked-none _ _ _ _ _ c.requires.nodes

pub overflow_add-retained : goal.overflow_add-retained
overflow_add-retained c = omega (arith, marked-few _ _ _ _ _ _ _ c.loop-v.invariant, c.from-retained.ensures)

pub loop-v-preserved : goal.loop-v-preserved
loop-v-preserved c = rw (c.from.ensures, c.from-retained.ensures) (marked_more _ _ _ _ _ _ _ c.loop-v.invariant (omega arith) _ (ap not c.is_compressed-kept.ensures))
