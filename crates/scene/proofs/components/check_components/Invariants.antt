-- The components are gone through in order. Assumes nothing.
use Prim.Native.Nat.{◌≤◌}
use lib.ListN.{length}
use Rattle.rules.specs.Lent.{components_lent}
use Rattle.scene.proofs.ComponentSteps.{AcceptedBelow}
use Rattle.scene.proofs.components.check_components.Given as goal

abbrev pub invariant-loop-i : goal.invariant-loop-i
invariant-loop-i l = AcceptedBelow (components_lent l.components) (length l.yielded) × (length l.yielded ≤ l.repeat)
