-- The tests of lengths, in their order. Assumes nothing.
use native.Mathlib.Omega.{arith}
use mathlib.Core.Path.{◌∙◌}
use Rattle.rules.specs.Refusals.{component_lengths, connection_lengths}
use Rattle.rules.proofs.FirstRefusal.{flag-set, flag-clear}
use Rattle.scene.proofs.SizeSteps.{components-differ, connections-differ, many-components, many-connections, then-outputs}
use Rattle.scene.proofs.sizes.check_sizes.Goals as goal

pub returns-then-lengths_differ : goal.returns-then-lengths_differ
unfolding component_lengths
returns-then-lengths_differ c = c.refused.ensures ∙ components-differ _ _ _ _ (flag-set c.lengths_differ.ensures c.if-lengths_differ.true)

pub returns-then-lengths_differ-2 : goal.returns-then-lengths_differ-2
unfolding component_lengths connection_lengths
returns-then-lengths_differ-2 c = c.refused-then-lengths_differ-2.ensures ∙ connections-differ _ _ _ _ (flag-clear c.lengths_differ.ensures c.if-lengths_differ.false) (flag-set c.lengths_differ-2.ensures c.if-lengths_differ-2.true)

pub returns-then-n-gt-MAX_COMPONENTS : goal.returns-then-n-gt-MAX_COMPONENTS
unfolding component_lengths connection_lengths
returns-then-n-gt-MAX_COMPONENTS c = c.refused-then-n-gt-MAX_COMPONENTS.ensures ∙ many-components _ _ _ _ (flag-clear c.lengths_differ.ensures c.if-lengths_differ.false) (flag-clear c.lengths_differ-2.ensures c.if-lengths_differ-2.false) c.if-n-gt-MAX_COMPONENTS.true

pub returns-then-m-gt-MAX_CONNECTIONS : goal.returns-then-m-gt-MAX_CONNECTIONS
unfolding component_lengths connection_lengths
returns-then-m-gt-MAX_CONNECTIONS c = c.refused-then-m-gt-MAX_CONNECTIONS.ensures ∙ many-connections _ _ _ _ (flag-clear c.lengths_differ.ensures c.if-lengths_differ.false) (flag-clear c.lengths_differ-2.ensures c.if-lengths_differ-2.false) (omega (arith, c.if-n-gt-MAX_COMPONENTS.false)) c.if-m-gt-MAX_CONNECTIONS.true

pub returns : goal.returns
unfolding component_lengths connection_lengths
returns c = then-outputs _ _ _ _ (flag-clear c.lengths_differ.ensures c.if-lengths_differ.false) (flag-clear c.lengths_differ-2.ensures c.if-lengths_differ-2.false) (omega (arith, c.if-n-gt-MAX_COMPONENTS.false)) (omega (arith, c.if-m-gt-MAX_CONNECTIONS.false)) c.check_room.ensures
