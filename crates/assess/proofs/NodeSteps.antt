-- What is known of the components is filled in as they are gone through in order. Assumes nothing.
use Rattle.std.proofs.Common.{cond, ℕ}
use Rattle.rules.specs.Ordered.{key_at}
use Rattle.rules.specs.Kinds.{kind_row, component_delay}
use Rattle.rules.specs.Projection.{is_delayed_invert, compressible_kind}
use Rattle.rules.specs.declared.lent.Components.{Components}
use Rattle.rules.proofs.Made.{Made}
use Rattle.assess.specs.declared.nodes.NodeLists.{NodeLists}

pub record NodesBelow (c : Components) (old now : NodeLists) (i : ℕ) : Type 0 where
  pub low : Made (λ k. component_delay (key_at c.kinds.now k) (key_at c.delays.now k)) 0 old.low now.low i
  pub inverts : Made (λ k. cond (is_delayed_invert (kind_row (key_at c.kinds.now k)).behavior) 1 0) 0 old.inverts now.inverts i
  pub compressible : Made (λ k. cond (compressible_kind (kind_row (key_at c.kinds.now k)).node) 1 0) 0 old.compressible now.compressible i
