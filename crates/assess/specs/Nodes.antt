-- What the projection gets to know of each component, and what it needs of the lists lent. Assumes nothing: these are definitions.
use Rattle.std.specs.Prelude.{cond, List, map, ℕ, length}
use Rattle.rules.specs.Lists.{indices}
use Rattle.rules.specs.Ordered.{key_at}
use Rattle.rules.specs.Kinds.{kind_row, component_delay}
use Rattle.rules.specs.Projection.{is_delayed_invert, compressible_kind}

-- a delay for each component, and 1 or 0 for what its kind is
unfoldable pub delays_of : (kinds delays : List ℕ) → List ℕ
delays_of kinds delays = map (λ i. component_delay (key_at kinds i) (key_at delays i)) (indices (length kinds))

unfoldable pub inverts_of : (kinds : List ℕ) → List ℕ
inverts_of kinds = map (λ i. cond (is_delayed_invert (kind_row (key_at kinds i)).behavior) 1 0) (indices (length kinds))

unfoldable pub compressible_of : (kinds : List ℕ) → List ℕ
compressible_of kinds = map (λ i. cond (compressible_kind (kind_row (key_at kinds i)).node) 1 0) (indices (length kinds))
