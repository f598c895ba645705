-- Which nodes are compressed, and the projected edges between the others, over nodes 0 to n - 1. Assumes nothing: these are definitions.
use Rattle.std.specs.Prelude.{Bool, not, cond, ◌&&◌, ℕ, eqb, length}
use mathlib.Core.List.{List, ◌∷◌, map, flat_map}
use Rattle.rules.specs.Lists.{keep, count, indices}
use Rattle.rules.specs.Ordered.{key_at}
use Rattle.rules.specs.Positions.{named_entry, id_at}
use Rattle.rules.specs.Graph.{Edge, source_of, sink_of, starts_at, in_count, out_count}
use Rattle.rules.specs.Projection.{ProjectedEdge, chain, projected_by}

-- "A Wire, Conductor or Delay with exactly one incoming and one outgoing edge is compressed; all others are retained." A node is one of the
-- three where its number in `compressible` is not 0
abbrev pub compressed_node : List Edge → (compressible : List ℕ) → ℕ → Bool
compressed_node es compressible v = not (eqb (key_at compressible v) 0) && (eqb (in_count es v) 1 && eqb (out_count es v) 1)

-- "1 for retained and 0 for compressed"
unfoldable pub node_marks : List Edge → (compressible : List ℕ) → (n : ℕ) → List ℕ
node_marks es compressible n = map (λ v. cond (compressed_node es compressible v) 0 1) (indices n)

unfoldable pub retained_count : List Edge → (compressible : List ℕ) → (n : ℕ) → ℕ
retained_count es compressible n = count (λ v. not (compressed_node es compressible v)) (indices n)

-- the edges out of a node are DelayedInvert where its number is not 0
abbrev pub inverts_from : (inverts : List ℕ) → ℕ → Bool
inverts_from inverts v = not (eqb (key_at inverts v) 0)

-- "From each retained component by rising id, along each outgoing edge in list order, the chain is walked through compressed components.":
-- the entries of list 6 with their paths, by the names of the nodes. `order` has the nodes by rising name.
-- Crate laws, ByPosition, projected-by-position, says that these are a scene's projected edges
unfoldable pub projected_entries : (ids : List ℕ) → List Edge → (low high inverts compressible order : List ℕ) → List ProjectedEdge
projected_entries ids es low high inverts compressible order =
    map (named_entry (id_at ids))
    (map (λ e. projected_by (key_at low) (key_at high) (inverts_from inverts) e (source_of e ∷ chain (length es) es (compressed_node es compressible) (sink_of e)))
    (flat_map (λ v. keep (starts_at v) es) (keep (λ v. not (compressed_node es compressible v)) order)))
