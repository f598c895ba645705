-- Paths and their sums. Assumes nothing: these are definitions.
use Rattle.std.specs.Prelude.{Bool, not, cond, ◌&&◌, ◌≡◌, ℕ, zero, suc, ◌+◌, ◌≤◌, min, max, length}
use mathlib.Core.List.{List, [], ◌∷◌, ◌++◌, map, flat_map, Memᴰ}
use Rattle.rules.specs.Lists.{any, keep}
use Rattle.rules.specs.Delay.{saturating_add}
use Rattle.rules.specs.Graph.{Edge, ◌⟶◌, source_of, ends_at, settled, Settled}

-- no edge ends at v
unfoldable pub no_incoming : List Edge → ℕ → Bool
no_incoming es v = not (any (ends_at v) es)

-- an edge into v from a settled source
abbrev pub enters_settled : List Edge → ℕ → Edge → Bool
enters_settled es v e = ends_at v e && settled es (source_of e)

-- the sources of the edges into v that are settled, one for each such edge
unfoldable pub settled_sources : List Edge → ℕ → List ℕ
settled_sources es v = map source_of (keep (enters_settled es v) es)

-- "a path to a component is a row of one or more components ending there, each joined to the next by an edge, whose first has no
-- incoming edge and whose components before the last are settled". A row is given by its components before the last, the nearest first.
-- These are the rows with at most k components
unfoldable pub paths_within : ℕ → List Edge → ℕ → List (List ℕ)
paths_within zero es v = []
paths_within (suc k) es v =
    cond (no_incoming es v) ([] ∷ []) [] ++ flat_map (λ u. map (λ p. u ∷ p) (paths_within k es u)) (settled_sources es v)

-- all of them: a path has at most one component more than there are edges (proofs/Paths, path_short)
unfoldable pub paths_to : List Edge → ℕ → List (List ℕ)
paths_to es v = paths_within (suc (length es)) es v

-- "its sum adds the delays of all but the last", which a row leaves out; it stops at 4,294,967,295. A component without incoming edges
-- has the empty row with sum 0: "A settled component without incoming edges has range 0 to 0."
unfoldable pub delay_sum : (ℕ → ℕ) → List ℕ → ℕ
delay_sum d [] = 0
delay_sum d (u ∷ p) = saturating_add (delay_sum d p) (d u)

-- the same without a stop; crate laws shows that no sum of an accepted scene reaches the stop
unfoldable pub total : (ℕ → ℕ) → List ℕ → ℕ
total d [] = 0
total d (u ∷ p) = d u + total d p

-- the extreme one of some numbers by a choice between two of them, `min` or `max`, and 0 of none
unfoldable pub extreme : (ℕ → ℕ → ℕ) → List ℕ → ℕ
extreme f [] = 0
extreme f (x ∷ []) = x
extreme f (x ∷ y ∷ ys) = f x (extreme f (y ∷ ys))

-- the extreme sum of the paths to v
unfoldable pub extreme_sum : (ℕ → ℕ → ℕ) → List Edge → (ℕ → ℕ) → ℕ → ℕ
extreme_sum f es d v = extreme f (map (delay_sum d) (paths_to es v))

abbrev pub smallest_sum : List Edge → (ℕ → ℕ) → ℕ → ℕ
smallest_sum es low v = extreme_sum min es low v

abbrev pub largest_sum : List Edge → (ℕ → ℕ) → ℕ → ℕ
largest_sum es high v = extreme_sum max es high v

-- Paths and sums without computation; proofs/Paths and proofs/Ranges show that they agree
pub data PathTo (es : List Edge) : ℕ → List ℕ → Type 0 where
  only : {v : ℕ} → ((u : ℕ) → Memᴰ (u ⟶ v) es → ⊥) → PathTo es v []
  then : {v u : ℕ} {p : List ℕ} → Memᴰ (u ⟶ v) es → Settled es u → PathTo es u p → PathTo es v (u ∷ p)

-- n is the sum of a path to v, and it bounds the sum of every path
pub record IsExtreme (Bounds : ℕ → ℕ → Type 0) (es : List Edge) (sum : List ℕ → ℕ) (v n : ℕ) : Type 0 where
  pub path : List ℕ
  pub is_path : PathTo es v path
  pub has_sum : sum path ≡ n
  pub bounds : (p : List ℕ) → PathTo es v p → Bounds n (sum p)

-- "the smallest and the largest over all paths to it"
abbrev pub Smallest : List Edge → (List ℕ → ℕ) → ℕ → ℕ → Type 0
Smallest es sum v n = IsExtreme (λ a b. a ≤ b) es sum v n

abbrev pub Largest : List Edge → (List ℕ → ℕ) → ℕ → ℕ → Type 0
Largest es sum v n = IsExtreme (λ a b. b ≤ a) es sum v n
