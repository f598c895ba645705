-- Path sums of components, and labels from them. Assumes nothing: these are definitions.
use Rattle.std.specs.Prelude.{cond, List, map, ◌≡◌, ℕ, ◌≤◌, eqb, length}
use Rattle.rules.specs.Lists.{keep, indices, written}
use Rattle.rules.specs.Ordered.{key_at}
use Rattle.rules.specs.Graph.{Edge, settled}
use Rattle.rules.specs.Paths.{smallest_sum, largest_sum}
use Rattle.rules.specs.Reasons.{unequal_at}
use Rattle.graph.specs.Adjacency.{Below}
use Rattle.reasons.specs.Listing.{Linked}

-- the columns of list 8
pub record LabelColumns : Type 0 where
  pub settled : List ℕ
  pub lows : List ℕ
  pub highs : List ℕ

abbrev pub label_columns : (settled lows highs : List ℕ) → LabelColumns
label_columns fs ls hs = record { settled = fs; lows = ls; highs = hs }

-- edges between n positions, positions to look at, and room for what is found of them
pub record Summable (n : ℕ) (starts stops order : List ℕ) (labels : LabelColumns) (unequal : List ℕ) : Type 0 where
  pub linked : Linked starts stops n
  pub positions : Below n order
  pub places : length order ≤ length unequal
  pub settled_room : n ≤ length labels.settled
  pub smallest_room : n ≤ length labels.lows
  pub largest_room : n ≤ length labels.highs

-- what is found of n components by their delays; list 8 holds the sums of every component, unequal the positions of unequal delays
pub record PathsSummed (es : List Edge) (d : ℕ → ℕ) (n : ℕ) (order : List ℕ) (labels labels' : LabelColumns) (unequal : List ℕ) : Type 0 where
  pub settled_marked : labels'.settled ≡ written labels.settled (map (λ v. cond (settled es v) 1 0) (indices n))
  pub smallest_found : labels'.lows ≡ written labels.lows (map (smallest_sum es d) (indices n))
  pub largest_found : labels'.highs ≡ written labels.highs (map (largest_sum es d) (indices n))
  pub unequal_found : unequal ≡ keep (unequal_at es d d) order

-- a sum, or 0 where the component is not settled
abbrev pub cleared_sum : (settles sums : List ℕ) → ℕ → ℕ
cleared_sum settles sums i = cond (eqb (key_at settles i) 0) 0 (key_at sums i)

-- the sums of the first n components are cleared so
pub record Cleared (n : ℕ) (labels labels' : LabelColumns) : Type 0 where
  pub flags_kept : labels'.settled ≡ labels.settled
  pub lows_cleared : labels'.lows ≡ written labels.lows (map (cleared_sum labels.settled labels.lows) (indices n))
  pub highs_cleared : labels'.highs ≡ written labels.highs (map (cleared_sum labels.settled labels.highs) (indices n))
