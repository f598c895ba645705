-- What listing the marked components needs and gives. Assumes nothing: these are definitions.
use Rattle.std.specs.Prelude.{Bool, not, ◌&&◌, List, map, ◌≡◌, ℕ, ◌≤◌, eqb, length, get_or, take, replicate}
use Rattle.rules.specs.Graph.{edges_between, shared_marks}
use Rattle.rules.specs.Kinds.{kind_row}
use Rattle.rules.specs.Lists.{keep, indices}
use Rattle.rules.specs.Reasons.{passive}
use Rattle.rules.specs.Positions.{Inside}
use Rattle.rules.specs.Refusals.{scene_limits}
use Rattle.reconvergence.specs.Fits.{settled_marks}

-- the component is neither Wire nor Conductor, and has a mark
abbrev pub is_listed : (kinds marks : List ℕ) → ℕ → Bool
is_listed kinds marks i = not (passive (kind_row (get_or kinds i 0)).node) && not (eqb (get_or marks i 0) 0)

-- such positions among the first n, and their ids
abbrev pub listed_positions : (kinds marks : List ℕ) → ℕ → List ℕ
listed_positions kinds marks n = keep (is_listed kinds marks) (indices n)

unfoldable pub listed_ids : (ids kinds marks : List ℕ) → ℕ → List ℕ
listed_ids ids kinds marks n = map (λ i. get_or ids i 0) (listed_positions kinds marks n)

-- the same with the marks of positions that share their strongly connected component with a different one
unfoldable pub shared_positions : (kinds starts stops : List ℕ) → ℕ → List ℕ
shared_positions kinds starts stops n = listed_positions kinds (shared_marks (edges_between starts stops) n) n

unfoldable pub shared_ids : (ids kinds starts stops : List ℕ) → List ℕ
shared_ids ids kinds starts stops = listed_ids ids kinds (shared_marks (edges_between starts stops) (length ids)) (length ids)

-- a kind for each component, and room for its mark and its id
pub record Marked (ids kinds marks feedback : List ℕ) : Type 0 where
  pub kinds_length : length kinds ≡ length ids
  pub marks_room : length ids ≤ length marks
  pub room : length ids ≤ length feedback

-- edges between positions below n, within the limits of a scene
pub record Linked (starts stops : List ℕ) (n : ℕ) : Type 0 where
  pub pairs : length stops ≡ length starts
  pub nodes_few : n ≤ scene_limits.components
  pub edges_few : length starts ≤ scene_limits.connections
  pub inside : Inside n (edges_between starts stops)

-- flags tell which of n positions are settled, and no mark is set
pub record Flagged (starts stops : List ℕ) (n : ℕ) (settles marks : List ℕ) : Type 0 where
  pub flags_room : n ≤ length settles
  pub flags : take n settles ≡ settled_marks (edges_between starts stops) n
  pub unmarked : take n marks ≡ replicate n 0
