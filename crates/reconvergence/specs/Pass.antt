-- The lists of a whole pass: before a node is taken, once all are, and what is answered from them. Assumes nothing: these are definitions.
use Rattle.std.specs.Prelude.{Bool, cond, not, ◌&&◌, List, map, ◌≡◌, ℕ, ◌<◌, ◌≤◌, eqb, leb, length, take, replicate}
use Rattle.rules.specs.Lists.{keep, count, indices, written}
use Rattle.rules.specs.Ordered.{key_at}
use Rattle.rules.specs.Graph.{Edge, in_count}
use Rattle.rules.specs.Paths.{smallest_sum, largest_sum}
use Rattle.rules.specs.Reasons.{unequal_at}
use Rattle.graph.specs.Adjacency.{Below}
use Rattle.graph.specs.EndCounts.{EndsCounted}
use Rattle.graph.specs.Groups.{Between}
use Rattle.reconvergence.specs.Fits.{settled_marks}
use Rattle.reconvergence.specs.Worklist.{ready}

-- the lists to work in have an entry for each of n nodes at least
pub record Lent (n : ℕ) (incoming left smallest largest queue : List ℕ) : Type 0 where
  pub incomings : n ≤ length incoming
  pub lefts : n ≤ length left
  pub smallests : n ≤ length smallest
  pub largests : n ≤ length largest
  pub places : n ≤ length queue

-- all edges into each of n nodes are left, and the first c places hold the nodes with no edge into them
pub record Waiting (n : ℕ) (incoming left queue : List ℕ) (c : ℕ) : Type 0 where
  pub copied : take n left ≡ take n incoming
  pub fits : c ≤ n
  pub holds : (p : ℕ → Bool) → count p (take c queue) ≡ count (ready incoming p) (indices n)
  pub lefts : n ≤ length left
  pub places : n ≤ length queue

-- the lists of n nodes before one is taken
pub record Started (n : ℕ) (sinks incoming left smallest largest queue : List ℕ) (c : ℕ) : Type 0 where
  pub counted : EndsCounted sinks (take n incoming)
  pub incomings : n ≤ length incoming
  pub smallests : take n smallest ≡ replicate n 0
  pub largests : take n largest ≡ replicate n 0
  pub waiting : Waiting n incoming left queue c

-- what the marks are made of: no edge is left
unfoldable pub done_marks : List ℕ → List ℕ
done_marks left = map (λ v. cond (eqb (key_at left v) 0) 1 0) (indices (length left))

-- the lists once every node that comes to have no edge left is taken
pub record Summed (es : List Edge) (low high : ℕ → ℕ) (n : ℕ) (incoming left smallest largest : List ℕ) : Type 0 where
  pub counted : (v : ℕ) → v < n → key_at incoming v ≡ in_count es v
  pub done : done_marks (take n left) ≡ settled_marks es n
  pub smallests : take n smallest ≡ map (smallest_sum es low) (indices n)
  pub largests : take n largest ≡ map (largest_sum es high) (indices n)
  pub incomings : n ≤ length incoming
  pub lefts : n ≤ length left

-- the lists of a whole pass fit: an entry for each node at least, a link for each edge, and room for each position to list
pub record Sized (sources sinks low high order settled smallest largest unequal head next incoming left queue : List ℕ) : Type 0 where
  pub edges : Between sources sinks (length low)
  pub highs : length high ≡ length low
  pub positions : Below (length low) order
  pub marks : length low ≤ length settled
  pub room : length order ≤ length unequal
  pub heads : length low ≤ length head
  pub links : length sources ≤ length next
  pub lent : Lent (length low) incoming left smallest largest queue

-- what a whole pass finds
pub record Answered (es : List Edge) (low high : ℕ → ℕ) (n : ℕ) (order marks smallest largest unequal marks' smallest' largest' unequal' : List ℕ) (c : ℕ) : Type 0 where
  pub settles : marks' ≡ written marks (settled_marks es n)
  pub smallests : smallest' ≡ written smallest (map (smallest_sum es low) (indices n))
  pub largests : largest' ≡ written largest (map (largest_sum es high) (indices n))
  pub lists : unequal' ≡ written unequal (keep (unequal_at es low high) order)
  pub counts : c ≡ length (keep (unequal_at es low high) order)

-- two or more edges into a node, and two sums that differ
abbrev pub differs : (incoming smallest largest : ℕ) → Bool
differs incoming smallest largest = leb 2 incoming && not (eqb smallest largest)

abbrev pub differs_at : (incoming smallest largest : List ℕ) → ℕ → Bool
differs_at incoming smallest largest v = differs (key_at incoming v) (key_at smallest v) (key_at largest v)
