-- Which lists a reconvergence pass takes, and what it promises. Assumes nothing: these are definitions.
use Rattle.std.specs.Prelude.{Bool, false, cond, ◌&&◌, Option, is_some, IfSome, List, map, ◌≡◌, ℕ, eqb, leb, length}
use Rattle.rules.specs.Lists.{keep, indices, written}
use Rattle.rules.specs.Ordered.{key_at}
use Rattle.rules.specs.Graph.{Edge, edges_between, settled}
use Rattle.rules.specs.Paths.{smallest_sum, largest_sum}
use Rattle.rules.specs.Reasons.{unequal_at}
use Rattle.graph.specs.Fits.{ends_below}

-- as many sinks as sources and as many high delays as low ones, which are n; every source, sink and listed position is one of the n nodes
unfoldable pub given_fits : (sources sinks order : List ℕ) (n highs : ℕ) → Bool
given_fits sources sinks order n highs = eqb (length sinks) (length sources) && eqb highs n && ends_below n sources && ends_below n sinks && ends_below n order

-- by their lengths, the lists to answer in have an entry for each of n nodes at least, and the last one for each position to list
unfoldable pub answers_fit : (n listed settled smallest largest unequal : ℕ) → Bool
answers_fit n listed settled smallest largest unequal = leb n settled && leb n smallest && leb n largest && leb listed unequal

-- by their lengths, the lists to work in have an entry for each of n nodes at least, and next one for each of m edges
unfoldable pub work_fits : (n m head next incoming left queue : ℕ) → Bool
work_fits n m head next incoming left queue = leb n head && leb m next && leb n incoming && leb n left && leb n queue

-- all of it; the lists after the first three are given by their lengths
unfoldable pub reconvergence_fits : (sources sinks order : List ℕ) (n highs settled smallest largest unequal head next incoming left queue : ℕ) → Bool
reconvergence_fits sources sinks order n highs settled smallest largest unequal head next incoming left queue =
    given_fits sources sinks order n highs && answers_fit n (length order) settled smallest largest unequal && work_fits n (length sources) head next incoming left queue

-- a mark for each node: 1 if it is settled, else 0
unfoldable pub settled_marks : List Edge → ℕ → List ℕ
settled_marks es n = map (λ v. cond (settled es v) 1 0) (indices n)

-- the call: its answer, and what the lists hold after it. Where the lists fit, what head, next, incoming, left and queue hold then is open
pub record ReconvergentDelays
    (sources sinks low high order marks smallest largest unequal head next incoming left queue : List ℕ)
    (marks' smallest' largest' unequal' head' next' incoming' left' queue' : List ℕ) (r : Option ℕ) : Type 0 where
  pub answer : is_some r ≡ reconvergence_fits sources sinks order (length low) (length high) (length marks) (length smallest) (length largest) (length unequal) (length head) (length next) (length incoming) (length left) (length queue)
  pub settles : marks' ≡ cond (is_some r) (written marks (settled_marks (edges_between sources sinks) (length low))) marks
  pub smallests : smallest' ≡ cond (is_some r) (written smallest (map (smallest_sum (edges_between sources sinks) (key_at low)) (indices (length low)))) smallest
  pub largests : largest' ≡ cond (is_some r) (written largest (map (largest_sum (edges_between sources sinks) (key_at high)) (indices (length low)))) largest
  pub lists : unequal' ≡ cond (is_some r) (written unequal (keep (unequal_at (edges_between sources sinks) (key_at low) (key_at high)) order)) unequal
  pub counts : IfSome r (λ c. c ≡ length (keep (unequal_at (edges_between sources sinks) (key_at low) (key_at high)) order))
  pub refused : is_some r ≡ false → (head' ≡ head) × (next' ≡ next) × (incoming' ≡ incoming) × (left' ≡ left) × (queue' ≡ queue)
