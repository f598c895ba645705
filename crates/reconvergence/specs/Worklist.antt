-- What a worklist over the nodes keeps while it takes them one by one. Assumes nothing: these are definitions.
use Rattle.std.specs.Prelude.{Bool, cond, ◌&&◌, ◌≡◌, ℕ, ◌+◌, ◌-◌, ◌<◌, ◌≤◌, min, max, eqb, length, take, set}
use mathlib.Core.List.{List, map, Memᴰ}
use Rattle.rules.specs.Lists.{any, keep, count, indices}
use Rattle.rules.specs.Ordered.{key_at}
use Rattle.rules.specs.Delay.{saturating_add}
use Rattle.rules.specs.declared.delay.DelayRange.{DelayRange}
use Rattle.rules.specs.Graph.{Edge, source_of, ends_at, in_count, Settled}
use Rattle.rules.specs.Paths.{extreme, extreme_sum}
use Rattle.graph.specs.Adjacency.{Indexed}
use Rattle.graph.specs.Groups.{Between}

-- what an edge brings to its sink: the extreme sum of its source, with that source's delay
unfoldable pub brought : (ℕ → ℕ → ℕ) → List Edge → (ℕ → ℕ) → Edge → ℕ
brought f es d e = saturating_add (extreme_sum f es d (source_of e)) (d (source_of e))

-- the extreme of what the passed edges bring to v
unfoldable pub sum_over : (ℕ → ℕ → ℕ) → List Edge → (ℕ → ℕ) → List Edge → ℕ → ℕ
sum_over f es d passed v = extreme f (map (brought f es d) (keep (ends_at v) passed))

-- v passes a test, and no edge into it is left
abbrev pub ready : List ℕ → (ℕ → Bool) → ℕ → Bool
ready left p v = p v && eqb (key_at left v) 0

-- an edge passes a test, and its source is one of us
abbrev pub leaves : (Edge → Bool) → List ℕ → Edge → Bool
leaves p us e = p e && any (eqb (source_of e)) us

-- the lists of n nodes, with an entry for each at least, once the edges in `passed` are relaxed: how many edges into each node are left, its sums so far, and in the first c places of
-- queue, in any order, the nodes with none left
pub record Relaxing (es : List Edge) (low high : ℕ → ℕ) (n : ℕ) (incoming left smallest largest queue : List ℕ) (c : ℕ) (passed : List Edge) : Type 0 where
  pub incomings : n ≤ length incoming
  pub lefts : n ≤ length left
  pub smallests : n ≤ length smallest
  pub largests : n ≤ length largest
  pub places : n ≤ length queue
  pub room : c ≤ n
  pub counted : (v : ℕ) → v < n → key_at incoming v ≡ in_count es v
  pub remains : (v : ℕ) → v < n → key_at left v + count (ends_at v) passed ≡ in_count es v
  pub least : (v : ℕ) → v < n → key_at smallest v ≡ sum_over min es low passed v
  pub most : (v : ℕ) → v < n → key_at largest v ≡ sum_over max es high passed v
  pub waiting : (p : ℕ → Bool) → count p (take c queue) ≡ count (ready left p) (indices n)

-- the first i nodes of queue are taken, in whatever order they came there: they are settled, and the edges that leave them are relaxed
pub record Taking (es : List Edge) (low high : ℕ → ℕ) (n : ℕ) (incoming left smallest largest queue : List ℕ) (i c : ℕ) : Type 0 where
  pub passed : List Edge
  pub state : Relaxing es low high n incoming left smallest largest queue c passed
  pub within : i ≤ c
  pub taken : (p : Edge → Bool) → count p passed ≡ count (leaves p (take i queue)) es
  pub proper : (u : ℕ) → Memᴰ u (take i queue) → Settled es u

-- a graph of as many nodes as there are low delays, its edges linked by the node that they leave
pub record TimedGraph (sources sinks head next low high : List ℕ) : Type 0 where
  pub indexed : Indexed sources head next
  pub edges : Between sources sinks (length low)
  pub heads : length low ≤ length head
  pub highs : length high ≡ length low

-- the first smallest sum stands as it is, a later one is weighed against the one before
abbrev pub least : (first : Bool) → (old new : ℕ) → ℕ
least first old new = cond first new (min new old)

-- one edge into v more is relaxed, which brings `sum`
pub record Relaxed (incoming left smallest largest queue : List ℕ) (c v : ℕ) (sum : DelayRange) (left' smallest' largest' queue' : List ℕ) (c' : ℕ) : Type 0 where
  pub less : left' ≡ set left v (key_at left v - 1)
  pub small : smallest' ≡ set smallest v (least (eqb (key_at left v) (key_at incoming v)) (key_at smallest v) sum.minimum_redstone_ticks)
  pub large : largest' ≡ set largest v (max sum.maximum_redstone_ticks (key_at largest v))
  pub placed : queue' ≡ set queue c v
  pub count : c' ≡ c + cond (eqb (key_at left v) 1) 1 0

-- the two sums, or the two delays, of a node
abbrev pub range_at : List ℕ → List ℕ → ℕ → DelayRange
range_at minimum maximum v = record { minimum_redstone_ticks = key_at minimum v; maximum_redstone_ticks = key_at maximum v }
