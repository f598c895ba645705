-- Which lists make a graph, with room to work in, and what marking its shared components promises. Assumes nothing: these are definitions.
use Rattle.std.specs.Prelude.{Bool, true, false, not, cond, ◌&&◌, List, ◌≡◌, ℕ, eqb, leb, length}
use Rattle.rules.specs.Lists.{any}
use Rattle.rules.specs.Graph.{edges_between, shared_marks}
use Rattle.graph.specs.Adjacency.{Indexed}

-- no end is n or more: each is one of the nodes 0 to n - 1
unfoldable pub ends_below : ℕ → List ℕ → Bool
ends_below n ends = not (any (leb n) ends)

-- as many sinks as sources, each of them one of n nodes; of the lists lent, by their lengths, head, order and group have an entry for each node at least, and next one for each edge
unfoldable pub graph_fits : (sources sinks : List ℕ) (n head next order group : ℕ) → Bool
graph_fits sources sinks n head next order group =
    eqb (length sinks) (length sources)
    && leb n head
    && leb (length sources) next
    && leb n order
    && leb n group
    && ends_below n sources
    && ends_below n sinks

-- the call: its answer, and what the lists hold after it. Where the lists fit, what head, next, order and group hold then is open
pub record SharedMarked (sources sinks marks head next order group marks' head' next' order' group' : List ℕ) (r : Bool) : Type 0 where
  pub answer : r ≡ graph_fits sources sinks (length marks) (length head) (length next) (length order) (length group)
  pub marked : marks' ≡ cond r (shared_marks (edges_between sources sinks) (length marks)) marks
  pub refused : r ≡ false → (head' ≡ head) × (next' ≡ next) × (order' ≡ order) × (group' ≡ group)

-- a link for each edge, and every end one of n nodes
unfoldable pub index_fits : (ends : List ℕ) (n links : ℕ) → Bool
index_fits ends n links = eqb links (length ends) && ends_below n ends

-- linking the edges by one end: the answer, and what the lists hold. By which number past the last edge a chain ends is open
pub record EdgesIndexed (ends head next head' next' : List ℕ) (r : Bool) : Type 0 where
  pub answer : r ≡ index_fits ends (length head) (length next)
  pub indexed : r ≡ true → Indexed ends head' next'
  pub refused : r ≡ false → (head' ≡ head) × (next' ≡ next)
