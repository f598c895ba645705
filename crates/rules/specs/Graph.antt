-- Edges between ids: reach, cycles, settled components, strongly connected components. Assumes nothing: these are definitions.
use Rattle.std.specs.Prelude.{Bool, not, cond, ◌&&◌, ◌||◌, ◌≡◌, ℕ, ◌<◌, T, eqb}
use mathlib.Core.List.{List, [], ◌∷◌, map, Memᴰ}
use Rattle.rules.specs.Lists.{any, count, indices}

infix 60 ◌⟶◌
-- an edge from a source id to a sink id
pub data Edge : Type 0 where
  ◌⟶◌ : ℕ → ℕ → Edge

abbrev pub source_of : Edge → ℕ
source_of (a ⟶ b) = a

abbrev pub sink_of : Edge → ℕ
sink_of (a ⟶ b) = b

abbrev pub starts_at : ℕ → Edge → Bool
starts_at v e = eqb (source_of e) v

abbrev pub ends_at : ℕ → Edge → Bool
ends_at v e = eqb (sink_of e) v

-- how many edges end at v, and how many start there
unfoldable pub in_count : List Edge → ℕ → ℕ
in_count es v = count (ends_at v) es

unfoldable pub out_count : List Edge → ℕ → ℕ
out_count es v = count (starts_at v) es

-- v is u, or edges lead from u to v: without the first edge, or up to its source and on from its sink without it
unfoldable pub reach : List Edge → ℕ → ℕ → Bool
reach [] u v = eqb u v
reach ((a ⟶ b) ∷ es) u v =
    let after = reach es b v in
    let through = reach es u a && after in
    reach es u v || through

-- the edge is on a cycle ("a self-edge is a cycle"), and v is reached from there
abbrev pub cycle_reaching : List Edge → ℕ → Edge → Bool
cycle_reaching es v e = reach es (sink_of e) (source_of e) && reach es (source_of e) v

-- "A component is settled if it is on no cycle and not reachable from one."
unfoldable pub settled : List Edge → ℕ → Bool
settled es v = not (any (cycle_reaching es v) es)

-- u and v are in one strongly connected component: each is reached from the other
unfoldable pub strongly_connected : List Edge → ℕ → ℕ → Bool
strongly_connected es u v = reach es u v && reach es v u

-- Nodes by number: the edges that two lists of ends give, one by one
unfoldable pub edges_between : (sources sinks : List ℕ) → List Edge
edges_between [] sinks = []
edges_between (a ∷ sources) [] = []
edges_between (a ∷ sources) (b ∷ sinks) = (a ⟶ b) ∷ edges_between sources sinks

-- of the nodes 0 to n - 1, a different one shares the strongly connected component of v
unfoldable pub shares_component : List Edge → ℕ → ℕ → Bool
shares_component es n v = any (λ w. not (eqb w v) && strongly_connected es v w) (indices n)

-- a mark for each node: 1 if it shares its strongly connected component with a different node, else 0
unfoldable pub shared_marks : List Edge → ℕ → List ℕ
shared_marks es n = map (λ v. cond (shares_component es n v) 1 0) (indices n)

-- The same notions without computation; proofs/Reach and proofs/Paths show that they agree

-- a row of edges from u to v
pub data Walk (es : List Edge) : ℕ → ℕ → Type 0 where
  stop : {u v : ℕ} → u ≡ v → Walk es u v
  step : {u w v : ℕ} → Memᴰ (u ⟶ w) es → Walk es w v → Walk es u v

-- an edge leaves u, and a walk leads back
abbrev pub OnCycle : List Edge → ℕ → Type 0
OnCycle es u = (w : ℕ) × Memᴰ (u ⟶ w) es × Walk es w u

-- on no cycle and not reachable from one
abbrev pub Settled : List Edge → ℕ → Type 0
Settled es v = (u : ℕ) → OnCycle es u → Walk es u v → ⊥

-- A strongly connected component, "a maximal set of vertices of a directed graph in which every vertex is reachable from every other"; the
-- set is given by its test
pub record StrongComponent (es : List Edge) (member : ℕ → Bool) : Type 0 where
  pub joined : (u v : ℕ) → T (member u) → T (member v) → Walk es u v
  pub maximal : (u v : ℕ) → T (member u) → Walk es u v → Walk es v u → T (member v)

-- of the nodes 0 to n - 1, a different one is reached from v and leads back to it
pub record OtherInComponent (es : List Edge) (n v : ℕ) : Type 0 where
  pub other : ℕ
  pub node : other < n
  pub different : other ≡ v → ⊥
  pub there : Walk es v other
  pub back : Walk es other v
