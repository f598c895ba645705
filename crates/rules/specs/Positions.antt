-- Edges over the positions of components, in place of their ids. Assumes nothing: these are definitions.
use mathlib.Core.List.{List, map, Memᴰ}
use Rattle.std.specs.Prelude.{◌≡◌, ℕ, ◌<◌, length, get_or}
use Rattle.rules.specs.Graph.{Edge, ◌⟶◌, source_of, sink_of}
use Rattle.rules.specs.Projection.{ProjectedEdge}

-- the id at a position
abbrev pub id_at : List ℕ → ℕ → ℕ
id_at ids i = get_or ids i 0

-- an edge between the names of its ends
abbrev pub named : (ℕ → ℕ) → Edge → Edge
named name e = name (source_of e) ⟶ name (sink_of e)

-- a projected edge between the names of its ends, with the names of its path
abbrev pub named_entry : (ℕ → ℕ) → ProjectedEdge → ProjectedEdge
named_entry name p =
    record { source = name p.source; sink = name p.sink; inverted = p.inverted; minimum = p.minimum; maximum = p.maximum; path = map name p.path }

-- both ends of every edge are below n
abbrev pub Inside : ℕ → List Edge → Type 0
Inside n es = (e : Edge) → Memᴰ e es → (source_of e < n) × (sink_of e < n)

-- edges between positions that are, with the ids of their ends, the given edges in their order
pub record Positioned (ids : List ℕ) (es positions : List Edge) : Type 0 where
  pub inside : Inside (length ids) positions
  pub names : map (named (id_at ids)) positions ≡ es
