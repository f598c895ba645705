-- Chains walked from first edges, and the columns that are filled. Assumes nothing: these are definitions.
use mathlib.Core.List.{List, ◌∷◌, map, Memᴰ}
use Rattle.std.specs.Prelude.{cond, ◌≡◌, ℕ, ◌+◌, ◌<◌, ◌≤◌, T, length, get_or}
use Rattle.rules.specs.Lists.{written_from}
use Rattle.rules.specs.Ordered.{key_at}
use Rattle.rules.specs.Positions.{named_entry, id_at}
use Rattle.rules.specs.Graph.{Edge, ◌⟶◌, source_of, sink_of, in_count, out_count, edges_between}
use Rattle.rules.specs.Projection.{ProjectedEdge, next, chain, projected_by, path_ids, path_length}
use Rattle.graph.specs.Adjacency.{Below}
use Rattle.projection.specs.declared.walk.Walked.{Walked}
use Rattle.projection.specs.Entries.{inverts_from}
use Rattle.projection.specs.Marking.{through}
use Rattle.projection.specs.Projecting.{ProjectedLists, EntriesWritten}

-- edges between nodes, the nodes' marks, names, delays, and whether their edges invert
pub record Net : Type 0 where
  pub sources : List ℕ
  pub sinks : List ℕ
  pub marks : List ℕ
  pub ids : List ℕ
  pub low : List ℕ
  pub high : List ℕ
  pub inverts : List ℕ

abbrev pub net : (sources sinks marks ids low high inverts : List ℕ) → Net
net a b c d e f g = record { sources = a; sinks = b; marks = c; ids = d; low = e; high = f; inverts = g }

abbrev pub net_edges : Net → List Edge
net_edges N = edges_between N.sources N.sinks

abbrev pub edge_at : Net → ℕ → Edge
edge_at N e = get_or N.sources e 0 ⟶ get_or N.sinks e 0

-- the nodes met along the chain that begins with an edge, both ends with them
unfoldable pub chain_of : Net → Edge → List ℕ
chain_of N e = source_of e ∷ chain (length (net_edges N)) (net_edges N) (through N.marks) (sink_of e)

unfoldable pub entry_of : Net → Edge → ProjectedEdge
entry_of N e = named_entry (id_at N.ids) (projected_by (key_at N.low) (key_at N.high) (inverts_from N.inverts) e (chain_of N e))

-- each list has an entry for each node or edge, each end is a node, and a node with mark 0 has one incoming and one outgoing edge, the
-- first that its head gives
pub record Walkable (N : Net) (head : List ℕ) : Type 0 where
  pub pairs : length N.sinks ≡ length N.sources
  pub marked : length N.marks ≡ length N.ids
  pub lows : length N.low ≡ length N.ids
  pub highs : length N.high ≡ length N.ids
  pub flags : length N.inverts ≡ length N.ids
  pub heads : length N.ids ≤ length head
  pub starts : Below (length N.ids) N.sources
  pub ends : Below (length N.ids) N.sinks
  pub one_in : (v : ℕ) → T (through N.marks v) → in_count (net_edges N) v ≡ 1
  pub one_out : (v : ℕ) → T (through N.marks v) → out_count (net_edges N) v ≡ 1
  pub onward : (v : ℕ) → T (through N.marks v) → (get_or head v 0 < length N.sources) × (get_or N.sinks (get_or head v 0) 0 ≡ next (net_edges N) v)

-- an edge out of a retained node
pub record FirstEdge (N : Net) (e : ℕ) : Type 0 where
  pub listed : e < length N.sources
  pub kept : T (through N.marks (get_or N.sources e 0)) → ⊥

-- what a walk leaves: the names along the chain from a place on, and what the entry holds
pub record Walking (N : Net) (e start : ℕ) (old new : List ℕ) (w : Walked) : Type 0 where
  pub names : new ≡ written_from start old (entry_of N (edge_at N e)).path
  pub place : w.end ≡ start + path_length (entry_of N (edge_at N e))
  pub inside : w.sink < length N.ids
  pub last : id_at N.ids w.sink ≡ (entry_of N (edge_at N e)).sink
  pub least : w.delay.minimum_redstone_ticks ≡ (entry_of N (edge_at N e)).minimum
  pub greatest : w.delay.maximum_redstone_ticks ≡ (entry_of N (edge_at N e)).maximum
  pub flipped : cond w.inverted 1 0 ≡ (entry_of N (edge_at N e)).inverted

abbrev pub entries_from : Net → List ℕ → List ProjectedEdge
entries_from N firsts = map (λ e. entry_of N (edge_at N e)) firsts

-- first edges, with room in each column for their entries and their paths
pub record Fillable (N : Net) (firsts : List ℕ) (c : ProjectedLists) : Type 0 where
  pub each : (e : ℕ) → Memᴰ e firsts → FirstEdge N e
  pub sources : length firsts ≤ length c.sources
  pub sinks : length firsts ≤ length c.sinks
  pub inverted : length firsts ≤ length c.inverted
  pub minimums : length firsts ≤ length c.minimums
  pub maximums : length firsts ≤ length c.maximums
  pub starts : length firsts ≤ length c.starts
  pub lengths : length firsts ≤ length c.lengths
  pub ids : length (path_ids (entries_from N firsts)) ≤ length c.ids

pub record Filled (N : Net) (firsts : List ℕ) (old new : ProjectedLists) (end : ℕ) : Type 0 where
  pub written : EntriesWritten old new (entries_from N firsts)
  pub place : end ≡ length (path_ids (entries_from N firsts))
