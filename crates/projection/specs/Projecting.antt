-- What the projection reads, writes and promises. Assumes nothing: these are definitions.
use Rattle.std.specs.Prelude.{Bool, true, false, ◌&&◌, Option, is_some, IfSome, List, [], ◌∷◌, map, ◌≡◌, ℕ, ◌*◌, ◌≤◌, eqb, leb, length}
use Rattle.std.specs.List.{list_all}
use Rattle.rules.specs.Lists.{written}
use Rattle.rules.specs.Positions.{id_at}
use Rattle.rules.specs.Graph.{Edge, edges_between}
use Rattle.rules.specs.Projection.{ProjectedEdge, path_starts, path_length, path_ids}
unfoldable pub use Rattle.order.specs.Rising.{rises}
use Rattle.graph.specs.Adjacency.{Below}
use Rattle.graph.specs.Fits.{ends_below}
use Rattle.projection.specs.Entries.{node_marks, retained_count, projected_entries}
use Rattle.projection.specs.declared.Projected.{Projected}

-- The lists that are read: a name for each node; the ends of each edge; of each node its delay, whether its edges invert and whether it is a
-- Wire, Conductor or Delay; and nodes by rising name
pub record NodeLists : Type 0 where
  pub ids : List ℕ
  pub sources : List ℕ
  pub sinks : List ℕ
  pub low : List ℕ
  pub high : List ℕ
  pub inverts : List ℕ
  pub compressible : List ℕ
  pub order : List ℕ

abbrev pub node_lists : (ids sources sinks low high inverts compressible order : List ℕ) → NodeLists
node_lists a b c d e f g h = record { ids = a; sources = b; sinks = c; low = d; high = e; inverts = f; compressible = g; order = h }

abbrev pub edges_of : NodeLists → List Edge
edges_of l = edges_between l.sources l.sinks

abbrev pub entries_of : NodeLists → List ProjectedEdge
entries_of l = projected_entries l.ids (edges_of l) l.low l.high l.inverts l.compressible l.order

-- The lists that are written: the seven number lists of list 6, and list 7
pub record ProjectedLists : Type 0 where
  pub sources : List ℕ
  pub sinks : List ℕ
  pub inverted : List ℕ
  pub minimums : List ℕ
  pub maximums : List ℕ
  pub starts : List ℕ
  pub lengths : List ℕ
  pub ids : List ℕ

abbrev pub projected_lists : (sources sinks inverted minimums maximums starts lengths ids : List ℕ) → ProjectedLists
projected_lists a b c d e f g h = record { sources = a; sinks = b; inverted = c; minimums = d; maximums = e; starts = f; lengths = g; ids = h }

-- projected edges and their paths, written from the front on
pub record EntriesWritten (old new : ProjectedLists) (ps : List ProjectedEdge) : Type 0 where
  pub sources : new.sources ≡ written old.sources (map (λ p. p.source) ps)
  pub sinks : new.sinks ≡ written old.sinks (map (λ p. p.sink) ps)
  pub inverted : new.inverted ≡ written old.inverted (map (λ p. p.inverted) ps)
  pub minimums : new.minimums ≡ written old.minimums (map (λ p. p.minimum) ps)
  pub maximums : new.maximums ≡ written old.maximums (map (λ p. p.maximum) ps)
  pub starts : new.starts ≡ written old.starts (path_starts ps)
  pub lengths : new.lengths ≡ written old.lengths (map path_length ps)
  pub ids : new.ids ≡ written old.ids (path_ids ps)

-- The lists that are lent to work in
pub record WorkLists : Type 0 where
  pub head : List ℕ
  pub next : List ℕ
  pub incoming : List ℕ
  pub firsts : List ℕ

abbrev pub work_lists : (head next incoming firsts : List ℕ) → WorkLists
work_lists a b c d = record { head = a; next = b; incoming = c; firsts = d }

-- The tests

-- each of these lengths is n, or n at least
abbrev pub each_is : ℕ → List ℕ → Bool
each_is n lengths = list_all (λ k. eqb k n) lengths

abbrev pub each_at_least : ℕ → List ℕ → Bool
each_at_least n lengths = list_all (leb n) lengths

-- a sink for each source, each of them a node; positions that are nodes, with names that rise, so that none stands there twice; and by
-- their lengths, the lists that have an entry for each node and no more, for each node at least, for each edge at least, and list 7, with
-- two for each edge at least
unfoldable pub shapes_fit : (ids sources sinks order : List ℕ) (per-node node-room edge-room : List ℕ) (path_room : ℕ) → Bool
shapes_fit ids sources sinks order per-node node-room edge-room path_room =
    eqb (length sinks) (length sources)
    && each_is (length ids) per-node
    && each_at_least (length ids) node-room
    && each_at_least (length sources) edge-room
    && leb (2 * length sources) path_room
    && ends_below (length ids) sources
    && ends_below (length ids) sinks
    && ends_below (length ids) order
    && rises (map (id_at ids) order)

abbrev pub projection_fits : NodeLists → (marks : List ℕ) → ProjectedLists → WorkLists → Bool
projection_fits l marks c w =
    shapes_fit l.ids l.sources l.sinks l.order (length l.low ∷ length l.high ∷ length l.inverts ∷ length l.compressible ∷ [])
    (length marks ∷ length w.head ∷ length w.incoming ∷ [])
    (length w.next ∷ length w.firsts ∷ length c.sources ∷ length c.sinks ∷ length c.inverted ∷ length c.minimums ∷ length c.maximums ∷ length c.starts ∷ length c.lengths ∷ [])
    (length c.ids)

-- the tests of lengths alone
abbrev pub lengths_fit : NodeLists → (marks : List ℕ) → ProjectedLists → WorkLists → Bool
lengths_fit l marks c w =
    eqb (length l.sinks) (length l.sources)
    && each_is (length l.ids) (length l.low ∷ length l.high ∷ length l.inverts ∷ length l.compressible ∷ [])
    && each_at_least (length l.ids) (length marks ∷ length w.head ∷ length w.incoming ∷ [])
    && each_at_least (length l.sources)
    (length w.next ∷ length w.firsts ∷ length c.sources ∷ length c.sinks ∷ length c.inverted ∷ length c.minimums ∷ length c.maximums ∷ length c.starts ∷ length c.lengths ∷ [])
    && leb (2 * length l.sources) (length c.ids)

-- what the tests say when all pass
pub record Fitted (l : NodeLists) (marks : List ℕ) (c : ProjectedLists) (w : WorkLists) : Type 0 where
  pub pairs : length l.sinks ≡ length l.sources
  pub lows : length l.low ≡ length l.ids
  pub highs : length l.high ≡ length l.ids
  pub flags : length l.inverts ≡ length l.ids
  pub kinds : length l.compressible ≡ length l.ids
  pub marked : length l.ids ≤ length marks
  pub heads : length l.ids ≤ length w.head
  pub counts : length l.ids ≤ length w.incoming
  pub links : length l.sources ≤ length w.next
  pub firsts : length l.sources ≤ length w.firsts
  pub sources : length l.sources ≤ length c.sources
  pub sinks : length l.sources ≤ length c.sinks
  pub inverted : length l.sources ≤ length c.inverted
  pub minimums : length l.sources ≤ length c.minimums
  pub maximums : length l.sources ≤ length c.maximums
  pub starts : length l.sources ≤ length c.starts
  pub lengths : length l.sources ≤ length c.lengths
  pub paths : 2 * length l.sources ≤ length c.ids
  pub sources_below : Below (length l.ids) l.sources
  pub sinks_below : Below (length l.ids) l.sinks
  pub order_below : Below (length l.ids) l.order
  pub rising : rises (map (id_at l.ids) l.order) ≡ true

-- The call

-- where the lists fit: the marks, the projected edges with their paths, and how many there are of each
pub record Projecting (l : NodeLists) (marks marks' : List ℕ) (c c' : ProjectedLists) (r : Projected) : Type 0 where
  pub marked : marks' ≡ written marks (node_marks (edges_of l) l.compressible (length l.ids))
  pub listed : EntriesWritten c c' (entries_of l)
  pub retained : r.retained ≡ retained_count (edges_of l) l.compressible (length l.ids)
  pub projected : r.projected ≡ length (entries_of l)
  pub path_ids : r.path_ids ≡ length (path_ids (entries_of l))

-- where they do not: every list keeps its content
pub record Refusing (marks marks' : List ℕ) (c c' : ProjectedLists) (w w' : WorkLists) : Type 0 where
  pub marks_kept : marks' ≡ marks
  pub lists_kept : c' ≡ c
  pub work_kept : w' ≡ w

-- the answer, and what the lists hold after the call. Where the lists fit, what those hold that were lent to work in is open
pub record ProjectionCall (l : NodeLists) (marks marks' : List ℕ) (c c' : ProjectedLists) (w w' : WorkLists) (r : Option Projected) : Type 0 where
  pub answer : is_some r ≡ projection_fits l marks c w
  pub done : IfSome r (λ p. Projecting l marks marks' c c' p)
  pub refused : is_some r ≡ false → Refusing marks marks' c c' w w'
