-- Nodes marked by how many edges lead there and how many from there, and the edges that chains begin with. Assumes nothing: these are definitions.
use Rattle.std.specs.Prelude.{Bool, not, cond, ◌&&◌, ◌≡◌, ℕ, ◌+◌, ◌≤◌, eqb, length, get_or}
use mathlib.Core.List.{List, map, flat_map}
use Rattle.rules.specs.Lists.{keep, count, indices, written_from, Distinct}
use Rattle.rules.specs.Ordered.{key_at}
use Rattle.rules.specs.Graph.{edges_between}
use Rattle.graph.specs.Adjacency.{Below, chain, leaving, Indexed}
use Rattle.projection.specs.Entries.{node_marks, retained_count}

-- the edges out of v, by their links
abbrev pub linked : (head next : List ℕ) → ℕ → List ℕ
linked head next v = chain next (get_or head v 0)

-- compressed, by the number of edges that lead there, and by the links of those that lead from there
abbrev pub compressed_by : (compressible incoming head next : List ℕ) → ℕ → Bool
compressed_by compressible incoming head next v = not (eqb (key_at compressible v) 0) && (eqb (key_at incoming v) 1 && eqb (length (linked head next v)) 1)

pub record Markable (compressible incoming head marks : List ℕ) : Type 0 where
  pub heads : length compressible ≤ length head
  pub counts : length compressible ≤ length incoming
  pub nodes : length marks ≡ length compressible

pub record Marked (compressible incoming head next marks : List ℕ) (retained : ℕ) : Type 0 where
  pub each : marks ≡ map (λ v. cond (compressed_by compressible incoming head next v) 0 1) (indices (length compressible))
  pub kept : retained ≡ count (λ v. not (compressed_by compressible incoming head next v)) (indices (length compressible))

-- chains go on through a node with mark 0; past the marks there is no node
abbrev pub through : (marks : List ℕ) → ℕ → Bool
through marks v = eqb (get_or marks v 1) 0

-- the edges out of the retained nodes, in the order of the nodes
unfoldable pub firsts_by : (ℕ → List ℕ) → (marks order : List ℕ) → List ℕ
firsts_by out marks order = flat_map out (keep (λ v. not (through marks v)) order)

pub record Listable (head next marks order firsts : List ℕ) : Type 0 where
  pub heads : length marks ≤ length head
  pub nodes : Below (length marks) order
  pub room : length (firsts_by (linked head next) marks order) ≤ length firsts

-- a row is written from a place on, up to another
pub record RowWritten (row : List ℕ) (start : ℕ) (old new : List ℕ) (end : ℕ) : Type 0 where
  pub list : new ≡ written_from start old row
  pub place : end ≡ start + length row

-- a sink for each source and each end a node, the order's entries nodes and none twice; a mark for each node, and room for a head and a
-- count of each node, for a link of each edge and for each edge
pub record Retainable (sources sinks compressible order marks head next incoming firsts : List ℕ) : Type 0 where
  pub pairs : length sinks ≡ length sources
  pub nodes : length marks ≡ length compressible
  pub heads : length compressible ≤ length head
  pub links : length sources ≤ length next
  pub counts : length compressible ≤ length incoming
  pub room : length sources ≤ length firsts
  pub sources_below : Below (length compressible) sources
  pub sinks_below : Below (length compressible) sinks
  pub order_below : Below (length compressible) order
  pub once : Distinct order

-- the edges are linked, the nodes marked, and the edges out of the retained ones listed
pub record Retaining (sources sinks compressible order firsts marks' head' firsts' : List ℕ) (nodes edges : ℕ) : Type 0 where
  pub links : List ℕ
  pub linked : Indexed sources head' links
  pub heads : length compressible ≤ length head'
  pub marked : marks' ≡ node_marks (edges_between sources sinks) compressible (length compressible)
  pub retained : nodes ≡ retained_count (edges_between sources sinks) compressible (length compressible)
  pub listed : RowWritten (firsts_by (leaving sources) marks' order) 0 firsts firsts' edges
