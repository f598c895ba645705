-- Groups of nodes, each named by one of its nodes. Assumes nothing: these are definitions.
use Rattle.std.specs.Prelude.{Bool, cond, not, ◌&&◌, List, map, ◌≡◌, ℕ, ◌<◌, ◌≤◌, eqb, length, get_or}
use Rattle.rules.specs.Lists.{any, indices}
use Rattle.rules.specs.Graph.{Edge, strongly_connected}
use Rattle.graph.specs.Adjacency.{Below}
use Rattle.graph.specs.declared.edges.GroupRoom.{GroupRoom}

-- each edge has a source and a sink among n nodes
pub record Between (sources sinks : List ℕ) (n : ℕ) : Type 0 where
  pub pairs : length sinks ≡ length sources
  pub low : Below n sources
  pub high : Below n sinks

-- there is a mark, a head and a group for each node, a place in order at least, and a link for each edge
pub record Lent (sources sinks marks head next order group : List ℕ) : Type 0 where
  pub edges : Between sources sinks (length marks)
  pub heads : length head ≡ length marks
  pub links : length next ≡ length sources
  pub places : length marks ≤ length order
  pub groups : length group ≡ length marks

-- the lists of the room are the same lists
pub record SameRoom (old new : GroupRoom) : Type 0 where
  pub head : new.head.ghost_name ≡ old.head.ghost_name
  pub next : new.next.ghost_name ≡ old.next.ghost_name
  pub order : new.order.ghost_name ≡ old.order.ghost_name
  pub group : new.group.ghost_name ≡ old.group.ghost_name

-- each of n nodes has a group, and the node that names it is in it
pub record Rooted (n : ℕ) (group : List ℕ) : Type 0 where
  pub size : length group ≡ n
  pub inside : Below n group
  pub root : (x : ℕ) → x < n → get_or group (get_or group x 0) 0 ≡ get_or group x 0

-- two of n nodes have one group exactly if they are strongly connected
pub record Grouped (es : List Edge) (n : ℕ) (group : List ℕ) : Type 0 where
  pub rooted : Rooted n group
  pub same : (x y : ℕ) → x < n → y < n → eqb (get_or group x 0) (get_or group y 0) ≡ strongly_connected es x y

-- a different node has the group of v
unfoldable pub shares_group : List ℕ → ℕ → Bool
shares_group group v = any (λ w. not (eqb w v) && eqb (get_or group v 0) (get_or group w 0)) (indices (length group))

-- a mark for each node: 1 if it shares its group with a different node, else 0
unfoldable pub group_marks : List ℕ → List ℕ
group_marks group = map (λ v. cond (shares_group group v) 1 0) (indices (length group))
