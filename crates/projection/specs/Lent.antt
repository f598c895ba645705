-- The structs of lists, as lists of numbers, and structs that still hold the references that they held. Assumes nothing: these are definitions.
use Rattle.std.specs.Prelude.{◌≡◌, List, ℕ}
use Rattle.rules.specs.declared.lent.ProjectionLists.{ProjectionLists}
use Rattle.graph.specs.declared.edges.Edges.{Edges}
use Rattle.projection.specs.Projecting.{NodeLists, node_lists, ProjectedLists, projected_lists, WorkLists, work_lists}
use Rattle.projection.specs.Walking.{Net, net}
use Rattle.projection.specs.declared.lent.Nodes.{Nodes}
use Rattle.projection.specs.declared.lent.ProjectionRoom.{ProjectionRoom}
use Rattle.projection.specs.declared.marked.MarkedGraph.{MarkedGraph}

abbrev pub nodes_lent : Nodes → Edges → (order : List ℕ) → NodeLists
nodes_lent x g order = node_lists x.ids.now g.sources.now g.sinks.now x.low.now x.high.now x.inverts.now x.compressible.now order

abbrev pub projection_lent : ProjectionLists → ProjectedLists
projection_lent x = projected_lists x.sources.now x.sinks.now x.inverted.now x.minimums.now x.maximums.now x.starts.now x.lengths.now x.path_ids.now

abbrev pub room_lent : ProjectionRoom → WorkLists
room_lent x = work_lists x.head.now x.next.now x.incoming.now x.firsts.now

abbrev pub graph_lent : MarkedGraph → Net
graph_lent g = net g.edges.sources.now g.edges.sinks.now g.marks.now g.nodes.ids.now g.nodes.low.now g.nodes.high.now g.nodes.inverts.now

pub record SameProjectionRoom (old new : ProjectionRoom) : Type 0 where
  pub head : new.head.ghost_name ≡ old.head.ghost_name
  pub next : new.next.ghost_name ≡ old.next.ghost_name
  pub incoming : new.incoming.ghost_name ≡ old.incoming.ghost_name
  pub firsts : new.firsts.ghost_name ≡ old.firsts.ghost_name
