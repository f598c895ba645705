-- What the passes need of an accepted scene, whose edges are given over its positions. Assumes nothing: these are definitions.
use Rattle.std.specs.Prelude.{true, List, [], ◌∷◌, map, ◌≡◌, ℕ, ◌*◌, ◌≤◌, length}
use Rattle.rules.specs.Assess.{AssessLists}
use Rattle.rules.specs.Positions.{id_at}
use Rattle.rules.specs.Refusals.{scene_limits, shortest}
use Rattle.rules.specs.Scene.{ComponentLists}
use Rattle.graph.specs.Adjacency.{Below}
use Rattle.projection.specs.Projecting.{NodeLists, ProjectedLists, node_lists, rises}
use Rattle.assess.specs.Nodes.{delays_of, inverts_of, compressible_of}

-- the shortest length of each of the output lists 3 to 8
unfoldable pub assessment_room : AssessLists → List ℕ
assessment_room o =
    shortest (length o.reason_kinds ∷ length o.reason_components ∷ length o.reason_blocks ∷ length o.reason_minimums ∷ length o.reason_maximums ∷ [])
    ∷ length o.feedback_ids ∷ length o.marks
    ∷ shortest (length o.projected_sources ∷ length o.projected_sinks ∷ length o.projected_inverted ∷ length o.projected_minimums ∷ length o.projected_maximums ∷ length o.projected_starts ∷ length o.projected_lengths ∷ [])
    ∷ length o.path_ids ∷ shortest (length o.label_settled ∷ length o.label_lows ∷ length o.label_highs ∷ []) ∷ []

-- what the projection reads of a scene
abbrev pub scene_nodes : ComponentLists → (sources sinks order : List ℕ) → NodeLists
scene_nodes l sources sinks order =
    node_lists l.ids sources sinks (delays_of l.kinds l.delays) (delays_of l.kinds l.delays) (inverts_of l.kinds) (compressible_of l.kinds) order

-- the positions of a scene within the limits, ids that rise along the order, and room for lists 5, 6 and 7
pub record ProjectionReady (l : ComponentLists) (sources sinks order marks : List ℕ) (c : ProjectedLists) : Type 0 where
  pub kinds_length : length l.kinds ≡ length l.ids
  pub delays_length : length l.delays ≡ length l.ids
  pub nodes_few : length l.ids ≤ scene_limits.components
  pub edges_few : length sources ≤ scene_limits.connections
  pub pairs : length sinks ≡ length sources
  pub sources_below : Below (length l.ids) sources
  pub sinks_below : Below (length l.ids) sinks
  pub order_below : Below (length l.ids) order
  pub rising : rises (map (id_at l.ids) order) ≡ true
  pub marks_room : length l.ids ≤ length marks
  pub sources_room : length sources ≤ length c.sources
  pub sinks_room : length sources ≤ length c.sinks
  pub inverted_room : length sources ≤ length c.inverted
  pub minimums_room : length sources ≤ length c.minimums
  pub maximums_room : length sources ≤ length c.maximums
  pub path_starts_room : length sources ≤ length c.starts
  pub path_lengths_room : length sources ≤ length c.lengths
  pub paths_room : 2 * length sources ≤ length c.ids
