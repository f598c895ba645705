-- What placing a scene gives. Assumes nothing: these are definitions.
use Rattle.std.specs.Prelude.{Result, IfOk, List, ◌≡◌, ℕ, ◌≤◌, length, replicate}
use Rattle.rules.specs.Ordered.{ordered}
use Rattle.rules.specs.Graph.{edges_between}
use Rattle.rules.specs.Scene.{ConnectionLists, edges_of, connections_of}
use Rattle.rules.specs.Refusals.{Checked, scene_limits}
use Rattle.rules.specs.Positions.{Positioned}
use Rattle.rules.specs.declared.answers.Refusal.{Refusal}
use Rattle.scene.specs.declared.place.Placed.{Placed}
use Rattle.scene.specs.declared.place.SceneRoom.{SceneRoom}
use Rattle.scene.specs.Ends.{checked_of}
use Rattle.scene.specs.Lent.{PositionLists, position_lists}

-- the lists of a room
abbrev pub room_lists : SceneRoom → PositionLists
room_lists s = position_lists s.order s.starts s.stops

-- those of a new one
abbrev pub blank_lists : PositionLists
blank_lists = position_lists (replicate scene_limits.components 0) (replicate scene_limits.connections 0) (replicate scene_limits.connections 0)

-- the edges over positions and the positions of the ids in order, of a scene within the limits
pub record PlacedRows (ids : List ℕ) (m : ConnectionLists) (p : Placed) : Type 0 where
  pub sorted : p.order.now ≡ ordered ids
  pub pairs : length p.edges.sinks.now ≡ length p.edges.sources.now
  pub positioned : Positioned ids (edges_of (connections_of m)) (edges_between p.edges.sources.now p.edges.sinks.now)
  pub edges_few : length p.edges.sources.now ≤ length m.sources
  pub components_few : length ids ≤ scene_limits.components
  pub connections_few : length m.sources ≤ scene_limits.connections

-- what the tests find, and where they accept, the scene placed
pub record ScenePlaced (found : Checked) (ids : List ℕ) (m : ConnectionLists) (answer : Result Placed Refusal) : Type 0 where
  pub checked : checked_of answer ≡ found
  pub accepted : IfOk answer (PlacedRows ids m)
