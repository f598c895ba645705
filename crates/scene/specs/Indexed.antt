-- What indexing a scene needs and gives. Assumes nothing: these are definitions.
use Rattle.std.specs.Prelude.{Result, IfOk, List, ◌++◌, ◌≡◌, ℕ, ◌≤◌, length, take}
use Rattle.rules.specs.Ordered.{ordered}
use Rattle.rules.specs.Graph.{edges_between}
use Rattle.rules.specs.Scene.{ComponentLists, ConnectionLists, edges_of, connections_of}
use Rattle.rules.specs.Refusals.{Checked, scene_limits, first_refusal, component_tests, connection_tests, rows}
use Rattle.rules.specs.Positions.{Positioned}
use Rattle.rules.specs.declared.answers.Refusal.{Refusal}
use Rattle.scene.specs.Lent.{PositionLists}
use Rattle.scene.specs.Ends.{checked_of}

-- lists whose lengths are tested: one length for each kind of record, within the limits
pub record Sized (l : ComponentLists) (m : ConnectionLists) : Type 0 where
  pub kinds_length : length l.kinds ≡ length l.ids
  pub delays_length : length l.delays ≡ length l.ids
  pub locked_length : length l.locked ≡ length l.ids
  pub sinks_length : length m.sinks ≡ length m.sources
  pub transfers_length : length m.transfers ≡ length m.sources
  pub components_few : length l.ids ≤ scene_limits.components
  pub connections_few : length m.sources ≤ scene_limits.connections

-- lists with an entry for each component, and for each connection, that a scene may have
pub record IndexRoom (p : PositionLists) : Type 0 where
  pub order_room : scene_limits.components ≤ length p.order
  pub starts_room : scene_limits.connections ≤ length p.starts
  pub stops_room : scene_limits.connections ≤ length p.stops

-- an accepted scene's ids in order, and its edges over positions
pub record PositionsOf (ids : List ℕ) (m : ConnectionLists) (p : PositionLists) (edges : ℕ) : Type 0 where
  pub sorted : take (length ids) p.order ≡ ordered ids
  pub edges_few : edges ≤ length m.sources
  pub positioned : Positioned ids (edges_of (connections_of m)) (edges_between (take edges p.starts) (take edges p.stops))

-- what the tests of components, then of connections, find
abbrev pub rows_found : ComponentLists → ConnectionLists → Checked
rows_found l m = first_refusal (rows (component_tests l) (length l.ids) ++ rows (connection_tests l m) (length m.sources))

-- what the tests find, and where they accept, the positions
pub record Tested (found : Checked) (ids : List ℕ) (m : ConnectionLists) (p : PositionLists) (answer : Result ℕ Refusal) : Type 0 where
  pub checked : checked_of answer ≡ found
  pub accepted : IfOk answer (PositionsOf ids m p)
