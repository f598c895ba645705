-- The lists of a call's structs, as the definitions speak of them. Assumes nothing: these are definitions.
use Rattle.std.specs.Prelude.{List, ◌≡◌, ℕ, length}
use Rattle.rules.specs.Refusals.{Output, room_outputs}
use Rattle.rules.specs.declared.lent.Scene.{Scene}
use Rattle.scene.specs.declared.lent.Positions.{Positions}

-- the output lists of a call on the scene, by the shortest length of each
abbrev pub outputs_lent : Scene → (first : ℕ) → List ℕ → List Output
outputs_lent s first room = room_outputs (length s.components.ids.now) (length s.connections.sources.now) first room

-- the lists that the positions of a scene are written to
pub record PositionLists : Type 0 where
  pub order : List ℕ
  pub starts : List ℕ
  pub stops : List ℕ

abbrev pub position_lists : (order starts stops : List ℕ) → PositionLists
position_lists o a b = record { order = o; starts = a; stops = b }

abbrev pub positions_lent : Positions → PositionLists
positions_lent x = position_lists x.order.now x.starts.now x.stops.now

-- the same references, to lists as long as they were
pub record SamePositions (old new : Positions) : Type 0 where
  pub order : new.order.ghost_name ≡ old.order.ghost_name
  pub starts : new.starts.ghost_name ≡ old.starts.ghost_name
  pub stops : new.stops.ghost_name ≡ old.stops.ghost_name
  pub order_length : length new.order.now ≡ length old.order.now
  pub starts_length : length new.starts.now ≡ length old.starts.now
  pub stops_length : length new.stops.now ≡ length old.stops.now
