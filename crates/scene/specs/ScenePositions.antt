-- What a caller gets who lends lists for the positions of a scene. Assumes nothing: these are definitions.
use Rattle.std.specs.Prelude.{Result, Ok, Err, IfOk, unwrap_or, Bool, true, false, ◌&&◌, List, map, ◌≡◌, ℕ, ◌≤◌, leb, length}
use Rattle.rules.specs.Ordered.{ordered, position_of}
use Rattle.rules.specs.Graph.{Edge, ◌⟶◌, source_of, sink_of}
use Rattle.rules.specs.Scene.{ComponentLists, ConnectionLists, edges_of, connections_of}
use Rattle.rules.specs.Refusals.{Checked, Output, SceneLimits, after, answer_of, check_scene}
use Rattle.rules.specs.declared.answers.Refusal.{Refusal}
use Rattle.scene.specs.declared.positions.Unplaced.{Unplaced}
use Rattle.scene.specs.declared.positions.Unplaced.TheVariants.{NoRoom, Refused}
use Rattle.scene.specs.declared.place.Placed.{Placed}
use Rattle.scene.specs.Lent.{PositionLists}
use Rattle.scene.specs.Indexed.{PositionsOf}

-- lists of these lengths have room for every scene within the limits
unfoldable pub positions_fit : SceneLimits → (order starts stops : ℕ) → Bool
positions_fit limits order starts stops = leb limits.components order && (leb limits.connections starts && leb limits.connections stops)

abbrev pub lists_fit : SceneLimits → PositionLists → Bool
lists_fit limits p = positions_fit limits (length p.order) (length p.starts) (length p.stops)

-- lists that a scene's positions fit
pub record FrontsFit (placed : Placed) (p : PositionLists) : Type 0 where
  pub order_fits : length placed.order.now ≤ length p.order
  pub starts_fit : length placed.edges.sources.now ≤ length p.starts
  pub stops_fit : length placed.edges.sinks.now ≤ length p.stops

-- the position of an id; 0 where there is none, which no end of an accepted scene's edges has: refusal 6
abbrev pub end_position : List ℕ → ℕ → ℕ
end_position ids id = unwrap_or (position_of ids id) 0

-- the edges, each between the positions of its ends
unfoldable pub edge_positions : List ℕ → ConnectionLists → List Edge
edge_positions ids m = map (λ e. end_position ids (source_of e) ⟶ end_position ids (sink_of e)) (edges_of (connections_of m))

-- given what the checks find: the answer, with how many edges there are, and what each list holds. `positions` says what the lists of an
-- accepted scene are good for
pub record PositionsGiven (found : Checked) (ids : List ℕ) (m : ConnectionLists) (old new : PositionLists) (answer : Result ℕ Refusal) : Type 0 where
  pub answered : answer ≡ answer_of found (length (edge_positions ids m))
  pub order_written : new.order ≡ after found old.order (ordered ids)
  pub starts_written : new.starts ≡ after found old.starts (map source_of (edge_positions ids m))
  pub stops_written : new.stops ≡ after found old.stops (map sink_of (edge_positions ids m))
  pub positions : IfOk answer (PositionsOf ids m new)

-- the answer with room, as one of a caller whose lists may have none
abbrev pub with_room : Result ℕ Refusal → Result ℕ Unplaced
with_room (Ok edges) = Ok edges
with_room (Err r) = Err (Refused r)

-- with room, the scene is tested and indexed; without, nothing is done
pub record ScenePositioned (limits : SceneLimits) (l : ComponentLists) (m : ConnectionLists) (outputs : List Output) (old new : PositionLists) (answer : Result ℕ Unplaced) : Type 0 where
  pub indexed : lists_fit limits old ≡ true → (given : Result ℕ Refusal) × (answer ≡ with_room given) × PositionsGiven (check_scene limits l m outputs) l.ids m old new given
  pub untested : lists_fit limits old ≡ false → (answer ≡ Err NoRoom) × (new ≡ old)
