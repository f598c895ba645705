-- From the components of a scene to the lists that the projection asks for. Assumes nothing.
use Rattle.std.proofs.Common.{Option, is_some, IfSome, ◌≡◌, ℕ, ◌≤◌, List, true, length, take, replicate, ap, ◌∙◌, arith}
use Rattle.std.proofs.lemmas.List.{length-replicate}
use Rattle.rules.specs.Lists.{written}
use Rattle.rules.specs.Refusals.{scene_limits}
use Rattle.rules.specs.Scene.{ComponentLists}
use Rattle.rules.proofs.Indices.{made-length}
use Rattle.rules.proofs.Written.{written-front}
use Rattle.projection.specs.declared.Projected.{Projected}
use Rattle.projection.specs.Projecting.{ProjectedLists, WorkLists, work_lists, node_lists, Projecting, ProjectionCall, projection_fits}
use Rattle.projection.proofs.FitSteps.{Fitted, fitting}
use Rattle.projection.proofs.Promises.{fitting-projects}
use Rattle.assess.specs.Nodes.{delays_of, inverts_of, compressible_of}
use Rattle.assess.specs.Ready.{scene_nodes, ProjectionReady}

delays_length : (kinds delays : List ℕ) → length (delays_of kinds delays) ≡ length kinds
unfolding delays_of
delays_length kinds delays = made-length _ (length kinds)

inverts-length : (kinds : List ℕ) → length (inverts_of kinds) ≡ length kinds
unfolding inverts_of
inverts-length kinds = made-length _ (length kinds)

compressible-length : (kinds : List ℕ) → length (compressible_of kinds) ≡ length kinds
unfolding compressible_of
compressible-length kinds = made-length _ (length kinds)

-- lists as long as the limits have room to work in
pub record FullRoom (w : WorkLists) : Type 0 where
  pub head_room : scene_limits.components ≤ length w.head
  pub next_room : scene_limits.connections ≤ length w.next
  pub incoming_room : scene_limits.components ≤ length w.incoming
  pub firsts_room : scene_limits.connections ≤ length w.firsts

pub fresh-room : FullRoom (work_lists (replicate scene_limits.components 0) (replicate scene_limits.connections 0) (replicate scene_limits.components 0) (replicate scene_limits.connections 0))
fresh-room =
    let few = length-replicate {A = ℕ} scene_limits.components 0 in
    let many = length-replicate {A = ℕ} scene_limits.connections 0 in
    record { head_room = omega (arith, few); next_room = omega (arith, many); incoming_room = omega (arith, few); firsts_room = omega (arith, many) }

module _ {l : ComponentLists} {sources sinks order marks : List ℕ} {c : ProjectedLists} (ready : ProjectionReady l sources sinks order marks c) {w : WorkLists} (room : FullRoom w) where
  fitted : Fitted (scene_nodes l sources sinks order) marks c w
  fitted = record {
    pairs = ready.pairs;
    lows = delays_length l.kinds l.delays ∙ ready.kinds_length;
    highs = delays_length l.kinds l.delays ∙ ready.kinds_length;
    flags = inverts-length l.kinds ∙ ready.kinds_length;
    kinds = compressible-length l.kinds ∙ ready.kinds_length;
    marked = ready.marks_room;
    heads = omega (arith, ready.nodes_few, room.head_room);
    counts = omega (arith, ready.nodes_few, room.incoming_room);
    links = omega (arith, ready.edges_few, room.next_room);
    firsts = omega (arith, ready.edges_few, room.firsts_room);
    sources = ready.sources_room;
    sinks = ready.sinks_room;
    inverted = ready.inverted_room;
    minimums = ready.minimums_room;
    maximums = ready.maximums_room;
    starts = ready.path_starts_room;
    lengths = ready.path_lengths_room;
    paths = ready.paths_room;
    sources_below = ready.sources_below;
    sinks_below = ready.sinks_below;
    order_below = ready.order_below;
    rising = ready.rising;
  }

  -- once the components are gone through, the fronts of the lists are those of the scene
  module _ (low inverts compressible : List ℕ) {low' inverts' compressible' : List ℕ} (lows : low' ≡ written low (delays_of l.kinds l.delays)) (flags : inverts' ≡ written inverts (inverts_of l.kinds))
      (kinds : compressible' ≡ written compressible (compressible_of l.kinds)) where
    low-front : take (length l.ids) low' ≡ delays_of l.kinds l.delays
    low-front = ap (take (length l.ids)) lows ∙ written-front low (delays_of l.kinds l.delays) (length l.ids) (delays_length l.kinds l.delays ∙ ready.kinds_length)

    inverts-front : take (length l.ids) inverts' ≡ inverts_of l.kinds
    inverts-front = ap (take (length l.ids)) flags ∙ written-front inverts (inverts_of l.kinds) (length l.ids) (inverts-length l.kinds ∙ ready.kinds_length)

    compressible-front : take (length l.ids) compressible' ≡ compressible_of l.kinds
    compressible-front = ap (take (length l.ids)) kinds ∙ written-front compressible (compressible_of l.kinds) (length l.ids) (compressible-length l.kinds ∙ ready.kinds_length)

    pub projected : {marks' : List ℕ} {c' : ProjectedLists} {w' : WorkLists} {r : Option Projected}
        → ProjectionCall (node_lists l.ids sources sinks (take (length l.ids) low') (take (length l.ids) low') (take (length l.ids) inverts') (take (length l.ids) compressible') order) marks marks' c c' w w' r
        → (is_some r ≡ true) × IfSome r (λ p. Projecting (scene_nodes l sources sinks order) marks marks' c c' p)
    projected {marks'} {c'} {w'} {r} call =
        let here : ProjectionCall (scene_nodes l sources sinks order) marks marks' c c' w w' r = rw (low-front, inverts-front, compressible-front) at call in
        fitting-projects here fitted

    -- so the lists that the projection is handed fit
    pub fronts-fit : projection_fits (node_lists l.ids sources sinks (take (length l.ids) low') (take (length l.ids) low') (take (length l.ids) inverts') (take (length l.ids) compressible') order) marks c w ≡ true
    fronts-fit = rw (low-front, inverts-front, compressible-front, fitting (scene_nodes l sources sinks order) marks c w fitted)
