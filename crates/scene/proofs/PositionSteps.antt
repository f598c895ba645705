-- Lists lent for the positions of a scene: with room and without. Assumes nothing.
use mathlib.Core.Bool.{Bool, true, false, ◌&&◌}
use mathlib.Core.List.Memᴰ
use mathlib.Core.List.{List, [], ◌∷◌, map}
use mathlib.Core.Path.{◌≡◌, refl, sym, ap, ap₂, subst, ◌∙◌}
use Prim.Native.Nat.{ℕ, ◌<◌}
use native.Mathlib.Omega.{arith}
use lib.Dec.{leb}
use lib.ListN.{length, take, length-map}
use borrow.Author.Tests.{leb-true}
use Rattle.std.specs.Prelude.{Ok}
use Rattle.rules.specs.Lists.{written, Distinct}
use Rattle.rules.specs.Ordered.{ordered}
use Rattle.rules.specs.Graph.{Edge, ◌⟶◌, source_of, sink_of, edges_between}
use Rattle.rules.specs.Positions.{id_at, named, Inside, Positioned}
use Rattle.rules.specs.Scene.{ComponentLists, ConnectionLists, edges_of, connections_of}
use Rattle.rules.specs.Refusals.{Output, scene_limits, check_scene}
use Rattle.rules.proofs.Acceptance.{accepted→}
use Rattle.rules.proofs.Indices.{distinct-at}
use Rattle.rules.proofs.Ordering.{ordered-length, first→position}
use Rattle.rules.proofs.Written.{written-front}
use Rattle.laws.proofs.PositionEdges.{edges_between-sources, edges_between-sinks}
use Rattle.scene.specs.Lent.{PositionLists}
use Rattle.scene.specs.Indexed.{IndexRoom}
use Rattle.scene.specs.Placed.{PlacedRows, ScenePlaced}
use Rattle.scene.specs.declared.place.Placed.{Placed}
use Rattle.scene.specs.ScenePositions.{positions_fit, lists_fit, FrontsFit, end_position, edge_positions, PositionsGiven}

both : (a b : Bool) → a && b ≡ true → (a ≡ true) × (b ≡ true)
both true b e = (refl, e)
both false b e = (e, let z : b ≡ true = cc in z)

-- lists that fit have room for the index
pub fitting-room : (p : PositionLists) → lists_fit scene_limits p ≡ true → IndexRoom p
unfolding positions_fit
fitting-room p e =
    let a = both (leb scene_limits.components (length p.order)) _ e in
    let b = both (leb scene_limits.connections (length p.starts)) _ a.1 in
    record { order_room = leb-true _ _ a.0; starts_room = leb-true _ _ b.0; stops_room = leb-true _ _ b.1 }

-- an id of distinct ids is found where it stands
found_back : (ids : List ℕ) → Distinct ids → (i : ℕ) → i < length ids → end_position ids (id_at ids i) ≡ i
found_back ids d i h = rw (first→position ids (id_at ids i) i (record { inside = h; has = refl; none_earlier = λ j k e. let z = distinct-at 0 ids d j i (omega arith) h e in omega arith }))

-- edges by positions are the one row of edges that has the ids of their ends
placed-back : (ids : List ℕ) → Distinct ids → (ps : List Edge) → Inside (length ids) ps → map (λ e. end_position ids (source_of e) ⟶ end_position ids (sink_of e)) (map (named (id_at ids)) ps) ≡ ps
placed-back ids d [] inside = refl
placed-back ids d ((a ⟶ b) ∷ ps) inside =
    let h = inside (a ⟶ b) (Memᴰ.head refl) in
    ap₂ ◌∷◌ (ap₂ ◌⟶◌ (found_back ids d a h.0) (found_back ids d b h.1)) (placed-back ids d ps (λ e k. inside e (Memᴰ.tail k)))

positions-unique : (ids : List ℕ) (m : ConnectionLists) → Distinct ids → (ps : List Edge) → Positioned ids (edges_of (connections_of m)) ps → ps ≡ edge_positions ids m
unfolding edge_positions
positions-unique ids m d ps p = sym (placed-back ids d ps p.inside) ∙ ap (map (λ e. end_position ids (source_of e) ⟶ end_position ids (sink_of e))) p.names

-- a scene that is placed, and what the caller's lists are given
module _ (l : ComponentLists) (m : ConnectionLists) (outputs : List Output) (placed : Placed) (t : ScenePlaced (check_scene scene_limits l m outputs) l.ids m (Ok placed)) where
  p : PlacedRows l.ids m placed
  p = t.accepted

  -- what is placed fits lists that have room for every scene
  pub placed-fits : (q : PositionLists) → IndexRoom q → FrontsFit placed q
  placed-fits q r = record {
    order_fits = omega (arith, ap length p.sorted, ordered-length l.ids, p.components_few, r.order_room);
    starts_fit = omega (arith, p.edges_few, p.connections_few, r.starts_room);
    stops_fit = omega (arith, p.pairs, p.edges_few, p.connections_few, r.stops_room);
  }

  unique : edges_between placed.edges.sources.now placed.edges.sinks.now ≡ edge_positions l.ids m
  unique = positions-unique l.ids m (accepted→ scene_limits l m outputs (sym t.checked)).ids_distinct _ p.positioned

  sources-are : placed.edges.sources.now ≡ map source_of (edge_positions l.ids m)
  sources-are = sym (edges_between-sources placed.edges.sources.now placed.edges.sinks.now (sym p.pairs)) ∙ ap (map source_of) unique

  sinks-are : placed.edges.sinks.now ≡ map sink_of (edge_positions l.ids m)
  sinks-are = sym (edges_between-sinks placed.edges.sources.now placed.edges.sinks.now (sym p.pairs)) ∙ ap (map sink_of) unique

  pub given-accepted : (old new : PositionLists) → new.order ≡ written old.order placed.order.now → new.starts ≡ written old.starts placed.edges.sources.now → new.stops ≡ written old.stops placed.edges.sinks.now
      → PositionsGiven (check_scene scene_limits l m outputs) l.ids m old new (Ok (length placed.edges.sources.now))
  given-accepted old new o s e =
      let sorted : new.order ≡ written old.order (ordered l.ids) = o ∙ ap (written old.order) p.sorted in
      let front-starts = ap (take (length placed.edges.sources.now)) s ∙ written-front old.starts placed.edges.sources.now _ refl in
      let front-stops = ap (take (length placed.edges.sources.now)) e ∙ written-front old.stops placed.edges.sinks.now _ p.pairs in
      subst (λ c. PositionsGiven c l.ids m old new (Ok (length placed.edges.sources.now))) t.checked (record {
        answered = ap Ok (ap length sources-are ∙ length-map (edge_positions l.ids m) source_of);
        order_written = sorted;
        starts_written = s ∙ ap (written old.starts) sources-are;
        stops_written = e ∙ ap (written old.stops) sinks-are;
        positions = record {
          sorted = ap (take (length l.ids)) sorted ∙ written-front old.order (ordered l.ids) (length l.ids) (ordered-length l.ids);
          edges_few = p.edges_few;
          positioned = rw (front-starts, front-stops) p.positioned;
        };
      })
