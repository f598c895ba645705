-- A scene is tested and indexed in lists with room, and handed out as the fronts of those lists. Assumes nothing.
use mathlib.Core.List.Memᴰ
use mathlib.Core.List.{List}
use mathlib.Core.Path.{◌≡◌, refl, sym, ap, ◌∙◌}
use Prim.Native.Nat.{ℕ, ◌≤◌}
use native.Mathlib.Omega.{arith}
use lib.ListN.{length, take}
use lib.Seq.{length-take-le}
use Rattle.std.specs.Prelude.{Result, Ok, Err}
use Rattle.rules.specs.Scene.{ComponentLists, ConnectionLists}
use Rattle.rules.specs.Refusals.{Checked, Output, scene_limits, accepted, first_refusal, size_tests, scene_tests, check_scene}
use Rattle.rules.specs.declared.answers.Refusal.{Refusal}
use Rattle.rules.proofs.FirstRefusal.{skip, stay, at_most, none-holds}
use Rattle.rules.proofs.Acceptance.{aligned-components, aligned-connections}
use Rattle.scene.specs.Lent.{PositionLists}
use Rattle.scene.specs.Ends.{checked_of}
use Rattle.scene.specs.Indexed.{Sized, IndexRoom, Tested, rows_found}
use Rattle.scene.specs.Placed.{ScenePlaced}
use Rattle.scene.specs.declared.place.Placed.{Placed}

module _ (l : ComponentLists) (m : ConnectionLists) (outputs : List Output) where
  abbrev found : Checked
  found = check_scene scene_limits l m outputs

  pub sizes-refused : (r : Refusal) → Err r ≡ first_refusal (size_tests scene_limits l m outputs) → ScenePlaced found l.ids m (Err r)
  unfolding check_scene scene_tests
  sizes-refused r e = record { checked = stay (size_tests scene_limits l m outputs) _ e; accepted = tt }

  module _ (e : accepted ≡ first_refusal (size_tests scene_limits l m outputs)) where
    pub sized : Sized l m
    unfolding size_tests
    sized =
        let none = none-holds (size_tests scene_limits l m outputs) (sym e) in
        let a = aligned-components l (none _ (Memᴰ.head refl)) in
        let b = aligned-connections m (none _ (Memᴰ.tail (Memᴰ.head refl))) in
        record {
          kinds_length = a.kinds_length;
          delays_length = a.delays_length;
          locked_length = a.locked_length;
          sinks_length = b.sinks_length;
          transfers_length = b.transfers_length;
          components_few = at_most scene_limits.components (length l.ids) (none _ (Memᴰ.tail (Memᴰ.tail (Memᴰ.head refl))));
          connections_few = at_most scene_limits.connections (length m.sources) (none _ (Memᴰ.tail (Memᴰ.tail (Memᴰ.tail (Memᴰ.head refl)))));
        }

    module _ (p : PositionLists) where
      checked : (answer : Result ℕ Refusal) → Tested (rows_found l m) l.ids m p answer → checked_of answer ≡ found
      unfolding check_scene scene_tests
      checked answer t = skip (size_tests scene_limits l m outputs) _ e t.checked

      pub rows-refused : (r : Refusal) → Tested (rows_found l m) l.ids m p (Err r) → ScenePlaced found l.ids m (Err r)
      rows-refused r t = record { checked = checked (Err r) t; accepted = tt }

      module _ (room : IndexRoom p) (edges : ℕ) (t : Tested (rows_found l m) l.ids m p (Ok edges)) where
        starts_fit : edges ≤ length p.starts
        starts_fit = omega (arith, t.accepted.edges_few, sized.connections_few, room.starts_room)

        stops_fit : edges ≤ length p.stops
        stops_fit = omega (arith, t.accepted.edges_few, sized.connections_few, room.stops_room)

        pub rows-placed : (placed : Placed) → placed.edges.sources.now ≡ take edges p.starts → placed.edges.sinks.now ≡ take edges p.stops → placed.order.now ≡ take (length l.ids) p.order → ScenePlaced found l.ids m (Ok placed)
        rows-placed placed from to ids =
            let sources : length placed.edges.sources.now ≡ edges = ap length from ∙ length-take-le edges p.starts starts_fit in
            let sinks : length placed.edges.sinks.now ≡ edges = ap length to ∙ length-take-le edges p.stops stops_fit in
            record {
              checked = checked (Ok edges) t;
              accepted = record {
                sorted = ids ∙ t.accepted.sorted;
                pairs = sinks ∙ sym sources;
                positioned = rw (from, to) t.accepted.positioned;
                edges_few = omega (arith, sources, t.accepted.edges_few);
                components_few = sized.components_few;
                connections_few = sized.connections_few;
              };
            }
