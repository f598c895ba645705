-- From the checks and the passes to the call. Assumes nothing.
use mathlib.Core.List.Memᴰ
use Rattle.std.proofs.Common.{Result, Ok, ◌≡◌, ℕ, ◌+◌, List, [], ◌∷◌, ◌++◌, map, length, replicate, refl, sym, ap, ◌∙◌, arith}
use Rattle.std.proofs.lemmas.List.{length-map, length-append, length-replicate}
use Rattle.rules.specs.Lists.{written}
use Rattle.rules.specs.Ordered.{key_at}
use Rattle.rules.specs.Lent.{components_lent, connections_lent, description_lent}
use Rattle.rules.specs.Scene.{ComponentLists, ConnectionLists, component_at, row_of, delay_of, components_of, connections_of, scene_of}
use Rattle.rules.specs.Refusals.{accepted, scene_limits, check_scene}
use Rattle.rules.specs.Describe.{description, description_numbers, timed_edges, temporal_device, devices, evidence, evidence_kind, describe_outputs, check_describe, describe_checked, DescribedBy}
use Rattle.rules.specs.declared.answers.Description.{Description}
use Rattle.rules.specs.declared.answers.Refusal.{Refusal}
use Rattle.rules.specs.declared.lent.Scene.{Scene}
use Rattle.rules.specs.declared.lent.DescriptionLists.{DescriptionLists}
use Rattle.rules.proofs.Acceptance.{AcceptedScene, accepted→}
use Rattle.rules.proofs.Shortest.{shortest-describe}
use Rattle.laws.proofs.PositionEdges.{inside-sources, inside-sinks}
use Rattle.scene.specs.Lent.{outputs_lent}
use Rattle.scene.specs.Ends.{checked_of}
use Rattle.scene.specs.Placed.{PlacedRows, ScenePlaced}
use Rattle.scene.specs.declared.place.Placed.{Placed}
use Rattle.describe.specs.Rows.{devices_of, EdgeRoom, DeviceRoom, EvidenceRoom, EdgesListed, DevicesListed, EvidenceListed, description_room}
use Rattle.describe.proofs.ByIds.{edge_sources, edge_sinks, edge_minimums, edge_maximums, edge_behaviors, by-list, evidence_kinds, evidence_sources, evidence_sinks, evidence_components, evidence_blocks}

module _ (s : Scene) (old : DescriptionLists) where
  abbrev l : ComponentLists
  l = components_lent s.components

  abbrev m : ConnectionLists
  m = connections_lent s.connections

  module _ {room : List ℕ} (e : room ≡ description_room (description_lent old)) where
    -- the scene tested by the shortest lengths
    pub by_room : {answer : Result Placed Refusal} → ScenePlaced (check_scene scene_limits l m (outputs_lent s 0 room)) l.ids m answer → checked_of answer ≡ describe_checked scene_limits l m (description_lent old)
    by_room t = t.checked ∙ rw e (sym (shortest-describe scene_limits l m _ _ _ (tt, (tt, (tt, tt)))))

  module _ {p : Placed} (at : PlacedRows l.ids m p) (fits : describe_checked scene_limits l m (description_lent old) ≡ accepted) where
    scene : AcceptedScene scene_limits l m (describe_outputs (length l.ids) (length m.sources)
        (length old.edges.sources.now ∷ length old.edges.sinks.now ∷ length old.edges.minimums.now ∷ length old.edges.maximums.now ∷ length old.edges.behaviors.now ∷ [])
        (length old.devices.components.now ∷ length old.devices.xs.now ∷ length old.devices.ys.now ∷ length old.devices.zs.now ∷ length old.devices.semantics.now ∷ length old.devices.delays.now ∷ [])
        (length old.evidence.kinds.now ∷ length old.evidence.sources.now ∷ length old.evidence.sinks.now ∷ length old.evidence.components.now ∷ length old.evidence.blocks.now ∷ []))
    unfolding check_describe
    scene = accepted→ scene_limits l m _ fits

    pub edges_room : EdgeRoom s.components p.edges old.edges
    edges_room =
        let a = scene.components_aligned in
        let long = scene.outputs_long _ (Memᴰ.head refl) in
        record {
          kinds_length = a.kinds_length;
          delays_length = a.delays_length;
          pairs = at.pairs;
          starts_below = inside-sources (length l.ids) p.edges.sources.now p.edges.sinks.now (sym at.pairs) at.positioned.inside;
          stops_below = inside-sinks (length l.ids) p.edges.sources.now p.edges.sinks.now (sym at.pairs) at.positioned.inside;
          sources_room = omega (arith, at.edges_few, long _ (Memᴰ.head refl));
          sinks_room = omega (arith, at.edges_few, long _ (Memᴰ.tail (Memᴰ.head refl)));
          minimums_room = omega (arith, at.edges_few, long _ (Memᴰ.tail (Memᴰ.tail (Memᴰ.head refl))));
          maximums_room = omega (arith, at.edges_few, long _ (Memᴰ.tail (Memᴰ.tail (Memᴰ.tail (Memᴰ.head refl)))));
          behaviors_room = omega (arith, at.edges_few, long _ (Memᴰ.tail (Memᴰ.tail (Memᴰ.tail (Memᴰ.tail (Memᴰ.head refl))))));
        }

    pub devices_room : DeviceRoom s.components old.devices
    devices_room =
        let a = scene.components_aligned in
        let long = scene.outputs_long _ (Memᴰ.tail (Memᴰ.head refl)) in
        record {
          kinds_length = a.kinds_length;
          delays_length = a.delays_length;
          xs_length = a.xs_length;
          ys_length = a.ys_length;
          zs_length = a.zs_length;
          components_room = long _ (Memᴰ.head refl);
          xs_room = long _ (Memᴰ.tail (Memᴰ.head refl));
          ys_room = long _ (Memᴰ.tail (Memᴰ.tail (Memᴰ.head refl)));
          zs_room = long _ (Memᴰ.tail (Memᴰ.tail (Memᴰ.tail (Memᴰ.head refl))));
          semantics_room = long _ (Memᴰ.tail (Memᴰ.tail (Memᴰ.tail (Memᴰ.tail (Memᴰ.head refl)))));
          delays_room = long _ (Memᴰ.tail (Memᴰ.tail (Memᴰ.tail (Memᴰ.tail (Memᴰ.tail (Memᴰ.head refl))))));
        }

    pub evidence_room : EvidenceRoom s old.evidence
    evidence_room =
        let long = scene.outputs_long _ (Memᴰ.tail (Memᴰ.tail (Memᴰ.head refl))) in
        record {
          kinds_length = scene.components_aligned.kinds_length;
          pairs = scene.connections_aligned.sinks_length;
          fits = record {
            kinds_room = long _ (Memᴰ.head refl);
            sources_room = long _ (Memᴰ.tail (Memᴰ.head refl));
            sinks_room = long _ (Memᴰ.tail (Memᴰ.tail (Memᴰ.head refl)));
            components_room = long _ (Memᴰ.tail (Memᴰ.tail (Memᴰ.tail (Memᴰ.head refl))));
            blocks_room = long _ (Memᴰ.tail (Memᴰ.tail (Memᴰ.tail (Memᴰ.tail (Memᴰ.head refl)))));
          };
        }

    abbrev chosen : List ℕ
    chosen = devices_of s.components

    edge_count : length p.edges.sources.now ≡ length (timed_edges (components_of l) (connections_of m))
    edge_count =
        sym (length-map p.edges.sources.now (key_at l.ids)) ∙ ap length (edge_sources l m p.edges.sources.now p.edges.sinks.now scene.ids_distinct at.pairs at.positioned)
        ∙ length-map (timed_edges (components_of l) (connections_of m)) (λ e. e.source)

    device_count : length (devices_of s.components) ≡ length (devices (components_of l))
    device_count = sym (length-map chosen _) ∙ ap length (by-list l (λ d. d.component)) ∙ length-map (devices (components_of l)) (λ d. d.component)

    evidence_count : length m.sources + length (devices_of s.components) ≡ length (evidence (components_of l) (connections_of m))
    evidence_count =
        let n : length m.sources + length chosen ≡ length (replicate {A = ℕ} (length m.sources) 0 ++ map (λ (i : ℕ). 1) chosen) =
        omega (arith, length-append {A = ℕ}, length-replicate {A = ℕ}, length-map {A = ℕ} {B = ℕ}) in
        n ∙ ap length (evidence_kinds l m) ∙ length-map (evidence (components_of l) (connections_of m)) evidence_kind

    -- what the passes write are the lists of the call
    pub call_described : (new : DescriptionLists) → EdgesListed s.components p.edges old.edges new.edges → DevicesListed s.components old.devices new.devices → EvidenceListed s old.evidence new.evidence → (count : ℕ) → count ≡ length (devices_of s.components)
        → DescribedBy accepted (scene_of l m) (description_lent old) (description_lent new) (Ok (record { timed_edges = length p.edges.sources.now; devices = count; evidence = length m.sources + count }))
    unfolding temporal_device component_at delay_of row_of
    call_described new a b c count e =
        let distinct = scene.ids_distinct in
        let told : ◌≡◌ {A = Result Description Refusal} (Ok (record { timed_edges = length p.edges.sources.now; devices = count; evidence = length m.sources + count })) (description accepted (scene_of l m)) = cc (e, edge_count, device_count, evidence_count) in
        (record {
          answered = told;
          numbered = ap description_numbers told;
          edge_sources = a.sources ∙ ap (written old.edges.sources.now) (edge_sources l m _ _ distinct at.pairs at.positioned);
          edge_sinks = a.sinks ∙ ap (written old.edges.sinks.now) (edge_sinks l m _ _ distinct at.pairs at.positioned);
          edge_minimums = a.minimums ∙ ap (written old.edges.minimums.now) (edge_minimums l m _ _ distinct at.pairs at.positioned);
          edge_maximums = a.maximums ∙ ap (written old.edges.maximums.now) (edge_maximums l m _ _ distinct at.pairs at.positioned);
          edge_behaviors = a.behaviors ∙ ap (written old.edges.behaviors.now) (edge_behaviors l m _ _ distinct at.pairs at.positioned);
          device_components = b.components ∙ ap (written old.devices.components.now) (by-list l (λ x. x.component));
          device_xs = b.xs ∙ ap (written old.devices.xs.now) (by-list l (λ x. x.x));
          device_ys = b.ys ∙ ap (written old.devices.ys.now) (by-list l (λ x. x.y));
          device_zs = b.zs ∙ ap (written old.devices.zs.now) (by-list l (λ x. x.z));
          device_semantics = b.semantics ∙ ap (written old.devices.semantics.now) (by-list l (λ x. x.semantics));
          device_delays = b.delays ∙ ap (written old.devices.delays.now) (by-list l (λ x. x.minimum_delay));
          evidence_kinds = c.kinds ∙ ap (written old.evidence.kinds.now) (evidence_kinds l m);
          evidence_sources = c.sources ∙ ap (written old.evidence.sources.now) (evidence_sources l m);
          evidence_sinks = c.sinks ∙ ap (written old.evidence.sinks.now) (evidence_sinks l m scene.connections_aligned);
          evidence_components = c.components ∙ ap (written old.evidence.components.now) (evidence_components l m);
          evidence_blocks = c.blocks ∙ ap (written old.evidence.blocks.now) (evidence_blocks l m);
        })
