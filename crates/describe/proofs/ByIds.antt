-- What is written by positions is lists 0, 1 and 2. Assumes nothing.
use mathlib.Core.List.{List, ◌++◌, map, map-map, map-append, Memᴰ}
use mathlib.Core.Path.{◌≡◌, refl, sym, ap, ap₂, ◌∙◌}
use Prim.Native.Nat.{ℕ, ◌<◌}
use native.Mathlib.Omega.{arith}
use lib.ListN.{length, replicate}
use Rattle.std.proofs.lemmas.Simd.{splat_is_map}
use Rattle.rules.specs.Lists.{keep, indices, Distinct}
use Rattle.rules.specs.Ordered.{key_at}
use Rattle.rules.specs.Positions.{id_at, named, Positioned}
use Rattle.rules.specs.Graph.{Edge, edges_between, source_of, sink_of}
use Rattle.rules.specs.Kinds.{is_device}
use Rattle.rules.specs.Codes.{behavior_code}
use Rattle.rules.specs.Scene.{Component, Connection, ComponentLists, ConnectionLists, component_at, components_of, connections_of, is_edge, edge_of, edges_of, row_of, delay_of, row_at, delay_at}
use Rattle.rules.specs.Describe.{timed_edge, timed_edges, TemporalDevice, temporal_device, device_components, devices, Evidence, connection_evidence, device_evidence, evidence, evidence_kind, evidence_source, evidence_sink, evidence_component, evidence_block}
use Rattle.rules.proofs.Lists.{keep-map, map_same}
use Rattle.rules.proofs.Indices.{mem-at}
use Rattle.rules.proofs.Columns.{ConnectionsAligned, connection-sources, connections-length, connection-columns}
use Rattle.laws.proofs.PositionEdges.{edges_between-sources, edges_between-sinks, inside-sources}
use Rattle.laws.proofs.ByPosition.{row-by-position, delay-by-position}
use Rattle.describe.specs.Rows.{delay_at_position, behavior_at_position, device_positions}

-- list 0
module _ (l : ComponentLists) (m : ConnectionLists) (starts stops : List ℕ) (distinct : Distinct l.ids) (pairs : length stops ≡ length starts)
    (at : Positioned l.ids (edges_of (connections_of m)) (edges_between starts stops)) where
  abbrev edge_connections : List Connection
  edge_connections = keep is_edge (connections_of m)

  -- what is said of an end of each edge
  by_end : {A : Type 0} (end : Edge → ℕ) (ends : List ℕ) → map end (edges_between starts stops) ≡ ends → ((e : Edge) → end (named (id_at l.ids) e) ≡ id_at l.ids (end e)) → (g : ℕ → A)
      → map (λ n. g (end (edge_of n))) (keep is_edge (connections_of m)) ≡ map (λ i. g (id_at l.ids i)) ends
  unfolding edges_of
  by_end end ends e h g =
      sym (map-map (λ x. g (end x)) edge_of edge_connections)
      ∙ ap (map (λ x. g (end x))) (sym at.names)
      ∙ map-map (λ x. g (end x)) (named (id_at l.ids)) (edges_between starts stops)
      ∙ map_same _ (λ x. g (id_at l.ids (end x))) (edges_between starts stops) (λ x k. ap g (h x))
      ∙ sym (map-map (λ i. g (id_at l.ids i)) end (edges_between starts stops))
      ∙ ap (map (λ i. g (id_at l.ids i))) e

  by-source : {A : Type 0} (g : ℕ → A) → map (λ n. g n.source) (keep is_edge (connections_of m)) ≡ map (λ i. g (id_at l.ids i)) starts
  by-source g = by_end source_of starts (edges_between-sources starts stops (sym pairs)) (λ e. refl) g

  inside : (i : ℕ) → Memᴰ i starts → i < length l.ids
  inside i k =
      let r = mem-at 0 k in
      omega (arith, inside-sources (length l.ids) starts stops (sym pairs) at.inside r.0 r.1, r.2)

  pub edge_sources : map (key_at l.ids) starts ≡ map (λ e. e.source) (timed_edges (components_of l) (connections_of m))
  unfolding timed_edges timed_edge
  edge_sources = sym (map-map (λ e. e.source) (timed_edge (delay_at (components_of l)) (delay_at (components_of l)) (components_of l)) edge_connections ∙ by-source (λ x. x))

  pub edge_sinks : map (key_at l.ids) stops ≡ map (λ e. e.sink) (timed_edges (components_of l) (connections_of m))
  unfolding timed_edges timed_edge
  edge_sinks =
      sym (map-map (λ e. e.sink) (timed_edge (delay_at (components_of l)) (delay_at (components_of l)) (components_of l)) edge_connections
      ∙ by_end sink_of stops (edges_between-sinks starts stops (sym pairs)) (λ e. refl) (λ x. x))

  delays : map (λ n. delay_at (components_of l) n.source) (keep is_edge (connections_of m)) ≡ map (delay_at_position l.kinds l.delays) starts
  unfolding component_at delay_of
  delays = by-source (delay_at (components_of l)) ∙ map_same _ _ starts (λ i k. delay-by-position l distinct i (inside i k))

  pub edge_minimums : map (delay_at_position l.kinds l.delays) starts ≡ map (λ e. e.minimum) (timed_edges (components_of l) (connections_of m))
  unfolding timed_edges timed_edge
  edge_minimums = sym (map-map (λ e. e.minimum) (timed_edge (delay_at (components_of l)) (delay_at (components_of l)) (components_of l)) edge_connections ∙ delays)

  pub edge_maximums : map (delay_at_position l.kinds l.delays) starts ≡ map (λ e. e.maximum) (timed_edges (components_of l) (connections_of m))
  unfolding timed_edges timed_edge
  edge_maximums = sym (map-map (λ e. e.maximum) (timed_edge (delay_at (components_of l)) (delay_at (components_of l)) (components_of l)) edge_connections ∙ delays)

  pub edge_behaviors : map (behavior_at_position l.kinds) starts ≡ map (λ e. e.behavior) (timed_edges (components_of l) (connections_of m))
  unfolding timed_edges timed_edge component_at row_of
  edge_behaviors =
      sym (map-map (λ e. e.behavior) (timed_edge (delay_at (components_of l)) (delay_at (components_of l)) (components_of l)) edge_connections
      ∙ by-source (λ v. behavior_code (row_at (components_of l) v).behavior)
      ∙ map_same _ _ starts (λ i k. ap (λ r. behavior_code r.behavior) (row-by-position l distinct i (inside i k))))

-- lists 1 and 2
module _ (l : ComponentLists) where
  abbrev chosen : List ℕ
  chosen = device_positions l.kinds (length l.ids)

  -- what is said of each device
  pub by-device : {A : Type 0} (f : Component → A) → map f (device_components (components_of l)) ≡ map (λ i. f (component_at l i)) (device_positions l.kinds (length l.ids))
  unfolding device_components components_of device_positions component_at row_of
  by-device f = ap (map f) (keep-map (λ c. is_device (row_of c)) (component_at l) (indices (length l.ids))) ∙ map-map f (component_at l) chosen

  pub by-list : {A : Type 0} (field : TemporalDevice → A) → map (λ i. field (temporal_device (component_at l i))) (device_positions l.kinds (length l.ids)) ≡ map field (devices (components_of l))
  unfolding devices
  by-list field = sym (map-map field temporal_device (device_components (components_of l)) ∙ by-device (λ c. field (temporal_device c)))

  module _ (m : ConnectionLists) where
    -- an entry for each connection, then one for each device
    by-evidence : {A : Type 0} (field : Evidence → A) → map field (evidence (components_of l) (connections_of m))
        ≡ map (λ n. field (connection_evidence n)) (connections_of m) ++ map (λ i. field (device_evidence (component_at l i))) (device_positions l.kinds (length l.ids))
    unfolding evidence
    by-evidence field =
        map-append field (map connection_evidence (connections_of m)) (map device_evidence (device_components (components_of l)))
        ∙ ap₂ ◌++◌ (map-map field connection_evidence (connections_of m)) (map-map field device_evidence (device_components (components_of l)) ∙ by-device (λ c. field (device_evidence c)))

    no_entries : replicate {A = ℕ} (length m.sources) 0 ≡ map (λ n. 0) (connections_of m)
    no_entries = splat_is_map (connections_of m) (length m.sources) 0 (connections-length m)

    pub evidence_kinds : replicate (length m.sources) 0 ++ map (λ (i : ℕ). 1) (device_positions l.kinds (length l.ids)) ≡ map evidence_kind (evidence (components_of l) (connections_of m))
    evidence_kinds = ap (λ r. r ++ map (λ (i : ℕ). 1) chosen) no_entries ∙ sym (by-evidence evidence_kind)

    pub evidence_sources : m.sources ++ map (λ (i : ℕ). 0) (device_positions l.kinds (length l.ids)) ≡ map evidence_source (evidence (components_of l) (connections_of m))
    evidence_sources = ap (λ r. r ++ map (λ (i : ℕ). 0) chosen) (sym (connection-sources m)) ∙ sym (by-evidence evidence_source)

    pub evidence_sinks : ConnectionsAligned m → m.sinks ++ map (λ (i : ℕ). 0) (device_positions l.kinds (length l.ids)) ≡ map evidence_sink (evidence (components_of l) (connections_of m))
    evidence_sinks a = ap (λ r. r ++ map (λ (i : ℕ). 0) chosen) (sym (connection-columns m a).sinks_column) ∙ sym (by-evidence evidence_sink)

    pub evidence_components : replicate (length m.sources) 0 ++ map (key_at l.ids) (device_positions l.kinds (length l.ids)) ≡ map evidence_component (evidence (components_of l) (connections_of m))
    unfolding component_at
    evidence_components = ap (λ r. r ++ map (key_at l.ids) chosen) no_entries ∙ sym (by-evidence evidence_component)

    pub evidence_blocks : replicate (length m.sources) 0 ++ map (key_at l.kinds) (device_positions l.kinds (length l.ids)) ≡ map evidence_block (evidence (components_of l) (connections_of m))
    unfolding component_at
    evidence_blocks = ap (λ r. r ++ map (key_at l.kinds) chosen) no_entries ∙ sym (by-evidence evidence_block)
