-- What the passes over edges, devices and connections need and write, by positions. Assumes nothing: these are definitions.
use Rattle.std.specs.Prelude.{List, [], ◌∷◌, ◌++◌, map, ◌≡◌, ℕ, ◌+◌, ◌≤◌, ℤ, pos, length, get_or, replicate}
use Rattle.rules.specs.Lists.{keep, indices, written, written_from}
use Rattle.rules.specs.Kinds.{kind_row, component_delay, edge_timing, is_device}
use Rattle.rules.specs.Codes.{behavior_code}
use Rattle.rules.specs.Describe.{meaning_code, DescribeLists}
use Rattle.rules.specs.Refusals.{shortest}
use Rattle.rules.specs.Ordered.{key_at}
use Rattle.rules.specs.declared.kinds.EdgeTiming.{EdgeTiming}
use Rattle.rules.specs.declared.lent.Components.{Components}
use Rattle.rules.specs.declared.lent.Connections.{Connections}
use Rattle.rules.specs.declared.lent.Scene.{Scene}
use Rattle.rules.specs.declared.lent.TimedEdgeLists.{TimedEdgeLists}
use Rattle.rules.specs.declared.lent.DeviceLists.{DeviceLists}
use Rattle.rules.specs.declared.lent.EvidenceLists.{EvidenceLists}
use Rattle.graph.specs.Adjacency.{Below}
use Rattle.graph.specs.declared.edges.Edges.{Edges}
use Rattle.describe.specs.declared.evidence.EvidenceKind.{EvidenceKind}
use Rattle.describe.specs.declared.evidence.EvidenceKind.TheVariants.{VerifiedPhysicalConnection, DeviceSemantics}

-- what is said of the component at a position
abbrev pub delay_at_position : (kinds delays : List ℕ) → ℕ → ℕ
delay_at_position kinds delays i = component_delay (key_at kinds i) (key_at delays i)

abbrev pub behavior_at_position : (kinds : List ℕ) → ℕ → ℕ
behavior_at_position kinds i = behavior_code (kind_row (key_at kinds i)).behavior

abbrev pub semantics_at_position : (kinds : List ℕ) → ℕ → ℕ
semantics_at_position kinds i = meaning_code (kind_row (key_at kinds i)).meaning

abbrev pub place_at : List ℤ → ℕ → ℤ
place_at places i = get_or places i (pos 0)

-- what the edges out of it take from it
abbrev pub timing_at_position : (kinds delays : List ℕ) → ℕ → EdgeTiming
timing_at_position kinds delays i = edge_timing (key_at kinds i) (key_at delays i)

-- the positions of the devices among the first n components
unfoldable pub device_positions : (kinds : List ℕ) → ℕ → List ℕ
device_positions kinds n = keep (λ i. is_device (kind_row (key_at kinds i))) (indices n)

abbrev pub devices_of : Components → List ℕ
devices_of c = device_positions c.kinds.now (length c.ids.now)

-- edges between the positions of components, and room for an entry of each
pub record EdgeRoom (c : Components) (edges : Edges) (lists : TimedEdgeLists) : Type 0 where
  pub kinds_length : length c.kinds.now ≡ length c.ids.now
  pub delays_length : length c.delays.now ≡ length c.ids.now
  pub pairs : length edges.sinks.now ≡ length edges.sources.now
  pub starts_below : Below (length c.ids.now) edges.sources.now
  pub stops_below : Below (length c.ids.now) edges.sinks.now
  pub sources_room : length edges.sources.now ≤ length lists.sources.now
  pub sinks_room : length edges.sources.now ≤ length lists.sinks.now
  pub minimums_room : length edges.sources.now ≤ length lists.minimums.now
  pub maximums_room : length edges.sources.now ≤ length lists.maximums.now
  pub behaviors_room : length edges.sources.now ≤ length lists.behaviors.now

-- list 0 before and after: an entry for each edge
pub record EdgesListed (c : Components) (edges : Edges) (old new : TimedEdgeLists) : Type 0 where
  pub sources : new.sources.now ≡ written old.sources.now (map (key_at c.ids.now) edges.sources.now)
  pub sinks : new.sinks.now ≡ written old.sinks.now (map (key_at c.ids.now) edges.sinks.now)
  pub minimums : new.minimums.now ≡ written old.minimums.now (map (delay_at_position c.kinds.now c.delays.now) edges.sources.now)
  pub maximums : new.maximums.now ≡ written old.maximums.now (map (delay_at_position c.kinds.now c.delays.now) edges.sources.now)
  pub behaviors : new.behaviors.now ≡ written old.behaviors.now (map (behavior_at_position c.kinds.now) edges.sources.now)

-- components, and room for an entry of each
pub record DeviceRoom (c : Components) (lists : DeviceLists) : Type 0 where
  pub kinds_length : length c.kinds.now ≡ length c.ids.now
  pub delays_length : length c.delays.now ≡ length c.ids.now
  pub xs_length : length c.xs.now ≡ length c.ids.now
  pub ys_length : length c.ys.now ≡ length c.ids.now
  pub zs_length : length c.zs.now ≡ length c.ids.now
  pub components_room : length c.ids.now ≤ length lists.components.now
  pub xs_room : length c.ids.now ≤ length lists.xs.now
  pub ys_room : length c.ids.now ≤ length lists.ys.now
  pub zs_room : length c.ids.now ≤ length lists.zs.now
  pub semantics_room : length c.ids.now ≤ length lists.semantics.now
  pub delays_room : length c.ids.now ≤ length lists.delays.now

-- list 1 before and after: an entry for each device
pub record DevicesListed (c : Components) (old new : DeviceLists) : Type 0 where
  pub components : new.components.now ≡ written old.components.now (map (key_at c.ids.now) (devices_of c))
  pub xs : new.xs.now ≡ written old.xs.now (map (place_at c.xs.now) (devices_of c))
  pub ys : new.ys.now ≡ written old.ys.now (map (place_at c.ys.now) (devices_of c))
  pub zs : new.zs.now ≡ written old.zs.now (map (place_at c.zs.now) (devices_of c))
  pub semantics : new.semantics.now ≡ written old.semantics.now (map (semantics_at_position c.kinds.now) (devices_of c))
  pub delays : new.delays.now ≡ written old.delays.now (map (delay_at_position c.kinds.now c.delays.now) (devices_of c))

-- the kinds of evidence, numbered as `evidence_kind` does
abbrev pub evidence_kind_code : EvidenceKind → ℕ
evidence_kind_code VerifiedPhysicalConnection = 0
evidence_kind_code DeviceSemantics = 1

-- room for n entries in each list of evidence
pub record EvidenceFits (n : ℕ) (lists : EvidenceLists) : Type 0 where
  pub kinds_room : n ≤ length lists.kinds.now
  pub sources_room : n ≤ length lists.sources.now
  pub sinks_room : n ≤ length lists.sinks.now
  pub components_room : n ≤ length lists.components.now
  pub blocks_room : n ≤ length lists.blocks.now

-- a scene, and room for an entry of each connection and of each component
pub record EvidenceRoom (s : Scene) (lists : EvidenceLists) : Type 0 where
  pub kinds_length : length s.components.kinds.now ≡ length s.components.ids.now
  pub pairs : length s.connections.sinks.now ≡ length s.connections.sources.now
  pub fits : EvidenceFits (length s.connections.sources.now + length s.components.ids.now) lists

-- an entry for each connection
pub record ConnectionsListed (n : Connections) (old new : EvidenceLists) : Type 0 where
  pub kinds : new.kinds.now ≡ written old.kinds.now (replicate (length n.sources.now) 0)
  pub sources : new.sources.now ≡ written old.sources.now n.sources.now
  pub sinks : new.sinks.now ≡ written old.sinks.now n.sinks.now
  pub components : new.components.now ≡ written old.components.now (replicate (length n.sources.now) 0)
  pub blocks : new.blocks.now ≡ written old.blocks.now (replicate (length n.sources.now) 0)

-- an entry for each device, from a place on
pub record DeviceEvidenceListed (c : Components) (first : ℕ) (old new : EvidenceLists) : Type 0 where
  pub kinds : new.kinds.now ≡ written_from first old.kinds.now (map (λ (i : ℕ). 1) (devices_of c))
  pub sources : new.sources.now ≡ written_from first old.sources.now (map (λ (i : ℕ). 0) (devices_of c))
  pub sinks : new.sinks.now ≡ written_from first old.sinks.now (map (λ (i : ℕ). 0) (devices_of c))
  pub components : new.components.now ≡ written_from first old.components.now (map (key_at c.ids.now) (devices_of c))
  pub blocks : new.blocks.now ≡ written_from first old.blocks.now (map (key_at c.kinds.now) (devices_of c))

-- list 2 before and after: an entry for each connection, then one for each device
pub record EvidenceListed (s : Scene) (old new : EvidenceLists) : Type 0 where
  pub kinds : new.kinds.now ≡ written old.kinds.now (replicate (length s.connections.sources.now) 0 ++ map (λ (i : ℕ). 1) (devices_of s.components))
  pub sources : new.sources.now ≡ written old.sources.now (s.connections.sources.now ++ map (λ (i : ℕ). 0) (devices_of s.components))
  pub sinks : new.sinks.now ≡ written old.sinks.now (s.connections.sinks.now ++ map (λ (i : ℕ). 0) (devices_of s.components))
  pub components : new.components.now ≡ written old.components.now (replicate (length s.connections.sources.now) 0 ++ map (key_at s.components.ids.now) (devices_of s.components))
  pub blocks : new.blocks.now ≡ written old.blocks.now (replicate (length s.connections.sources.now) 0 ++ map (key_at s.components.kinds.now) (devices_of s.components))

-- the shortest lengths of lists 0, 1 and 2
abbrev pub description_room : DescribeLists → List ℕ
description_room o =
    shortest (length o.edge_sources ∷ length o.edge_sinks ∷ length o.edge_minimums ∷ length o.edge_maximums ∷ length o.edge_behaviors ∷ [])
    ∷ shortest (length o.device_components ∷ length o.device_xs ∷ length o.device_ys ∷ length o.device_zs ∷ length o.device_semantics ∷ length o.device_delays ∷ [])
    ∷ shortest (length o.evidence_kinds ∷ length o.evidence_sources ∷ length o.evidence_sinks ∷ length o.evidence_components ∷ length o.evidence_blocks ∷ [])
    ∷ []
