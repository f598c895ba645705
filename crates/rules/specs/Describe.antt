-- Lists 0, 1 and 2: timed edges, devices and evidence. Assumes nothing: these are definitions.
use Rattle.std.specs.Prelude.{Option, Some, None, Result, Ok, Err, List, [], ◌∷◌, ◌++◌, map, ◌≡◌, ℕ, ℤ, length}
use Rattle.rules.specs.Lists.{keep}
use Rattle.rules.specs.Kinds.{is_device}
use Rattle.rules.specs.Codes.{behavior_code, semantics_code, refusal_code}
use Rattle.rules.specs.Scene.{Component, Connection, Scene, ComponentLists, ConnectionLists, scene_of, is_edge, row_of, delay_of, row_at, delay_at}
use Rattle.rules.specs.Refusals.{Checked, SceneLimits, Output, after, answer_of, outputs_from, check_scene}
use Rattle.rules.specs.declared.kinds.TemporalSemantics.{TemporalSemantics}
use Rattle.rules.specs.declared.answers.Description.{Description}
use Rattle.rules.specs.declared.answers.Refusal.{Refusal}

-- an entry of list 0
pub record TimedEdge : Type 0 where
  pub source : ℕ
  pub sink : ℕ
  pub minimum : ℕ
  pub maximum : ℕ
  pub behavior : ℕ

-- "An edge takes its source's delay."
unfoldable pub timed_edge : (ℕ → ℕ) → (ℕ → ℕ) → List Component → Connection → TimedEdge
timed_edge low high cs n =
    record {
      source = n.source;
      sink = n.sink;
      minimum = low n.source;
      maximum = high n.source;
      behavior = behavior_code (row_at cs n.source).behavior;
    }

-- list 0: "Timed edges and evidence follow connection order"
unfoldable pub timed_edges : List Component → List Connection → List TimedEdge
timed_edges cs ns = map (timed_edge (delay_at cs) (delay_at cs) cs) (keep is_edge ns)

-- an entry of list 1
pub record TemporalDevice : Type 0 where
  pub component : ℕ
  pub x : ℤ
  pub y : ℤ
  pub z : ℤ
  pub semantics : ℕ
  pub minimum_delay : ℕ

abbrev pub meaning_code : Option TemporalSemantics → ℕ
meaning_code None = 0
meaning_code (Some s) = semantics_code s

unfoldable pub temporal_device : Component → TemporalDevice
temporal_device c =
    record { component = c.id; x = c.x; y = c.y; z = c.z; semantics = meaning_code (row_of c).meaning; minimum_delay = delay_of c }

-- "Kinds 9 to 12 are devices": those of the scene, in component order
unfoldable pub device_components : List Component → List Component
device_components cs = keep (λ c. is_device (row_of c)) cs

-- list 1
unfoldable pub devices : List Component → List TemporalDevice
devices cs = map temporal_device (device_components cs)

-- an entry of list 2
pub data Evidence : Type 0 where
  verified_physical_connection : (source sink : ℕ) → Evidence
  device_semantics : (component block : ℕ) → Evidence

-- the fields of list 2: "A field that an entry's case lacks holds 0."
abbrev pub evidence_kind : Evidence → ℕ
evidence_kind (verified_physical_connection a b) = 0
evidence_kind (device_semantics v block) = 1

abbrev pub evidence_source : Evidence → ℕ
evidence_source (verified_physical_connection a b) = a
evidence_source (device_semantics v block) = 0

abbrev pub evidence_sink : Evidence → ℕ
evidence_sink (verified_physical_connection a b) = b
evidence_sink (device_semantics v block) = 0

abbrev pub evidence_component : Evidence → ℕ
evidence_component (verified_physical_connection a b) = 0
evidence_component (device_semantics v block) = v

abbrev pub evidence_block : Evidence → ℕ
evidence_block (verified_physical_connection a b) = 0
evidence_block (device_semantics v block) = block

-- every connection gives evidence, a structural support too
abbrev pub connection_evidence : Connection → Evidence
connection_evidence n = verified_physical_connection n.source n.sink

abbrev pub device_evidence : Component → Evidence
device_evidence c = device_semantics c.id c.kind

-- list 2: "device evidence comes after it, in component order"
unfoldable pub evidence : List Component → List Connection → List Evidence
evidence cs ns = map connection_evidence ns ++ map device_evidence (device_components cs)

-- the output lists of the call: 0, 1 and 2
abbrev pub describe_outputs : (n m : ℕ) → (edge_lengths device_lengths evidence_lengths : List ℕ) → List Output
describe_outputs n m l0 l1 l2 = outputs_from 0 n m (l0 ∷ l1 ∷ l2 ∷ [])

-- the checks of the call
unfoldable pub check_describe : SceneLimits → ComponentLists → ConnectionLists → (edge_lengths device_lengths evidence_lengths : List ℕ) → Checked
check_describe limits l m l0 l1 l2 = check_scene limits l m (describe_outputs (length l.ids) (length m.sources) l0 l1 l2)

-- the answer: the refusal, or how many entries of each list are used
abbrev pub description : Checked → Scene → Result Description Refusal
description checked s =
    answer_of checked (record {
      timed_edges = length (timed_edges s.components s.connections);
      devices = length (devices s.components);
      evidence = length (evidence s.components s.connections);
    })

-- the answer's numbers: refusal, place, then the counts of lists 0, 1 and 2
abbrev pub description_numbers : Result Description Refusal → List ℕ
description_numbers (Err r) = refusal_code r.kind ∷ r.place ∷ 0 ∷ 0 ∷ 0 ∷ []
description_numbers (Ok a) = 0 ∷ 0 ∷ a.timed_edges ∷ a.devices ∷ a.evidence ∷ []

-- the number lists that the call is lent to write, one for each field of lists 0, 1 and 2
pub record DescribeLists : Type 0 where
  pub edge_sources : List ℕ
  pub edge_sinks : List ℕ
  pub edge_minimums : List ℕ
  pub edge_maximums : List ℕ
  pub edge_behaviors : List ℕ
  pub device_components : List ℕ
  pub device_xs : List ℤ
  pub device_ys : List ℤ
  pub device_zs : List ℤ
  pub device_semantics : List ℕ
  pub device_delays : List ℕ
  pub evidence_kinds : List ℕ
  pub evidence_sources : List ℕ
  pub evidence_sinks : List ℕ
  pub evidence_components : List ℕ
  pub evidence_blocks : List ℕ

-- these lists, one by one in the order of the fields
abbrev pub describe_lists : (edge_sources edge_sinks edge_minimums edge_maximums edge_behaviors device_components : List ℕ) → (device_xs device_ys device_zs : List ℤ) → (device_semantics device_delays evidence_kinds evidence_sources evidence_sinks evidence_components evidence_blocks : List ℕ) → DescribeLists
describe_lists x0 x1 x2 x3 x4 x5 x6 x7 x8 x9 x10 x11 x12 x13 x14 x15 =
    record { edge_sources = x0; edge_sinks = x1; edge_minimums = x2; edge_maximums = x3; edge_behaviors = x4; device_components = x5; device_xs = x6; device_ys = x7; device_zs = x8; device_semantics = x9; device_delays = x10; evidence_kinds = x11; evidence_sources = x12; evidence_sinks = x13; evidence_components = x14; evidence_blocks = x15 }

-- what the checks find, given the lists lent
abbrev pub describe_checked : SceneLimits → ComponentLists → ConnectionLists → DescribeLists → Checked
describe_checked limits l m o =
    check_describe limits l m
    (length o.edge_sources ∷ length o.edge_sinks ∷ length o.edge_minimums ∷ length o.edge_maximums ∷ length o.edge_behaviors ∷ [])
    (length o.device_components ∷ length o.device_xs ∷ length o.device_ys ∷ length o.device_zs ∷ length o.device_semantics ∷ length o.device_delays ∷ [])
    (length o.evidence_kinds ∷ length o.evidence_sources ∷ length o.evidence_sinks ∷ length o.evidence_components ∷ length o.evidence_blocks ∷ [])

-- given what the checks find: the answer, and what each list holds after the call
pub record DescribedBy (checked : Checked) (s : Scene) (old new : DescribeLists) (answer : Result Description Refusal) : Type 0 where
  pub answered : answer ≡ description checked s
  pub numbered : description_numbers answer ≡ description_numbers (description checked s)
  pub edge_sources : new.edge_sources ≡ after checked old.edge_sources (map (λ e. e.source) (timed_edges s.components s.connections))
  pub edge_sinks : new.edge_sinks ≡ after checked old.edge_sinks (map (λ e. e.sink) (timed_edges s.components s.connections))
  pub edge_minimums : new.edge_minimums ≡ after checked old.edge_minimums (map (λ e. e.minimum) (timed_edges s.components s.connections))
  pub edge_maximums : new.edge_maximums ≡ after checked old.edge_maximums (map (λ e. e.maximum) (timed_edges s.components s.connections))
  pub edge_behaviors : new.edge_behaviors ≡ after checked old.edge_behaviors (map (λ e. e.behavior) (timed_edges s.components s.connections))
  pub device_components : new.device_components ≡ after checked old.device_components (map (λ d. d.component) (devices s.components))
  pub device_xs : new.device_xs ≡ after checked old.device_xs (map (λ d. d.x) (devices s.components))
  pub device_ys : new.device_ys ≡ after checked old.device_ys (map (λ d. d.y) (devices s.components))
  pub device_zs : new.device_zs ≡ after checked old.device_zs (map (λ d. d.z) (devices s.components))
  pub device_semantics : new.device_semantics ≡ after checked old.device_semantics (map (λ d. d.semantics) (devices s.components))
  pub device_delays : new.device_delays ≡ after checked old.device_delays (map (λ d. d.minimum_delay) (devices s.components))
  pub evidence_kinds : new.evidence_kinds ≡ after checked old.evidence_kinds (map evidence_kind (evidence s.components s.connections))
  pub evidence_sources : new.evidence_sources ≡ after checked old.evidence_sources (map evidence_source (evidence s.components s.connections))
  pub evidence_sinks : new.evidence_sinks ≡ after checked old.evidence_sinks (map evidence_sink (evidence s.components s.connections))
  pub evidence_components : new.evidence_components ≡ after checked old.evidence_components (map evidence_component (evidence s.components s.connections))
  pub evidence_blocks : new.evidence_blocks ≡ after checked old.evidence_blocks (map evidence_block (evidence s.components s.connections))

-- the call
abbrev pub DescribeCall : SceneLimits → ComponentLists → ConnectionLists → (old new : DescribeLists) → Result Description Refusal → Type 0
DescribeCall limits l m old new answer = DescribedBy (describe_checked limits l m old) (scene_of l m) old new answer
