-- What lists 0, 1 and 2 hold after two calls that differ in the order of the connections. Assumes nothing.
use mathlib.Core.Bool.{Bool}
use mathlib.Core.List.{List, [], ◌∷◌, map}
use mathlib.Core.Path.{◌≡◌, sym, ap, ◌∙◌}
use Prim.Native.Nat.{ℕ, ◌<◌}
use native.Mathlib.Omega.{arith}
use Rattle.std.specs.Prelude.{Result, Ok}
use lib.ListN.{length, get_or, take, length-map}
use Rattle.rules.specs.Lists.{count, indices, written}
use Rattle.rules.specs.Scene.{Scene, ComponentLists, ConnectionLists, scene_of}
use Rattle.rules.specs.Refusals.{accepted, SceneLimits}
use Rattle.rules.specs.Describe.{TimedEdge, timed_edges, TemporalDevice, devices, Evidence, verified_physical_connection, evidence_kind, evidence_source, evidence_sink, evidence_component, evidence_block, evidence, check_describe, DescribeLists, description, describe_checked, DescribedBy, DescribeCall}
use Rattle.rules.specs.declared.answers.Description.{Description}
use Rattle.rules.specs.declared.answers.Refusal.{Refusal}
use Rattle.rules.proofs.Columns.{ConnectionsAligned}
use Rattle.rules.proofs.Counts.{count_map}
use Rattle.rules.proofs.Indices.{map_at, made-same}
use Rattle.laws.proofs.Reordering.{Reordered, same-description, same-describe}
use Rattle.laws.proofs.StoredEdges.{field_back}
use Rattle.laws.proofs.CallRefusals.{describe-accepted}
use Rattle.laws.proofs.CallEntries.{assessed-same, used-field}

-- an entry of list 2, field by field
pub record EvidenceEntry : Type 0 where
  pub kind : ℕ
  pub source : ℕ
  pub sink : ℕ
  pub component : ℕ
  pub block : ℕ

-- the entries of lists 0 and 2 at one index
unfoldable pub stored_timed_edge : DescribeLists → ℕ → TimedEdge
stored_timed_edge o k =
    record {
      source = get_or o.edge_sources k 0;
      sink = get_or o.edge_sinks k 0;
      minimum = get_or o.edge_minimums k 0;
      maximum = get_or o.edge_maximums k 0;
      behavior = get_or o.edge_behaviors k 0;
    }

unfoldable pub stored_evidence : DescribeLists → ℕ → EvidenceEntry
stored_evidence o k =
    record {
      kind = get_or o.evidence_kinds k 0;
      source = get_or o.evidence_sources k 0;
      sink = get_or o.evidence_sinks k 0;
      component = get_or o.evidence_components k 0;
      block = get_or o.evidence_blocks k 0;
    }

-- What two calls answer and leave in their lists. These entries were written, so after an accepted call every list is as long as its
-- entries in use
pub record SameDescribed (a a' : Description) (new new' : DescribeLists) : Type 0 where
  -- every count
  pub same_description : a ≡ a'
  -- list 0, which follows connection order: each entry equally often
  pub same_timed_edges : (test : TimedEdge → Bool) → count test (map (stored_timed_edge new) (indices a.timed_edges)) ≡ count test (map (stored_timed_edge new') (indices a'.timed_edges))
  -- list 1, in component order
  pub same_device_components : take a.devices new.device_components ≡ take a'.devices new'.device_components
  pub same_device_xs : take a.devices new.device_xs ≡ take a'.devices new'.device_xs
  pub same_device_ys : take a.devices new.device_ys ≡ take a'.devices new'.device_ys
  pub same_device_zs : take a.devices new.device_zs ≡ take a'.devices new'.device_zs
  pub same_device_semantics : take a.devices new.device_semantics ≡ take a'.devices new'.device_semantics
  pub same_device_delays : take a.devices new.device_delays ≡ take a'.devices new'.device_delays
  -- list 2: each entry equally often
  pub same_evidence : (test : EvidenceEntry → Bool) → count test (map (stored_evidence new) (indices a.evidence)) ≡ count test (map (stored_evidence new') (indices a'.evidence))

abbrev evidence_entry : Evidence → EvidenceEntry
evidence_entry x = record { kind = evidence_kind x; source = evidence_source x; sink = evidence_sink x; component = evidence_component x; block = evidence_block x }

no_edge : TimedEdge
no_edge = record { source = 0; sink = 0; minimum = 0; maximum = 0; behavior = 0 }

no_evidence : Evidence
no_evidence = verified_physical_connection 0 0

-- what was written is what is read
module _ (s : Scene) (old new : DescribeLists) (a : Description) (call : DescribedBy accepted s old new (Ok a)) where
  abbrev es : List TimedEdge
  es = timed_edges s.components s.connections

  abbrev ds : List TemporalDevice
  ds = devices s.components

  abbrev vs : List Evidence
  vs = evidence s.components s.connections

  edge_count : a.timed_edges ≡ length es
  edge_count = ap (λ a. a.timed_edges) (assessed-same call.answered)

  device-count : a.devices ≡ length ds
  device-count = ap (λ a. a.devices) (assessed-same call.answered)

  evidence-count : a.evidence ≡ length vs
  evidence-count = ap (λ a. a.evidence) (assessed-same call.answered)

  timed-back : map (stored_timed_edge new) (indices a.timed_edges) ≡ es
  unfolding stored_timed_edge
  timed-back = ap (λ n. map (stored_timed_edge new) (indices n)) edge_count ∙ made-same (stored_timed_edge new) es no_edge back
    where
      back : (k : ℕ) → k < length es → stored_timed_edge new k ≡ get_or es k no_edge
      back k h =
          rw (
            field_back (λ t. t.source) _ _ es no_edge 0 k call.edge_sources h,
            field_back (λ t. t.sink) _ _ es no_edge 0 k call.edge_sinks h,
            field_back (λ t. t.minimum) _ _ es no_edge 0 k call.edge_minimums h,
            field_back (λ t. t.maximum) _ _ es no_edge 0 k call.edge_maximums h,
            field_back (λ t. t.behavior) _ _ es no_edge 0 k call.edge_behaviors h,
          )

  evidence-back : map (stored_evidence new) (indices a.evidence) ≡ map evidence_entry vs
  unfolding stored_evidence
  evidence-back =
      ap (λ n. map (stored_evidence new) (indices n)) (evidence-count ∙ sym (length-map vs evidence_entry))
      ∙ made-same (stored_evidence new) (map evidence_entry vs) (evidence_entry no_evidence) back
    where
      back : (k : ℕ) → k < length (map evidence_entry vs) → stored_evidence new k ≡ get_or (map evidence_entry vs) k (evidence_entry no_evidence)
      back k i =
          let h : k < length vs = omega (arith, length-map vs evidence_entry) in
          rw (
            field_back evidence_kind _ _ vs no_evidence 0 k call.evidence_kinds h,
            field_back evidence_source _ _ vs no_evidence 0 k call.evidence_sources h,
            field_back evidence_sink _ _ vs no_evidence 0 k call.evidence_sinks h,
            field_back evidence_component _ _ vs no_evidence 0 k call.evidence_components h,
            field_back evidence_block _ _ vs no_evidence 0 k call.evidence_blocks h,
            map_at evidence_entry vs k no_evidence (evidence_entry no_evidence) h,
          )

  evidence-read : (test : EvidenceEntry → Bool) → count test (map (stored_evidence new) (indices a.evidence)) ≡ count (λ x. test (evidence_entry x)) vs
  evidence-read test = ap (count test) evidence-back ∙ count_map test evidence_entry vs

-- one field of the same entries, written to two lists
same-field : {A B : Type 0} (f : A → B) (l old l' old' : List B) {xs xs' : List A} (n n' : ℕ) → l ≡ written old (map f xs) → l' ≡ written old' (map f xs')
    → n ≡ length xs → n' ≡ length xs' → xs ≡ xs' → take n l ≡ take n' l'
same-field f l old l' old' {xs} {xs'} n n' e e' h h' same = used-field f l old xs n e h ∙ ap (map f) same ∙ sym (used-field f l' old' xs' n' e' h')

module _ (s t : Scene) (r : Reordered s t) (old new old' new' : DescribeLists) (a a' : Description) where
  described-same : DescribedBy accepted s old new (Ok a) → DescribedBy accepted t old' new' (Ok a') → SameDescribed a a' new new'
  described-same one two =
      let same = same-description s t r in
      let d = device-count s old new a one in
      let d' = device-count t old' new' a' two in
      let b = timed-back s old new a one in
      let b' = timed-back t old' new' a' two in
      let c = evidence-read s old new a one in
      let c' = evidence-read t old' new' a' two in
      record {
        same_description = assessed-same (one.answered ∙ same.same_counts ∙ sym two.answered);
        same_timed_edges = λ test. rw (b, b') (same.same_timed test);
        same_device_components = same-field (λ x. x.component) _ _ _ _ _ _ one.device_components two.device_components d d' same.same_devices;
        same_device_xs = same-field (λ x. x.x) _ _ _ _ _ _ one.device_xs two.device_xs d d' same.same_devices;
        same_device_ys = same-field (λ x. x.y) _ _ _ _ _ _ one.device_ys two.device_ys d d' same.same_devices;
        same_device_zs = same-field (λ x. x.z) _ _ _ _ _ _ one.device_zs two.device_zs d d' same.same_devices;
        same_device_semantics = same-field (λ x. x.semantics) _ _ _ _ _ _ one.device_semantics two.device_semantics d d' same.same_devices;
        same_device_delays = same-field (λ x. x.minimum_delay) _ _ _ _ _ _ one.device_delays two.device_delays d d' same.same_devices;
        same_evidence = λ test. rw (c test, c' test) (same.same_evidence (λ x. test (evidence_entry x)));
      }

module _ (limits : SceneLimits) (l l' : ComponentLists) (m m' : ConnectionLists) (r : Reordered (scene_of l m) (scene_of l' m')) where
  -- both calls accept: the counts are the same, and the entries in use, each equally often
  pub same-described : (old new old' new' : DescribeLists) (a a' : Description)
      → DescribeCall limits l m old new (Ok a) → DescribeCall limits l' m' old' new' (Ok a') → SameDescribed a a' new new'
  same-described old new old' new' a a' one two =
      described-same (scene_of l m) (scene_of l' m') r old new old' new' a a'
      (describe-accepted limits l m old new a one).1 (describe-accepted limits l' m' old' new' a' two).1

-- how long the lists are that a call is lent: a row for each of lists 0, 1 and 2, a length for each field
unfoldable pub describe_lengths : DescribeLists → List (List ℕ)
describe_lengths o =
    (length o.edge_sources ∷ length o.edge_sinks ∷ length o.edge_minimums ∷ length o.edge_maximums ∷ length o.edge_behaviors ∷ [])
    ∷ (length o.device_components ∷ length o.device_xs ∷ length o.device_ys ∷ length o.device_zs ∷ length o.device_semantics ∷ length o.device_delays ∷ [])
    ∷ (length o.evidence_kinds ∷ length o.evidence_sources ∷ length o.evidence_sinks ∷ length o.evidence_components ∷ length o.evidence_blocks ∷ [])
    ∷ []

checked-same : (limits : SceneLimits) (l : ComponentLists) (m : ConnectionLists) (old old' : DescribeLists) → describe_lengths old ≡ describe_lengths old'
    → describe_checked limits l m old ≡ describe_checked limits l m old'
unfolding describe_lengths
checked-same limits l m old old' e = ap (λ r. check_describe limits l m (get_or r 0 []) (get_or r 1 []) (get_or r 2 [])) e

module _ (limits : SceneLimits) (l : ComponentLists) (m m' : ConnectionLists) (r : Reordered (scene_of l m) (scene_of l m')) (aligned : ConnectionsAligned m') where
  -- with lists as long, the one call is accepted if the other is, with the same answer
  pub described-together : (old new old' new' : DescribeLists) (a : Description) (answer : Result Description Refusal) → describe_lengths old ≡ describe_lengths old'
      → DescribeCall limits l m old new (Ok a) → DescribeCall limits l m' old' new' answer → answer ≡ Ok a
  described-together old new old' new' a answer lengths one two =
      let e = describe-accepted limits l m old new a one in
      let e' : describe_checked limits l m' old' ≡ accepted = sym (checked-same limits l m' old old' lengths) ∙ same-describe limits l m m' r aligned _ _ _ e.0 in
      two.answered ∙ ap (λ c. description c (scene_of l m')) e' ∙ sym (e.1.answered ∙ (same-description (scene_of l m) (scene_of l m') r).same_counts)
