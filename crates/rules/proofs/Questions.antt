-- How the rules are asked for an example, with the answer in the numbers of the lists, and short ways to write both. Assumes nothing.
use mathlib.Core.List.{List, [], ◌∷◌, ◌++◌, map, flat_map}
use Prim.Native.Nat.{ℕ, ◌-◌}
use lib.IntN.{ℤ, pos}
use lib.ListN.{length, get_or, replicate}
use Rattle.rules.specs.Lists.{any, keep, count, from, indices, insert, rising, once, sum, written_from}
use Rattle.rules.specs.Delay.{saturating_add}
use Rattle.rules.specs.Kinds.{kind_row, delay_by, component_delay, is_device}
use Rattle.rules.specs.Graph.{in_count, out_count, reach, settled, strongly_connected}
use Rattle.rules.specs.Scene.{Component, Connection, Scene, ComponentLists, ConnectionLists, connection_lists as joined, component_at, connection_at, components_of, connections_of, scene_of, edges_of, edges, rising_ids, row_of, delay_of, by_id, row_at, delay_at}
use Rattle.rules.specs.Paths.{no_incoming, settled_sources, paths_within, paths_to, delay_sum, extreme, extreme_sum}
use Rattle.rules.specs.Labels.{Label, label, settled_flag, low_sum, high_sum, labels}
use Rattle.rules.specs.Reasons.{in_feedback, feedback, Reason, reason_kind, reason_component, reason_block, reason_minimum, reason_maximum, feedback_reason, own_reason, unequal_at, unequal_reason, unequal_reasons_by, unequal_reasons, temporal_reasons, reasons, scope, pattern}
use Rattle.rules.specs.Projection.{compressed, marks, retained, first_edges, next, chain, chain_from, before_last, last_of, flips, inverts_at, ProjectedEdge, projected_by, projected_along, projected, starts_from, path_starts, path_ids, projected_path}
use Rattle.rules.specs.Refusals.{Checked, answer_of, need_of, scene_limits, Output, output, first_refusal, after_from, after, component_lengths, connection_lengths, out_of_range, used_earlier, component_tests, end_missing, connection_tests, size_tests, scene_tests, check_scene, refusal_number, refusal_place}
use Rattle.rules.specs.Describe.{TimedEdge, timed_edge, timed_edges, TemporalDevice, temporal_device, device_components, devices, Evidence, evidence_kind, evidence_source, evidence_sink, evidence_component, evidence_block, evidence, describe_outputs, check_describe, describe_lists, describe_checked, description as description_of, description_numbers}
use Rattle.rules.specs.Assess.{assess_outputs, check_assess, assess_lists, assess_checked, assessment, scene_answer, scene_numbers}
use Rattle.rules.specs.Analyze.{AnalyzeLists, analysis_checked, analysis, analysis_numbers}
use Rattle.rules.specs.Report.{component_fields, connection_fields}
use Rattle.rules.specs.Pulses.{EventLists, event_lists as events, event_at, events_of, is_pulse, pulse_of, pulses_in, event_components, pulses}
use Rattle.rules.specs.Verdicts.{ContractLists, contract_lists as contracts, contract_at, contracts_of, intent_of, design_intent, classify, Finding, finding_of, findings, finding_component, finding_polarity, finding_unit, finding_start_tick, finding_end_tick, finding_width, finding_steady, finding_baseline, finding_start, finding_end, finding_verdict, finding_rationale, tally, tallies}
use Rattle.rules.specs.Traces.{TraceLimits, trace_limits, TraceLists, trace_lists as traced, event_count, contract_count, event_lengths, contract_lengths, contract_out_of_range, not_above_before, contract_tests, trace_tests, check_trace, trace_findings, transient_answer, transient_numbers, transient_tallies}
use Rattle.rules.specs.Recording.{TransientRecord, record_false, record_tests, check_recording, add_tallies, grown, findings_after, record_after}

-- The answer of the call that writes lists 3 to 8: its numbers, then these lists, an entry of several fields as a row of numbers
pub record Report : Type 0 where
  pub numbers : List ℕ
  pub reasons : List (List ℕ)
  pub feedback : List ℕ
  pub marks : List ℕ
  pub projected : List ProjectedEdge
  pub starts : List ℕ
  pub labels : List (List ℕ)

-- The answer of the call that writes lists 0 to 2, with these
pub record Described : Type 0 where
  pub numbers : List ℕ
  pub edges : List (List ℕ)
  pub devices : List TemporalDevice
  pub evidence : List (List ℕ)

-- A trace's answer: its numbers, the tallies, and list 9
pub record Judged : Type 0 where
  pub numbers : List ℕ
  pub tallies : List ℕ
  pub findings : List (List ℕ)

-- What is asked of the rules
pub data Question : Type 0 where
  build : List Component → List Connection → Question
  described : List Component → List Connection → Question
  -- a scene whose components all have these two delays
  ranged : (low high : ℕ) → List Component → List Connection → Question
  -- with limits of 3 components and 2 connections, and list 8 alone, the last of whose fields has so many entries
  checks : (room : ℕ) → ComponentLists → ConnectionLists → Question
  -- the numbers of the scene call's two parts, then its own, where lists 0 to 8 have these lengths
  fits : (rooms : List ℕ) → ComponentLists → ConnectionLists → Question
  -- lists 0 to 8 for so many components and connections: number, need, and the length it was given, 10 to 18
  needs : (n m : ℕ) → Question
  -- the sizes that a scene, a trace and a record may have
  sizes : Question
  trace : TraceLists → Question
  -- the trace call by other limits, with these lengths of list 9's fields
  tests : TraceLimits → (room : List ℕ) → TraceLists → Question
  -- the lengths that are compared: those of the events, then those of the contracts
  compared : TraceLists → Question
  -- with a list 9 of so many entries
  recording : (room : ℕ) → TransientRecord → TraceLists → Question
  -- a field of list 9 after recording
  appended : Checked → TransientRecord → (old new : List ℕ) → Question
  -- a lent list of numbers after a call that writes from a place on
  stored : Checked → (start : ℕ) → (old new : List ℕ) → Question
  -- the path of an edge number, by list 7 and two fields of list 6
  path : (paths starts lengths : List ℕ) → ℕ → Question

pub data Answer : Type 0 where
  report : Report → Answer
  description : Described → Answer
  ranges : (labels reasons : List (List ℕ)) → List ProjectedEdge → (edges : List (List ℕ)) → Answer
  judged : Judged → Answer
  -- 0 and 0 if accepted
  checked : (number place : ℕ) → Answer
  record-after : (numbers : List ℕ) → TransientRecord → Answer
  holds : List ℕ → Answer
  table : List (List ℕ) → Answer

abbrev pub reason_row : Reason → List ℕ
reason_row r = reason_kind r ∷ reason_component r ∷ reason_block r ∷ reason_minimum r ∷ reason_maximum r ∷ []

abbrev pub label_row : Label → List ℕ
label_row l = settled_flag l ∷ low_sum l ∷ high_sum l ∷ []

abbrev pub edge_row : TimedEdge → List ℕ
edge_row e = e.source ∷ e.sink ∷ e.minimum ∷ e.maximum ∷ e.behavior ∷ []

abbrev pub evidence_row : Evidence → List ℕ
evidence_row e = evidence_kind e ∷ evidence_source e ∷ evidence_sink e ∷ evidence_component e ∷ evidence_block e ∷ []

abbrev pub finding_row : Finding → List ℕ
finding_row f =
    finding_component f ∷ finding_polarity f ∷ finding_unit f ∷ finding_start_tick f ∷ finding_end_tick f ∷ finding_width f ∷ finding_steady f ∷ finding_baseline f
    ∷ finding_start f ∷ finding_end f ∷ finding_verdict f ∷ finding_rationale f ∷ []

abbrev pub output_row : Output → List ℕ
output_row o = o.number ∷ o.need ∷ o.lengths

-- the scene, read from the lists by which it is lent
abbrev pub lent : List Component → List Connection → Scene
lent cs ns = scene_of (component_fields cs) (connection_fields ns)

-- the lengths of the number lists of an output list, no longer than needed
abbrev pub needed : List Component → List Connection → (list fields : ℕ) → List ℕ
needed cs ns k fields = replicate fields (need_of (length cs) (length ns) k)

-- lists 0 to 8 of zeros, each as long as is said
abbrev pub blank : List ℕ → AnalyzeLists
blank rooms =
    let of : ℕ → List ℕ = λ k. replicate (get_or rooms k 0) 0 in
    let at : List ℤ = replicate (get_or rooms 1 0) (pos 0) in
    record {
      description = describe_lists (of 0) (of 0) (of 0) (of 0) (of 0) (of 1) at at at (of 1) (of 1) (of 2) (of 2) (of 2) (of 2) (of 2);
      assessment = assess_lists (of 3) (of 3) (of 3) (of 3) (of 3) (of 4) (of 5) (of 6) (of 6) (of 6) (of 6) (of 6) (of 6) (of 6) (of 7) (of 8) (of 8) (of 8);
    }

abbrev pub refusal : Checked → Answer
refusal c = checked (refusal_number c) (refusal_place c)

abbrev pub answer : Question → Answer
answer (build components connections) =
    let s = lent components connections in
    let of : ℕ → ℕ → List ℕ = needed components connections in
    let c = check_assess scene_limits (component_fields components) (connection_fields connections) (of 3 5) (of 4 1) (of 5 1) (of 6 7) (of 7 1) (of 8 3) in
    let cs = s.components in
    let es = edges s in
    report (record {
      numbers = scene_numbers (scene_answer c s);
      reasons = map reason_row (reasons cs es);
      feedback = feedback cs es;
      marks = marks cs es;
      projected = projected cs es;
      starts = path_starts (projected cs es);
      labels = map label_row (labels cs es);
    })
answer (described components connections) =
    let s = lent components connections in
    let of : ℕ → ℕ → List ℕ = needed components connections in
    let c = check_describe scene_limits (component_fields components) (connection_fields connections) (of 0 5) (of 1 6) (of 2 5) in
    let cs = s.components in
    let ns = s.connections in
    description (record {
      numbers = description_numbers (description_of c s);
      edges = map edge_row (timed_edges cs ns);
      devices = devices cs;
      evidence = map evidence_row (evidence cs ns);
    })
answer (ranged a b cs ns) =
    let es = edges_of ns in
    let low : ℕ → ℕ = λ v. a in
    let high : ℕ → ℕ = λ v. b in
    ranges (map (λ c. label_row (label es low high c.id)) cs) (map reason_row (unequal_reasons_by es low high (rising_ids cs)))
    (map (λ e. projected_by low high (inverts_at cs) e (chain_from cs es e)) (first_edges cs es)) (map (λ n. edge_row (timed_edge low high cs n)) ns)
answer (checks room l m) = refusal (check_scene (record { components = 3; connections = 2 }) l m (output 8 (length l.ids) (9 ∷ 9 ∷ room ∷ []) ∷ []))
answer (fits rooms l m) =
    let lists = blank rooms in
    let s = scene_of l m in
    let d = describe_checked scene_limits l m lists.description in
    let a = assess_checked scene_limits l m lists.assessment in
    let c = analysis_checked scene_limits l m lists in
    table (description_numbers (description_of d s) ∷ scene_numbers (scene_answer a s) ∷ analysis_numbers (answer_of c (analysis s)) ∷ [])
answer (needs n m) =
    table (map output_row (describe_outputs n m (10 ∷ []) (11 ∷ []) (12 ∷ []) ++ assess_outputs n m (13 ∷ []) (14 ∷ []) (15 ∷ []) (16 ∷ []) (17 ∷ []) (18 ∷ [])))
answer sizes =
    holds (scene_limits.components ∷ scene_limits.connections ∷ trace_limits.events ∷ trace_limits.contracts ∷ trace_limits.traces ∷ trace_limits.findings_each ∷ [])
answer (trace t) =
    let c = check_trace trace_limits t (replicate 12 (event_count t)) in
    let a = transient_answer c t in
    judged (record { numbers = transient_numbers a; tallies = transient_tallies a; findings = after c [] (map finding_row (trace_findings t)) })
answer (tests limits room t) = refusal (check_trace limits t room)
answer (compared t) = holds (event_lengths t.events ++ contract_lengths t.contracts)
answer (recording room r t) =
    let c = check_recording trace_limits r t (room ∷ []) in
    record-after (transient_numbers (transient_answer c t)) (record_after c r t)
answer (appended found r old new) = holds (findings_after found r old new)
answer (stored found start old new) = holds (after_from found start old new)
answer (path paths starts lengths k) = holds (projected_path paths starts lengths k)

-- a name under which all these definitions unfold; its value does not matter
unfoldable pub computes : ℕ
unfolding any keep count from indices insert rising once sum written_from saturating_add kind_row delay_by component_delay is_device in_count out_count reach settled strongly_connected
    component_at connection_at components_of connections_of edges_of rising_ids row_of delay_of by_id row_at delay_at no_incoming settled_sources paths_within paths_to delay_sum extreme extreme_sum label labels
    in_feedback feedback feedback_reason own_reason unequal_at unequal_reason unequal_reasons_by unequal_reasons temporal_reasons reasons scope pattern
    compressed marks retained first_edges next chain chain_from before_last last_of flips inverts_at projected_by projected_along projected starts_from path_ids projected_path
    first_refusal component_lengths connection_lengths out_of_range used_earlier component_tests end_missing connection_tests size_tests scene_tests check_scene
    timed_edge timed_edges temporal_device device_components devices evidence check_describe check_assess assessment
    event_at events_of is_pulse pulse_of pulses_in event_components pulses contract_at contracts_of intent_of design_intent classify finding_of findings tally tallies
    event_count contract_count event_lengths contract_lengths contract_out_of_range not_above_before contract_tests trace_tests check_trace trace_findings
    record_false record_tests check_recording add_tallies grown flat_map
computes = 0

-- Short ways to write a scene

abbrev pub block : ℕ → ℕ → ℕ → ℕ → Component
block i k d locked = record { id = i; kind = k; delay = d; locked = locked; x = pos 0; y = pos 0; z = pos 0 }

abbrev pub lever : ℕ → Component
lever i = block i 3 256 0

abbrev pub lamp : ℕ → Component
lamp i = block i 6 256 0

abbrev pub wire : ℕ → Component
wire i = block i 8 256 0

abbrev pub torch : ℕ → Component
torch i = block i 9 256 0

abbrev pub repeater : ℕ → ℕ → Component
repeater i d = block i 10 d 0

-- source, sink, transfer
abbrev pub link : ℕ → ℕ → ℕ → Connection
link a b t = record { source = a; sink = b; transfer = t }

infix 90 ◌to◌
abbrev pub ◌to◌ : ℕ → ℕ → Connection
a to b = link a b 1

abbrev pub support : ℕ → ℕ → Connection
support a b = link a b 6

-- components without delays or locks, in one place
abbrev pub plain : List ℕ → List ℕ → ComponentLists
plain ids kinds =
    let at : List ℤ = replicate (length ids) (pos 0) in
    record { ids = ids; kinds = kinds; delays = replicate (length ids) 256; locked = replicate (length ids) 0; xs = at; ys = at; zs = at }

-- so many edges from 1 to 1
abbrev pub selves : ℕ → ConnectionLists
selves n = joined (replicate n 1) (replicate n 1) (replicate n 0)

-- Short ways to write its answer

-- scope, pattern, reasons, feedback, retained, compressed, projected, path ids
abbrev pub assessed : ℕ → ℕ → ℕ → ℕ → ℕ → ℕ → ℕ → ℕ → List ℕ
assessed scope pattern reasons feedback retained compressed projected ids =
    0 ∷ 0 ∷ scope ∷ pattern ∷ 100 ∷ reasons ∷ feedback ∷ retained ∷ compressed ∷ projected ∷ ids ∷ []

abbrev pub unequal : ℕ → ℕ → ℕ → List ℕ
unequal v low high = 0 ∷ v ∷ 0 ∷ low ∷ high ∷ []

abbrev pub loop : List ℕ
loop = 1 ∷ 0 ∷ 0 ∷ 0 ∷ 0 ∷ []

abbrev pub stateful : ℕ → ℕ → List ℕ
stateful v block = 2 ∷ v ∷ block ∷ 0 ∷ 0 ∷ []

abbrev pub locked_at : ℕ → List ℕ
locked_at v = 3 ∷ v ∷ 0 ∷ 0 ∷ 0 ∷ []

abbrev pub between : ℕ → ℕ → List ℕ
between low high = 1 ∷ low ∷ high ∷ []

abbrev pub unsettled : List ℕ
unsettled = 0 ∷ 0 ∷ 0 ∷ []

abbrev pub ranging : ℕ → ℕ → ℕ → ℕ → List ℕ → ProjectedEdge
ranging a b low high p = record { source = a; sink = b; inverted = 0; minimum = low; maximum = high; path = p }

abbrev pub straight : ℕ → ℕ → ℕ → List ℕ → ProjectedEdge
straight a b d p = ranging a b d d p

abbrev pub inverting : ℕ → ℕ → ℕ → List ℕ → ProjectedEdge
inverting a b d p = record { source = a; sink = b; inverted = 1; minimum = d; maximum = d; path = p }

-- at 0, 0, 0
abbrev pub device : (component semantics delay : ℕ) → TemporalDevice
device v s d = record { component = v; x = pos 0; y = pos 0; z = pos 0; semantics = s; minimum_delay = d }

-- Short ways to write a trace

abbrev pub none : ContractLists
none = contracts [] [] [] [] [] [] []

-- events of component 7 at some ticks
abbrev pub sevens : (ticks powered : List ℕ) → EventLists
sevens ticks powered = events ticks (replicate (length ticks) 7) powered

abbrev pub three : List ℕ → EventLists
three powered = sevens (1 ∷ 2 ∷ 3 ∷ []) powered

-- off, on, off of component 7 at three ticks
abbrev pub pulse_at : ℕ → ℕ → ℕ → ContractLists → Question
pulse_at a b c cs = trace (traced 0 (sevens (a ∷ b ∷ c ∷ []) (0 ∷ 1 ∷ 0 ∷ [])) cs)

abbrev pub peak : ContractLists → Question
peak cs = pulse_at 10 12 14 cs

-- on 10, off 12, on 14
abbrev pub dip : ContractLists → Question
dip cs = trace (traced 0 (sevens (10 ∷ 12 ∷ 14 ∷ []) (1 ∷ 0 ∷ 1 ∷ [])) cs)

-- one contract for component 7; the fields that the intent does not use are out of range
abbrev pub wanted : (intent polarity unit smallest largest : ℕ) → ContractLists
wanted i o u s l = contracts (7 ∷ []) (i ∷ []) (9 ∷ []) (o ∷ []) (u ∷ []) (s ∷ []) (l ∷ [])

abbrev pub intentional : ℕ → ℕ → ContractLists
intentional low high = wanted 2 0 0 low high

abbrev pub stable : ℕ → ContractLists
stable level = contracts (7 ∷ []) (1 ∷ []) (level ∷ []) (9 ∷ []) (9 ∷ []) (9 ∷ []) (9 ∷ [])

-- two contracts for component 7, which 12 refuses, the first with these codes
abbrev pub doubled : (intent polarity unit : ℕ) → ContractLists
doubled i o u = contracts (7 ∷ 7 ∷ []) (i ∷ 0 ∷ []) (9 ∷ 9 ∷ []) (o ∷ 9 ∷ []) (u ∷ 9 ∷ []) (9 ∷ 9 ∷ []) (9 ∷ 9 ∷ [])

-- one pulse of component 7 from 12 to 14, width 2, with so many contracts given
abbrev pub pulse2 : (polarity given verdict rationale : ℕ) → Answer
pulse2 polarity given verdict rationale =
    judged (record {
      numbers = 0 ∷ 0 ∷ 1 ∷ given ∷ [];
      tallies = replicate verdict 0 ++ (1 ∷ replicate (4 - verdict) 0);
      findings = (7 ∷ polarity ∷ 0 ∷ 12 ∷ 14 ∷ 2 ∷ polarity ∷ 0 ∷ 1 ∷ 2 ∷ verdict ∷ rationale ∷ []) ∷ [];
    })

abbrev pub no_pulse : Answer
no_pulse = judged (record { numbers = replicate 4 0; tallies = replicate 5 0; findings = [] })

abbrev pub high2 : ℕ → ℕ → ℕ → Answer
high2 given verdict rationale = pulse2 0 given verdict rationale

abbrev pub low2 : ℕ → ℕ → ℕ → Answer
low2 given verdict rationale = pulse2 1 given verdict rationale

-- limits of 3 events and 2 contracts
abbrev pub few : TraceLimits
few = record { events = 3; contracts = 2; traces = 64; findings_each = 4096 }

-- three events, as many as list 9 has entries, with some contracts
abbrev pub tested : ContractLists → Question
tested cs = tests few (3 ∷ []) (traced 1 (three (0 ∷ 1 ∷ 0 ∷ [])) cs)

abbrev pub held : ℕ → ℕ → List ℕ → TransientRecord
held traces findings tallies = record { traces = traces; findings = findings; tallies = tallies }

-- tallies of so many findings, all PulseObserved
abbrev pub observed : ℕ → List ℕ
observed n = n ∷ replicate 4 0

-- contracts for components with an intent each, whose other fields are out of range
abbrev pub unread : (components intents : List ℕ) → ContractLists
unread components intents =
    let other : List ℕ = replicate (length components) 9 in
    contracts components intents other other other other other

-- a trace of one event with such contracts
abbrev pub contracted : ℕ → List ℕ → List ℕ → TraceLists
contracted unit components intents = traced unit (sevens (1 ∷ []) (1 ∷ [])) (unread components intents)

-- the record stays
abbrev pub refused : TransientRecord → ℕ → ℕ → Answer
refused r number place = record-after (number ∷ place ∷ 0 ∷ 0 ∷ []) r
