-- After an accepted call that writes lists 3 to 8, the lists give the scene's report. Assumes nothing.
use Rattle.std.specs.Prelude.{Result, Ok}
use mathlib.Core.List.{List, map, flat_map}
use mathlib.Core.Path.{◌≡◌, refl, sym, ap, ◌∙◌}
use Prim.Native.Nat.{ℕ, ◌≤◌, ◌<◌}
use native.Mathlib.Omega.{arith}
use lib.ListN.{length, get_or, take, length-map}
use Rattle.rules.specs.Lists.{indices, rows, written}
use Rattle.rules.specs.Graph.{Edge}
use Rattle.rules.specs.Scene.{Component, Scene, id_of, delay_at, edges}
use Rattle.rules.specs.Labels.{Label, unsettled, between, label, labels, settled_flag, low_sum, high_sum}
use Rattle.rules.specs.Reasons.{Reason, unequal_reconvergent_delay, feedback_loop, stateful_or_mechanical_device, locked_repeater, reason_kind, reason_component, reason_minimum, reason_maximum, reasons, feedback, pattern}
use Rattle.rules.specs.Projection.{ProjectedEdge, projected}
use Rattle.rules.specs.Report.{reason_line, projected_lines, label_lines, pattern_text, report}
use Rattle.rules.specs.Assess.{AssessLists, stored_edge, AssessedBy, assessment}
use Rattle.rules.specs.declared.answers.Assessment.{Assessment}
use Rattle.rules.specs.Refusals.{accepted}
use Rattle.rules.specs.declared.answers.Refusal.{Refusal}
use Rattle.rules.proofs.Lists.{flat-map}
use Rattle.rules.proofs.Indices.{map_at}
use Rattle.rules.proofs.Written.{written-front, written-length}
use Rattle.laws.proofs.StoredEdges.{stored_edges, field_back, stored_back}
use Rattle.laws.proofs.Room.{labels-fit}
use Rattle.laws.proofs.CallEntries.{assessed-same}
use Rattle.text.specs.ReportLists.{feedback_of, reason_of, reason_row, projected_row, label_of, label_row, printed_lists, report_by, ReportWithin}
use Rattle.text.proofs.PutSteps.{rows_are}

-- An entry read back

reason-back : (ids : List ℕ) (r : Reason) → reason_line ids (reason_of (reason_kind r) (reason_component r) (reason_minimum r) (reason_maximum r)) ≡ reason_line ids r
unfolding reason_line reason_of
reason-back ids (unequal_reconvergent_delay v low high) = refl
reason-back ids feedback_loop = refl
reason-back ids (stateful_or_mechanical_device v block) = refl
reason-back ids (locked_repeater v) = refl

label-back : (l : Label) → label_of (settled_flag l) (low_sum l) (high_sum l) ≡ l
unfolding label_of
label-back unsettled = refl
label-back (between low high) = refl

-- so many entries were written
written-within : {A : Type 0} (f : A → ℕ) (l old : List ℕ) (xs : List A) → l ≡ written old (map f xs) → length xs ≤ length l
written-within f l old xs e = omega (arith, ap length e, written-length old (map f xs), length-map xs f)

-- The parts of the report

module _ (s : Scene) (old new : AssessLists) {answer : Result Assessment Refusal} (call : AssessedBy accepted s old new answer) where
  abbrev cs : List Component
  cs = s.components

  abbrev es : List Edge
  es = edges s

  abbrev rs : List Reason
  rs = reasons s.components (edges s)

  abbrev ps : List ProjectedEdge
  ps = projected s.components (edges s)

  abbrev ls : List Label
  ls = labels s.components (edges s)

  abbrev label_at : ℕ → Label
  label_at = label (edges s) (delay_at s.components) (delay_at s.components)

  feedback-back : take (length (feedback cs es)) new.feedback_ids ≡ feedback cs es
  feedback-back = rw call.feedback_ids (written-front old.feedback_ids (feedback cs es) (length (feedback cs es)) refl)

  reasons-back : (ids : List ℕ)
      → rows (reason_row ids new.reason_kinds new.reason_components new.reason_minimums new.reason_maximums) (length rs) ≡ flat_map (reason_line ids) rs
  unfolding reason_row
  reasons-back ids = rows_are (reason_row ids new.reason_kinds new.reason_components new.reason_minimums new.reason_maximums) (reason_line ids) rs feedback_loop back
    where
      back : (k : ℕ) → k < length rs → reason_row ids new.reason_kinds new.reason_components new.reason_minimums new.reason_maximums k ≡ reason_line ids (get_or rs k feedback_loop)
      back k h =
          let a = field_back reason_kind new.reason_kinds old.reason_kinds rs feedback_loop 0 k call.reason_kinds h in
          let b = field_back reason_component new.reason_components old.reason_components rs feedback_loop 0 k call.reason_components h in
          let c = field_back reason_minimum new.reason_minimums old.reason_minimums rs feedback_loop 0 k call.reason_minimums h in
          let d = field_back reason_maximum new.reason_maximums old.reason_maximums rs feedback_loop 0 k call.reason_maximums h in
          rw (a, b, c, d) (reason-back ids (get_or rs k feedback_loop))

  edges-back : rows (projected_row new) (length ps) ≡ flat_map projected_lines ps
  unfolding projected_row stored_edges
  edges-back = sym (flat-map projected_lines (stored_edge new) (indices (length ps))) ∙ ap (flat_map projected_lines) (stored_back s old new call)

  labels-back : rows (label_row (map id_of cs) new.label_settled new.label_lows new.label_highs) (length (map id_of cs)) ≡ flat_map (label_lines label_at) (map id_of cs)
  unfolding label_row label_lines labels
  labels-back = rows_are (label_row (map id_of cs) new.label_settled new.label_lows new.label_highs) (label_lines label_at) (map id_of cs) 0 back
    where
      back : (k : ℕ) → k < length (map id_of cs) → label_row (map id_of cs) new.label_settled new.label_lows new.label_highs k ≡ label_lines label_at (get_or (map id_of cs) k 0)
      back k h =
          let i : k < length ls = omega (arith, length-map (map id_of cs) label_at) in
          let a = field_back settled_flag new.label_settled old.label_settled ls unsettled 0 k call.label_settled i in
          let b = field_back low_sum new.label_lows old.label_lows ls unsettled 0 k call.label_lows i in
          let c = field_back high_sum new.label_highs old.label_highs ls unsettled 0 k call.label_highs i in
          rw (a, b, c, label-back (get_or ls k unsettled), map_at label_at (map id_of cs) k 0 unsettled h)

  by-assessment : report_by (assessment cs es) (map id_of cs) (printed_lists new) ≡ report cs es
  unfolding report_by report assessment projected_row stored_edge
  by-assessment =
      let e : feedback_of (assessment cs es) (printed_lists new) ≡ feedback cs es = feedback-back in
      let p : pattern_text (feedback_of (assessment cs es) (printed_lists new)) (pattern cs es) ≡ pattern_text (feedback cs es) (pattern cs es) = ap (λ f. pattern_text f (pattern cs es)) e in
      rw (p, e, reasons-back (feedback cs es), edges-back, labels-back)

-- The report, and that its entries stand in the lists

module _ {s : Scene} {old new : AssessLists} {a : Assessment} {ids : List ℕ} (call : AssessedBy accepted s old new (Ok a)) (named : map id_of s.components ≡ ids) where
  pub report-by : report_by a ids (printed_lists new) ≡ report s.components (edges s)
  report-by = rw (assessed-same call.answered, ← named) (by-assessment s old new call)

  pub report-shapes : ReportWithin a ids (printed_lists new)
  unfolding assessment
  report-shapes =
      let e = assessed-same call.answered in
      let r = ap (λ a. a.reasons) e in
      let p = ap (λ a. a.projected) e in
      let rs = reasons s.components (edges s) in
      let ps = projected s.components (edges s) in
      let ls = labels s.components (edges s) in
      let n = labels-fit s.components (edges s) in
      let m = ap length named in
      record {
        reasons_within = record {
          kinds_within = omega (arith, r, written-within reason_kind _ _ rs call.reason_kinds);
          components_within = omega (arith, r, written-within reason_component _ _ rs call.reason_components);
          minimums_within = omega (arith, r, written-within reason_minimum _ _ rs call.reason_minimums);
          maximums_within = omega (arith, r, written-within reason_maximum _ _ rs call.reason_maximums);
        };
        feedback_within = omega (arith, ap (λ a. a.feedback) e, ap length call.feedback_ids, written-length old.feedback_ids (feedback s.components (edges s)));
        edges_within = record {
          sources_within = omega (arith, p, written-within (λ p. p.source) _ _ ps call.projected_sources);
          sinks_within = omega (arith, p, written-within (λ p. p.sink) _ _ ps call.projected_sinks);
          inverted_within = omega (arith, p, written-within (λ p. p.inverted) _ _ ps call.projected_inverted);
          minimums_within = omega (arith, p, written-within (λ p. p.minimum) _ _ ps call.projected_minimums);
          maximums_within = omega (arith, p, written-within (λ p. p.maximum) _ _ ps call.projected_maximums);
        };
        labels_within = record {
          settled_within = omega (arith, n, m, length-map s.components id_of, written-within settled_flag _ _ ls call.label_settled);
          lows_within = omega (arith, n, m, length-map s.components id_of, written-within low_sum _ _ ls call.label_lows);
          highs_within = omega (arith, n, m, length-map s.components id_of, written-within high_sum _ _ ls call.label_highs);
        };
      }
