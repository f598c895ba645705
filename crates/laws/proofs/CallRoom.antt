-- A call that is accepted has room for every entry that it is to write. Assumes nothing.
use mathlib.Core.List.{List, [], Memᴰ}
use mathlib.Core.Path.{◌≡◌, refl}
use Prim.Native.Nat.{ℕ, ◌≤◌}
use native.Mathlib.Omega.{arith}
use lib.ListN.{length, get_or}
use Rattle.rules.specs.Scene.{Component, Connection, ComponentLists, ConnectionLists, components_of, connections_of, edges_of}
use Rattle.rules.specs.Graph.{Edge}
use Rattle.rules.specs.Labels.{labels}
use Rattle.rules.specs.Reasons.{feedback, reasons}
use Rattle.rules.specs.Projection.{marks, projected, path_ids}
use Rattle.rules.specs.Refusals.{accepted, SceneLimits}
use Rattle.rules.specs.Describe.{timed_edges, devices, evidence, describe_outputs, check_describe}
use Rattle.rules.specs.Assess.{assess_outputs, check_assess}
use Rattle.rules.specs.Analyze.{AnalyzeLists, analysis_lengths, analysis_checked}
use Rattle.rules.proofs.Columns.{components_length, connections-length}
use Rattle.rules.proofs.Acceptance.{accepted→}
use Rattle.laws.proofs.CallsTogether.{calls-accepted}
use Rattle.laws.proofs.Room.{timed-edges-fit, devices-fit, evidence-fit, reasons-fit, feedback-fit, marks-fit, labels-fit, accepted-projected, accepted-path-ids}

-- every field's list is as long as the entries in use
abbrev pub Fits : ℕ → List ℕ → Type 0
Fits used lengths = (n : ℕ) → Memᴰ n lengths → used ≤ n

-- of the call that writes lists 0, 1 and 2
pub record DescribeRoom (cs : List Component) (ns : List Connection) (l0 l1 l2 : List ℕ) : Type 0 where
  pub edges_room : Fits (length (timed_edges cs ns)) l0
  pub devices_room : Fits (length (devices cs)) l1
  pub evidence_room : Fits (length (evidence cs ns)) l2

-- of the call that writes lists 3 to 8
pub record AssessRoom (cs : List Component) (es : List Edge) (l3 l4 l5 l6 l7 l8 : List ℕ) : Type 0 where
  pub reasons_room : Fits (length (reasons cs es)) l3
  pub feedback_room : Fits (length (feedback cs es)) l4
  pub marks_room : Fits (length (marks cs es)) l5
  pub projected_room : Fits (length (projected cs es)) l6
  pub paths_room : Fits (length (path_ids (projected cs es))) l7
  pub labels_room : Fits (length (labels cs es)) l8

module _ (limits : SceneLimits) (l : ComponentLists) (m : ConnectionLists) where
  abbrev cs : List Component
  cs = components_of l

  abbrev ns : List Connection
  ns = connections_of m

  abbrev es : List Edge
  es = edges_of ns

  pub describe-room : (l0 l1 l2 : List ℕ) → check_describe limits l m l0 l1 l2 ≡ accepted → DescribeRoom cs ns l0 l1 l2
  unfolding check_describe
  describe-room l0 l1 l2 e =
      let outputs = describe_outputs (length l.ids) (length m.sources) l0 l1 l2 in
      let long = (accepted→ limits l m outputs e).outputs_long in
      record {
        edges_room = λ n k. omega (arith, timed-edges-fit cs ns, connections-length m, long _ (Memᴰ.head refl) n k);
        devices_room = λ n k. omega (arith, devices-fit cs ns, components_length l, long _ (Memᴰ.tail (Memᴰ.head refl)) n k);
        evidence_room = λ n k. omega (arith, evidence-fit cs ns, connections-length m, components_length l, long _ (Memᴰ.tail (Memᴰ.tail (Memᴰ.head refl))) n k);
      }

  pub assess-room : (l3 l4 l5 l6 l7 l8 : List ℕ) → check_assess limits l m l3 l4 l5 l6 l7 l8 ≡ accepted → AssessRoom cs es l3 l4 l5 l6 l7 l8
  unfolding check_assess
  assess-room l3 l4 l5 l6 l7 l8 e =
      let outputs = assess_outputs (length l.ids) (length m.sources) l3 l4 l5 l6 l7 l8 in
      let long = (accepted→ limits l m outputs e).outputs_long in
      let n-length = components_length l in
      record {
        reasons_room = λ n k. omega (arith, reasons-fit cs es, long _ (Memᴰ.head refl) n k);
        feedback_room = λ n k. omega (arith, feedback-fit cs es, long _ (Memᴰ.tail (Memᴰ.head refl)) n k);
        marks_room = λ n k. omega (arith, marks-fit cs es, long _ (Memᴰ.tail (Memᴰ.tail (Memᴰ.head refl))) n k);
        projected_room = λ n k. omega (arith, accepted-projected limits l m outputs e, long _ (Memᴰ.tail (Memᴰ.tail (Memᴰ.tail (Memᴰ.head refl)))) n k);
        paths_room = λ n k. omega (arith, accepted-path-ids limits l m outputs e, long _ (Memᴰ.tail (Memᴰ.tail (Memᴰ.tail (Memᴰ.tail (Memᴰ.head refl))))) n k);
        labels_room = λ n k. omega (arith, labels-fit cs es, long _ (Memᴰ.tail (Memᴰ.tail (Memᴰ.tail (Memᴰ.tail (Memᴰ.tail (Memᴰ.head refl)))))) n k);
      }

  -- of the call that writes lists 0 to 8: the row of lengths at each list's number
  pub analyze-room : (o : AnalyzeLists) → analysis_checked limits l m o ≡ accepted
      → (let at : ℕ → List ℕ = λ k. get_or (analysis_lengths o) k [] in DescribeRoom cs ns (at 0) (at 1) (at 2) × AssessRoom cs es (at 3) (at 4) (at 5) (at 6) (at 7) (at 8))
  analyze-room o e =
      let parts = calls-accepted limits l m _ _ _ _ _ _ _ _ _ e in
      (describe-room _ _ _ parts.0, assess-room _ _ _ _ _ _ parts.1)
