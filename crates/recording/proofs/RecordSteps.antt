-- The recording of an accepted trace: the record grows. Assumes nothing.
use mathlib.Core.List.{List, [], ◌∷◌}
use mathlib.Core.Path.{◌≡◌, refl, ap, ◌∙◌}
use Prim.Native.Nat.{ℕ, zero, suc, ◌+◌, ◌<◌, ◌≤◌, ◌^◌}
use native.Mathlib.Omega.{arith}
use lib.ListN.{length, get_or}
use Rattle.std.specs.Prelude.{Ok, Err}
use Rattle.rules.specs.Lists.{sum}
use Rattle.rules.specs.Refusals.{Checked, accepted}
use Rattle.rules.specs.Verdicts.{tallies, FindingLists, finding_lengths}
use Rattle.rules.specs.Traces.{trace_limits, TraceLists, trace_findings, transient_answer, AssessedBy}
use Rattle.rules.specs.Recording.{TransientRecord, check_recording, add_tallies, grown, RecordCall}
use Rattle.rules.specs.declared.transient.TransientAssessment.{TransientAssessment}
use Rattle.rules.proofs.TraceAcceptance.{AcceptedRecording, checked→recording}
use Rattle.laws.proofs.TraceRoom.{findings-fit, tallies-sum}
use Rattle.recording.specs.Held.{Addable}

-- an entry is no more than the sum
entry-small : (l : List ℕ) (k : ℕ) → get_or l k 0 ≤ sum l
unfolding sum
entry-small [] k = omega arith
entry-small (x ∷ l) zero = omega arith
entry-small (x ∷ l) (suc k) = omega (arith, entry-small l k)

module _ (r : TransientRecord) (t : TraceLists) (old : FindingLists) where
  abbrev checked : Checked
  checked = check_recording trace_limits r t (finding_lengths old)

  -- An accepted trace
  module _ {new : FindingLists} {a : TransientAssessment} (call : AssessedBy checked r.findings t old new (Ok a)) where
    was-accepted : checked ≡ accepted
    was-accepted = go checked call.assessed
      where
        go : (v : Checked) → Ok a ≡ transient_answer v t → v ≡ accepted
        go (Ok u) e = refl
        go (Err n) e = cc

    found : AcceptedRecording trace_limits r t (finding_lengths old)
    found = checked→recording trace_limits r t (finding_lengths old) was-accepted

    assessed-by : Ok a ≡ transient_answer accepted t
    assessed-by = call.assessed ∙ ap (λ v. transient_answer v t) was-accepted

    counted : a.findings ≡ length (trace_findings t)
    counted = let e = assessed-by in cc

    tallied : a.tallies ≡ tallies (trace_findings t)
    tallied = let e = assessed-by in cc

    pub traces-few : r.traces < 64
    traces-few = found.traces_few

    pub findings-few : r.findings + a.findings < 2 ^ 64
    findings-few = omega (arith, found.record_true.findings_few, found.traces_few, counted, findings-fit t, found.trace_accepted.events_few)

    pub sums-fit : Addable r.tallies a.tallies
    sums-fit k h =
        omega (arith, entry-small r.tallies k, found.record_true.tallies_counted, entry-small a.tallies k, ap sum tallied, tallies-sum (trace_findings t), counted, findings-few)

    pub trace-recorded : {then : TransientRecord} → then ≡ record { traces = suc r.traces; findings = r.findings + a.findings; tallies = add_tallies r.tallies a.tallies }
        → RecordCall trace_limits r t old new (0 ∷ 0 ∷ a.findings ∷ a.contracts_applied ∷ []) then
    unfolding grown
    trace-recorded {then} g = record {
      numbered = call.numbered;
      recorded = rw was-accepted (g ∙ rw (counted, tallied));
      listed = call.listed;
    }
