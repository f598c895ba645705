-- Recording a trace. Assumes nothing: these are definitions.
use Rattle.std.specs.Prelude.{Ok, Err, Bool, not, ◌||◌, List, ◌∷◌, map, ◌≡◌, ℕ, suc, ◌+◌, ◌*◌, eqb, leb, ltb, length, get_or}
use Rattle.rules.specs.Lists.{sum, indices}
use Rattle.rules.specs.Refusals.{Checked, Test, test, first_refusal, after_from}
use Rattle.rules.specs.Verdicts.{Finding, tallies, FindingLists, finding_lengths, FindingsListed}
use Rattle.rules.specs.Traces.{TraceLimits, TraceLists, event_count, trace_tests, trace_findings, transient_answer, transient_numbers}
use Rattle.rules.specs.declared.answers.RefusalKind.TheVariants.{RecordFull, RecordFalse}

-- "traces held, findings held, five tallies"
pub record TransientRecord : Type 0 where
  pub traces : ℕ
  pub findings : ℕ
  pub tallies : List ℕ

-- "A record is false if its tallies don't sum to findings held, or findings exceed 4,096 times traces, both in whole numbers that don't wrap."
unfoldable pub record_false : TraceLimits → TransientRecord → Bool
record_false limits r = not (eqb (sum r.tallies) r.findings) || ltb (limits.findings_each * r.traces) r.findings

-- "Recording puts 15, then 13 first." "the list needs findings held plus events"
unfoldable pub record_tests : TraceLimits → TransientRecord → TraceLists → (lengths : List ℕ) → List Test
record_tests limits r t lengths =
    test (record_false limits r) RecordFalse 0 ∷ test (leb limits.traces r.traces) RecordFull 0 ∷ trace_tests limits t (r.findings + event_count t) lengths

unfoldable pub check_recording : TraceLimits → TransientRecord → TraceLists → (lengths : List ℕ) → Checked
check_recording limits r t lengths = first_refusal (record_tests limits r t lengths)

-- two rows of tallies, added
unfoldable pub add_tallies : List ℕ → List ℕ → List ℕ
add_tallies a b = map (λ k. get_or a k 0 + get_or b k 0) (indices 5)

-- "Traces, findings and tallies grow by this trace's."
unfoldable pub grown : TransientRecord → List Finding → TransientRecord
grown r fs =
    record { traces = suc r.traces; findings = r.findings + length fs; tallies = add_tallies r.tallies (tallies fs) }

-- "Findings are appended to list 9 after those held, which stay": a field of list 9 after the call
module _ {A : Type 0} where
  abbrev pub findings_after : Checked → TransientRecord → List A → List A → List A
  findings_after checked r old new = after_from checked r.findings old new

-- the record after the call: as it was, under a refusal
abbrev pub record_after : Checked → TransientRecord → TraceLists → TransientRecord
record_after (Ok u) r t = grown r (trace_findings t)
record_after (Err e) r t = r

-- given what the checks find: the answer's numbers, of which the findings are those of this trace; the record after the call; and what list 9
-- holds then
pub record RecordedBy (checked : Checked) (r : TransientRecord) (t : TraceLists) (old new : FindingLists) (numbers : List ℕ) (then : TransientRecord) : Type 0 where
  pub numbered : numbers ≡ transient_numbers (transient_answer checked t)
  pub recorded : then ≡ record_after checked r t
  pub listed : FindingsListed (findings_after checked r) (trace_findings t) old new

-- the call
abbrev pub RecordCall : TraceLimits → TransientRecord → TraceLists → (old new : FindingLists) → (numbers : List ℕ) → (then : TransientRecord) → Type 0
RecordCall limits r t old new numbers then = RecordedBy (check_recording limits r t (finding_lengths old)) r t old new numbers then
