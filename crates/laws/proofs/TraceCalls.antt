-- What the contracts of the trace call and of recording promise, without their words: a refusal changes nothing, the tallies sum to the
-- findings, and a record that calls made from a fresh one is never false. Assumes nothing.
use mathlib.Core.List.{List}
use mathlib.Core.Path.{◌≡◌, refl, sym, ap, subst, ◌∙◌}
use Prim.Native.Nat.{ℕ, ◌≤◌}
use native.Mathlib.Omega.{arith}
use lib.Dec.{T}
use lib.ListN.{length, get_or, replicate}
use Rattle.std.specs.Prelude.{Result, Ok, Err}
use Rattle.rules.specs.Lists.{sum}
use Rattle.rules.specs.Refusals.{Checked}
use Rattle.rules.specs.Verdicts.{Finding, FindingLists, finding_lengths, FindingsListed}
use Rattle.rules.specs.Traces.{TraceLimits, trace_limits, TraceLists, check_trace, trace_findings, transient_numbers, transient_tallies, AssessedBy, TraceCall}
use Rattle.rules.specs.Recording.{TransientRecord, record_false, check_recording, record_after, RecordedBy, RecordCall}
use Rattle.rules.specs.declared.answers.Refusal.{Refusal}
use Rattle.rules.specs.declared.transient.TransientAssessment.{TransientAssessment}
use Rattle.rules.proofs.TraceAcceptance.{RecordTrue, true→not-false}
use Rattle.laws.proofs.TraceRoom.{tallies-sum, record-keeps-tallies, record-after-true}

-- The trace call, by what its checks find

untouched : {old new : FindingLists} {fs : List Finding} → FindingsListed (λ a b. a) fs old new → new ≡ old
untouched l = grind arith

unassessed-by : (c : Checked) {start : ℕ} {t : TraceLists} {old new : FindingLists} {answer : Result TransientAssessment Refusal} {r : Refusal} → AssessedBy c start t old new answer → answer ≡ Err r
    → (c ≡ Err r) × (new ≡ old) × (transient_tallies answer ≡ replicate 5 0)
unassessed-by (Ok u) b e = cc
unassessed-by (Err s) b e = (cc, untouched b.listed, b.tallied)

tallied-by : (c : Checked) {start : ℕ} {t : TraceLists} {old new : FindingLists} {answer : Result TransientAssessment Refusal} → AssessedBy c start t old new answer
    → sum (transient_tallies answer) ≡ get_or (transient_numbers answer) 2 0
unfolding sum
tallied-by (Ok u) {t = t} b = ap sum b.tallied ∙ tallies-sum (trace_findings t) ∙ sym (ap (λ l. get_or l 2 0) b.numbered)
tallied-by (Err s) b = ap sum b.tallied ∙ sym (ap (λ l. get_or l 2 0) b.numbered)

module _ (limits : TraceLimits) (t : TraceLists) (old new : FindingLists) (answer : Result TransientAssessment Refusal) (call : TraceCall limits t old new answer) where
  -- a refusal is the one that the checks find; every list is as it was, and nothing is tallied
  pub trace-refused : (r : Refusal) → answer ≡ Err r → (check_trace limits t (finding_lengths old) ≡ Err r) × (new ≡ old) × (transient_tallies answer ≡ replicate 5 0)
  trace-refused r e = unassessed-by (check_trace limits t (finding_lengths old)) call e

  -- the tallies sum to the findings that the answer's numbers tell
  pub trace-tallied : sum (transient_tallies answer) ≡ get_or (transient_numbers answer) 2 0
  trace-tallied = tallied-by (check_trace limits t (finding_lengths old)) call

-- Recording, by what its checks find

unrecorded-by : (c : Checked) {e : Refusal} {r then : TransientRecord} {t : TraceLists} {old new : FindingLists} {numbers : List ℕ} → RecordedBy c r t old new numbers then → c ≡ Err e → (then ≡ r) × (new ≡ old)
unrecorded-by (Ok u) b q = cc
unrecorded-by (Err s) b q = (b.recorded, untouched b.listed)

pub record-refused : (limits : TraceLimits) (r then : TransientRecord) (t : TraceLists) (old new : FindingLists) (numbers : List ℕ) (e : Refusal)
    → RecordCall limits r t old new numbers then → check_recording limits r t (finding_lengths old) ≡ Err e → (then ≡ r) × (new ≡ old)
record-refused limits r then t old new numbers e call q = unrecorded-by (check_recording limits r t (finding_lengths old)) call q

changed-by : (c : Checked) {r then : TransientRecord} {t : TraceLists} {old new : FindingLists} {numbers : List ℕ} → RecordedBy c r t old new numbers then → (get_or numbers 0 0 ≡ 0 → ⊥) → (then ≡ r) × (new ≡ old)
changed-by (Ok u) b h = absurd (h (ap (λ l. get_or l 0 0) b.numbered))
changed-by (Err e) b h = (b.recorded, untouched b.listed)

-- where the first number is a refusal's, the record and every list are as they were
pub record-unchanged : (limits : TraceLimits) (r then : TransientRecord) (t : TraceLists) (old new : FindingLists) (numbers : List ℕ)
    → RecordCall limits r t old new numbers then → (get_or numbers 0 0 ≡ 0 → ⊥) → (then ≡ r) × (new ≡ old)
record-unchanged limits r then t old new numbers call h = changed-by (check_recording limits r t (finding_lengths old)) call h

-- Records that calls made

abbrev pub fresh_record : TransientRecord
fresh_record = record { traces = 0; findings = 0; tallies = replicate 5 0 }

-- a row of calls from a fresh record on, each on the record that the one before left
pub data Recordings (limits : TraceLimits) : TransientRecord → Type 0 where
  fresh : Recordings limits fresh_record
  next : {r then : TransientRecord} → Recordings limits r → (t : TraceLists) (old new : FindingLists) (numbers : List ℕ) → RecordCall limits r t old new numbers then → Recordings limits then

-- a record has five tallies, and is true
record Sound (limits : TraceLimits) (r : TransientRecord) : Type 0 where
  five : length r.tallies ≡ 5
  true_record : RecordTrue limits r

fresh-sound : (limits : TraceLimits) → Sound limits fresh_record
unfolding sum
fresh-sound limits = record { five = refl; true_record = record { tallies_counted = refl; findings_few = omega arith } }

module _ (limits : TraceLimits) (many : limits.events ≤ limits.findings_each) where
  next-sound : (r then : TransientRecord) (t : TraceLists) (old new : FindingLists) (numbers : List ℕ) → Sound limits r → RecordCall limits r t old new numbers then → Sound limits then
  next-sound r then t old new numbers s call = go (check_recording limits r t (finding_lengths old)) refl call.recorded
    where
      go : (c : Checked) → check_recording limits r t (finding_lengths old) ≡ c → then ≡ record_after c r t → Sound limits then
      go (Ok u) e q =
          subst (Sound limits) (sym q) (record { five = record-keeps-tallies r t; true_record = record-after-true limits r t (finding_lengths old) e s.five many })
      go (Err refusal) e q = subst (Sound limits) (sym q) s

  made-sound : {r : TransientRecord} → Recordings limits r → Sound limits r
  made-sound fresh = fresh-sound limits
  made-sound (next {r} {then} before t old new numbers call) = next-sound r then t old new numbers (made-sound before) call

  -- a record that calls made is never false
  pub never-false : {r : TransientRecord} → Recordings limits r → T (record_false limits r) → ⊥
  never-false {r} made = true→not-false limits r (made-sound made).true_record

-- where a trace may have 4,096 events, as the calls have it
pub recordings-true : {r : TransientRecord} → Recordings trace_limits r → T (record_false trace_limits r) → ⊥
recordings-true made = never-false trace_limits (omega arith) made
