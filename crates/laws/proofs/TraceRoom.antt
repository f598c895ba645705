-- An accepted trace call has room for its findings, and recording a trace keeps a record true. Assumes nothing.
use mathlib.Core.Bool.{true, false}
use mathlib.Core.List.Memᴰ
use mathlib.Core.List.{List, [], ◌∷◌, map, flat_map, Memᴰ}
use mathlib.Core.Path.{◌≡◌, refl, sym, ap, ap₂, ◌∙◌}
use Prim.Native.Nat.{ℕ, ◌+◌, ◌≤◌, ◌<◌}
use native.Mathlib.Omega.{arith}
use native.Mathlib.Nat.{mul-suc}
use lib.Dec.{T, eqb, eqb→eq, eqb_refl}
use lib.ListN.{length, get_or, length-map, length-append}
use Rattle.rules.specs.Lists.{any, keep, count, rising, indices, sum, Distinct}
use Rattle.rules.specs.Codes.{unit_of, verdict_code}
use Rattle.rules.specs.Refusals.{accepted}
use Rattle.rules.specs.Pulses.{Event, Pulse, events_of, pulses_in, pulses, of_component, event_components}
use Rattle.rules.specs.Verdicts.{Finding, finding_of, findings, finding_verdict, tally, tallies, contracts_of}
use Rattle.rules.specs.Traces.{TraceLimits, TraceLists, event_count, check_trace, trace_findings}
use Rattle.rules.specs.Recording.{TransientRecord, record_false, check_recording, add_tallies, grown, record_after}
use Rattle.rules.specs.declared.transient.TraceTimeUnit.{TraceTimeUnit}
use Rattle.rules.specs.declared.transient.TransientVerdict.{TransientVerdict}
use Rattle.rules.proofs.Lists.{any-in, any_out}
use Rattle.rules.proofs.Counts.{count-or, once-distinct, count_none, count_under, count-every}
use Rattle.rules.proofs.Permutations.{keep-length}
use Rattle.rules.proofs.Indices.{from-distinct, below-indices, made-length, by_index}
use Rattle.rules.proofs.TraceAcceptance.{RecordTrue, events-length, checked→trace, checked→recording, true→not-false}
use Rattle.laws.proofs.CallRoom.{Fits}

-- Entries counted by a number that each has: those of several distinct numbers together
module _ {A : Type 0} (number : A → ℕ) (l : List A) where
  -- how many entries have the number
  abbrev pub having : ℕ → ℕ
  having v = count (λ x. eqb (number x) v) l

  having-listed : (vs : List ℕ) → Distinct vs → sum (map having vs) ≡ count (λ x. any (eqb (number x)) vs) l
  unfolding sum any
  having-listed [] d = sym (count_none (λ x. false) l (λ x m t. t))
  having-listed (v ∷ vs) d = ap (λ n. having v + n) (having-listed vs d.1) ∙ count-or (λ x. eqb (number x) v) (λ x. any (eqb (number x)) vs) l apart
    where
      apart : (x : A) → T (eqb (number x) v) → T (any (eqb (number x)) vs) → ⊥
      apart x s t = let r = any_out (eqb (number x)) vs t in d.0 (Memᴰ.cast (sym (eqb→eq (number x) v s) ∙ eqb→eq (number x) r.0 r.2) r.1)

  -- they are at most all
  pub having-most : (vs : List ℕ) → Distinct vs → sum (map having vs) ≤ length l
  having-most vs d = omega (arith, having-listed vs d, count_under (λ x. any (eqb (number x)) vs) (λ x. true) l (λ x m t. tt), count-every l)

  -- and all, if every number is listed
  pub having-all : (vs : List ℕ) → Distinct vs → ((x : A) → Memᴰ (number x) vs) → sum (map having vs) ≡ length l
  having-all vs d h = omega (
    arith,
    having-most vs d,
    having-listed vs d,
    count_under (λ x. true) (λ x. any (eqb (number x)) vs) l (λ x m t. any-in (eqb (number x)) (h x) (eqb_refl (number x))),
    count-every l,
  )

-- the pulses of a row of events are no more than the events
pub pulses-in-fit : (unit : TraceTimeUnit) (es : List Event) → length (pulses_in unit es) ≤ length es
unfolding pulses_in
pulses-in-fit unit [] = omega arith
pulses-in-fit unit (a ∷ []) = omega arith
pulses-in-fit unit (a ∷ b ∷ []) = omega arith
pulses-in-fit unit (a ∷ b ∷ c ∷ es) = grind (arith, pulses-in-fit unit (b ∷ c ∷ es))

module _ (unit : TraceTimeUnit) (es : List Event) where
  abbrev pulses_of : ℕ → List Pulse
  pulses_of v = pulses_in unit (keep (of_component v) es)

  rows_fit : (vs : List ℕ) → length (flat_map pulses_of vs) ≤ sum (map (having (λ e. e.component) es) vs)
  unfolding flat_map sum
  rows_fit [] = omega arith
  rows_fit (v ∷ vs) = omega (
    arith,
    length-append (pulses_of v) (flat_map pulses_of vs),
    pulses-in-fit unit (keep (of_component v) es),
    keep-length (of_component v) es,
    rows_fit vs,
  )

  -- a trace has no more pulses than events
  pub pulses-fit : length (pulses unit es) ≤ length es
  unfolding pulses event_components
  pulses-fit = omega (arith, rows_fit (event_components es), having-most (λ e. e.component) es (event_components es) (once-distinct (rising (map (λ e. e.component) es))))

-- the findings of a trace are no more than its events
pub findings-fit : (t : TraceLists) → length (trace_findings t) ≤ event_count t
unfolding trace_findings findings event_count
findings-fit t = omega (
  arith,
  length-map (pulses (unit_of t.unit) (events_of t.events)) (finding_of (contracts_of t.contracts)),
  pulses-fit (unit_of t.unit) (events_of t.events),
  events-length t.events,
)

-- an accepted trace call has room for its findings
pub trace-room : (limits : TraceLimits) (t : TraceLists) (lengths : List ℕ) → check_trace limits t lengths ≡ accepted → Fits (length (trace_findings t)) lengths
trace-room limits t lengths e n k = omega (arith, findings-fit t, (checked→trace limits t lengths e).lists_long n k)

-- an accepted recording has room for its findings after those held
pub recording-room : (limits : TraceLimits) (r : TransientRecord) (t : TraceLists) (lengths : List ℕ) → check_recording limits r t lengths ≡ accepted
    → Fits (r.findings + length (trace_findings t)) lengths
recording-room limits r t lengths e n k = omega (arith, findings-fit t, (checked→recording limits r t lengths e).trace_accepted.lists_long n k)

-- there are five verdicts
pub verdict-below : (v : TransientVerdict) → verdict_code v < 5
verdict-below v = grind arith

-- every finding is tallied once
pub tallies-sum : (fs : List Finding) → sum (tallies fs) ≡ length fs
unfolding tallies tally indices
tallies-sum fs = having-all finding_verdict fs (indices 5) (from-distinct 0 5) (λ f. below-indices 5 (verdict-below f.judgement.verdict))

sum_both : (f g : ℕ → ℕ) (l : List ℕ) → sum (map (λ k. f k + g k) l) ≡ sum (map f l) + sum (map g l)
unfolding sum
sum_both f g [] = refl
sum_both f g (x ∷ l) = omega (arith, sum_both f g l)

sum-five : (a : List ℕ) → length a ≡ 5 → sum (map (λ k. get_or a k 0) (indices 5)) ≡ sum a
sum-five a e = ap (λ n. sum (map (λ k. get_or a k 0) (indices n))) (sym e) ∙ ap sum (sym (by_index a 0))

-- two rows of tallies, added, sum to both sums
pub added-sum : (a b : List ℕ) → length a ≡ 5 → length b ≡ 5 → sum (add_tallies a b) ≡ sum a + sum b
unfolding add_tallies
added-sum a b p q = sum_both (λ k. get_or a k 0) (λ k. get_or b k 0) (indices 5) ∙ ap₂ (λ m n. m + n) (sum-five a p) (sum-five b q)

pub tallies-length : (fs : List Finding) → length (tallies fs) ≡ 5
unfolding tallies
tallies-length fs = made-length (tally fs) 5

-- recording keeps the five tallies
pub record-keeps-tallies : (r : TransientRecord) (t : TraceLists) → length (record_after accepted r t).tallies ≡ 5
unfolding grown add_tallies
record-keeps-tallies r t = made-length (λ k. get_or r.tallies k 0 + get_or (tallies (trace_findings t)) k 0) 5

module _ (limits : TraceLimits) (r : TransientRecord) (t : TraceLists) (lengths : List ℕ) (accepts : check_recording limits r t lengths ≡ accepted) (five : length r.tallies ≡ 5) (each : limits.events ≤ limits.findings_each) where
  -- the tallies of the record after an accepted recording sum to its findings, and these are no more than its traces can have
  pub record-after-true : RecordTrue limits (record_after accepted r t)
  unfolding grown
  record-after-true =
      let a = checked→recording limits r t lengths accepts in
      let fs = trace_findings t in
      record {
        tallies_counted = added-sum r.tallies (tallies fs) five (tallies-length fs) ∙ ap₂ (λ m n. m + n) a.record_true.tallies_counted (tallies-sum fs);
        findings_few = rw mul-suc (omega (arith, findings-fit t));
      }

  -- so a recording that is accepted leaves a record that is not false; that it was not false before, acceptance says
  pub record-stays-true : T (record_false limits (record_after accepted r t)) → ⊥
  record-stays-true = true→not-false limits (record_after accepted r t) record-after-true
