-- Every refusal has one of document 01's fifteen numbers. None has 0, with which the numbers of an accepted call begin. Assumes nothing.
use mathlib.Core.List.Memᴰ
use mathlib.Core.List.{List, [], ◌∷◌, ◌++◌, map, flat_map, Memᴰ}
use mathlib.Core.Logic.{⊎_elim}
use mathlib.Core.Path.{◌≡◌, refl, sym, ap, subst}
use Prim.Native.Nat.{ℕ, ◌≤◌}
use native.Mathlib.Omega.{arith}
use Rattle.std.specs.Prelude.{Ok, Err}
use lib.ListN.{get_or}
use Rattle.rules.specs.Codes.{refusal_code}
use Rattle.rules.specs.Scene.{ComponentLists, ConnectionLists}
use Rattle.rules.specs.Refusals.{Checked, accepted, Test, first_refusal, SceneLimits, Output, component_tests, connection_tests, size_tests, scene_tests, check_scene}
use Rattle.rules.specs.Verdicts.{FindingLists, finding_lengths}
use Rattle.rules.specs.Describe.{DescribeLists, check_describe, DescribeCall}
use Rattle.rules.specs.Assess.{AssessLists, check_assess, AssessCall}
use Rattle.rules.specs.Analyze.{AnalyzeLists, AnalyzeCall}
use Rattle.rules.specs.Traces.{TraceLimits, TraceLists, contract_tests, trace_tests, check_trace, TraceCall}
use Rattle.rules.specs.Recording.{TransientRecord, record_tests, check_recording, RecordedBy, RecordCall}
use Rattle.rules.specs.declared.answers.Refusal.{Refusal}
use Rattle.rules.specs.declared.answers.RefusalKind.{RefusalKind}
use Rattle.rules.proofs.Lists.{flat_out}
use Rattle.rules.proofs.FirstRefusal.{refused-holds}
use Rattle.laws.proofs.CallRefusals.{analyze-refused, assess-refused, describe-refused}
use Rattle.laws.proofs.TraceCalls.{trace-refused}

pub kind-number : (k : RefusalKind) → (1 ≤ refusal_code k) × (refusal_code k ≤ 15)
kind-number k = grind arith

-- the numbers of these tests are from a to b
abbrev Within : (a b : ℕ) → RefusalKind → Type 0
Within a b k = (a ≤ refusal_code k) × (refusal_code k ≤ b)

record Numbered (a b : ℕ) (ts : List Test) : Type 0 where
  each : (t : Test) → Memᴰ t ts → Within a b t.kind

module _ {a b : ℕ} where
  numbered-nil : Numbered a b []
  numbered-nil = record { each = λ t m. absurd (Memᴰ.not-nil m) }

  numbered-cons : (t : Test) {ts : List Test} → Within a b t.kind → Numbered a b ts → Numbered a b (t ∷ ts)
  numbered-cons t p h = record { each = λ s m. ⊎_elim (λ e. subst (λ u. Within a b u.kind) (sym e) p) (h.each s) (Memᴰ.cases_cons m) }

  numbered-append : (ts : List Test) {us : List Test} → Numbered a b ts → Numbered a b us → Numbered a b (ts ++ us)
  numbered-append ts g h = record { each = λ s m. ⊎_elim (g.each s) (h.each s) (Memᴰ.append_cases ts m) }

  numbered-flat : {A : Type 0} (f : A → List Test) (l : List A) → ((x : A) → Numbered a b (f x)) → Numbered a b (flat_map f l)
  numbered-flat f l h = record { each = λ s m. let r = flat_out f l m in (h r.0).each s r.2 }

  numbered-map : {A : Type 0} (f : A → Test) (l : List A) → ((x : A) → Within a b (f x).kind) → Numbered a b (map f l)
  numbered-map f l h = record { each = λ s m. let r = Memᴰ.of_map f l m in subst (λ u. Within a b u.kind) r.2 (h r.0) }

  -- and so is that of the first that holds
  refused-number : (ts : List Test) {r : Refusal} → Numbered a b ts → first_refusal ts ≡ Err r → Within a b r.kind
  refused-number ts h e = let f = refused-holds ts e in subst (Within a b) f.3 (h.each f.0 f.1)

ruleset numbering = (numbered-nil, numbered-cons, numbered-append, numbered-flat, numbered-map, arith)

-- a scene is refused by 1 to 8
module _ (limits : SceneLimits) (l : ComponentLists) (m : ConnectionLists) (outputs : List Output) where
  scene-numbered : Numbered 1 8 (scene_tests limits l m outputs)
  unfolding scene_tests size_tests component_tests connection_tests
  scene-numbered = search numbering depth 12

  pub scene-refusals : {r : Refusal} → check_scene limits l m outputs ≡ Err r → (1 ≤ refusal_code r.kind) × (refusal_code r.kind ≤ 8)
  unfolding check_scene
  scene-refusals e = refused-number (scene_tests limits l m outputs) scene-numbered e

-- and so by each scene call
module _ (limits : SceneLimits) (l : ComponentLists) (m : ConnectionLists) where
  pub analyze-number : (old new : AnalyzeLists) (r : Refusal) → AnalyzeCall limits l m old new (Err r) → (1 ≤ refusal_code r.kind) × (refusal_code r.kind ≤ 8)
  analyze-number old new r call = scene-refusals limits l m _ (analyze-refused limits l m old new r call).0

  pub assess-number : (old new : AssessLists) (r : Refusal) → AssessCall limits l m old new (Err r) → (1 ≤ refusal_code r.kind) × (refusal_code r.kind ≤ 8)
  unfolding check_assess
  assess-number old new r call = scene-refusals limits l m _ (assess-refused limits l m old new r call).0

  pub describe-number : (old new : DescribeLists) (r : Refusal) → DescribeCall limits l m old new (Err r) → (1 ≤ refusal_code r.kind) × (refusal_code r.kind ≤ 8)
  unfolding check_describe
  describe-number old new r call = scene-refusals limits l m _ (describe-refused limits l m old new r call).0

-- a trace is refused by 7 to 12
trace-numbered : (limits : TraceLimits) (t : TraceLists) (need : ℕ) (lengths : List ℕ) → Numbered 7 12 (trace_tests limits t need lengths)
unfolding trace_tests contract_tests
trace-numbered limits t need lengths = search numbering depth 12

pub trace-number : (limits : TraceLimits) (t : TraceLists) (old new : FindingLists) (r : Refusal) → TraceCall limits t old new (Err r) → (7 ≤ refusal_code r.kind) × (refusal_code r.kind ≤ 12)
unfolding check_trace
trace-number limits t old new r call = refused-number _ (trace-numbered limits t _ (finding_lengths old)) (trace-refused limits t old new (Err r) call r refl).0

-- a recording is refused by 15, 13, or as a trace is
record-numbered : (limits : TraceLimits) (r : TransientRecord) (t : TraceLists) (lengths : List ℕ) → Numbered 7 15 (record_tests limits r t lengths)
unfolding record_tests trace_tests contract_tests
record-numbered limits r t lengths = search numbering depth 12

pub recording-refusals : (limits : TraceLimits) (r : TransientRecord) (t : TraceLists) (lengths : List ℕ) {e : Refusal} → check_recording limits r t lengths ≡ Err e
    → (7 ≤ refusal_code e.kind) × (refusal_code e.kind ≤ 15)
unfolding check_recording
recording-refusals limits r t lengths q = refused-number (record_tests limits r t lengths) (record-numbered limits r t lengths) q

-- so the first of a recording's numbers is 0 exactly where it was accepted
recorded-by : (c : Checked) {r then : TransientRecord} {t : TraceLists} {old new : FindingLists} {numbers : List ℕ} → RecordedBy c r t old new numbers then → get_or numbers 0 0 ≡ 0 → c ≡ accepted
recorded-by (Ok u) b z = refl
recorded-by (Err e) b z = absurd (omega (arith, (kind-number e.kind).0, ap (λ l. get_or l 0 0) b.numbered))

pub record-accepted : (limits : TraceLimits) (r then : TransientRecord) (t : TraceLists) (old new : FindingLists) (numbers : List ℕ)
    → RecordCall limits r t old new numbers then → get_or numbers 0 0 ≡ 0 → check_recording limits r t (finding_lengths old) ≡ accepted
record-accepted limits r then t old new numbers call z = recorded-by (check_recording limits r t (finding_lengths old)) call z
