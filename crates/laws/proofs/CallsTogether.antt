-- Calls on one scene: the call that writes lists 0 to 8 is accepted exactly where its two parts are, which write what it writes, and calls are
-- parted only by the room of the lists that they write. Assumes nothing.
use mathlib.Core.List.Memᴰ
use mathlib.Core.List.{List, [], ◌∷◌, ◌++◌, map, append_assoc, map-append, Memᴰ}
use mathlib.Core.Logic.{◌⊎◌, inl, inr, ⊎_elim}
use mathlib.Core.Path.{◌≡◌, refl, sym, ap, subst, ◌∙◌}
use Prim.Native.Nat.{ℕ}
use lib.ListN.{length}
use Rattle.std.specs.Prelude.{Result, Ok, Err}
use Rattle.rules.specs.Scene.{ComponentLists, ConnectionLists, scene_of}
use Rattle.rules.specs.Refusals.{Checked, accepted, Test, first_refusal, SceneLimits, Output, outputs_from, output_test, rows, component_tests, connection_tests, size_tests, scene_tests, check_scene}
use Rattle.rules.specs.Describe.{describe_outputs, check_describe, describe_checked, DescribeCall}
use Rattle.rules.specs.Assess.{assess_outputs, check_assess, assess_checked, AssessCall}
use Rattle.rules.specs.Analyze.{AnalyzeLists, analysis, analysis_numbers, AnalyzeCall}
use Rattle.rules.specs.declared.answers.Analysis.{Analysis}
use Rattle.rules.specs.declared.answers.Assessment.{Assessment}
use Rattle.rules.specs.declared.answers.Description.{Description}
use Rattle.rules.specs.declared.answers.Refusal.{Refusal}
use Rattle.rules.specs.declared.answers.RefusalKind.TheVariants.{ListTooShort}
use Rattle.rules.proofs.FirstRefusal.{skip, stay, not-both, same-kind, refused-holds}
use Rattle.rules.proofs.Acceptance.{OutputLong, AcceptedScene, accepted→, →accepted}
use Rattle.laws.proofs.CallRefusals.{analyze-accepted, analyze-refused, describe-accepted, assess-accepted}

-- a refusal is that of a test between two groups, or the two groups refuse so without it
between-or-same : (a b c : List Test) {r : Refusal} → first_refusal (a ++ (b ++ c)) ≡ Err r
    → ((t : Test) × Memᴰ t b × (t.kind ≡ r.kind)) ⊎ (first_refusal (a ++ c) ≡ Err r)
between-or-same a b c {r} h = go (first_refusal a) (first_refusal b) refl refl
  where
    go : (v w : Checked) → v ≡ first_refusal a → w ≡ first_refusal b → ((t : Test) × Memᴰ t b × (t.kind ≡ r.kind)) ⊎ (first_refusal (a ++ c) ≡ Err r)
    go (Err s) w e f = inr (sym (stay a c e) ∙ (stay a (b ++ c) e ∙ h))
    go (Ok u) (Err s) e f =
        let t = refused-holds b (sym f) in
        let g = skip a (b ++ c) e (stay b c f) in
        inl (t.0, t.1, t.3 ∙ same-kind (g ∙ h))
    go (Ok u) (Ok v) e f = inr (sym (skip a c e refl) ∙ (skip a (b ++ c) e (skip b c f refl) ∙ h))

-- a refusal of two groups of tests that stand between others is that of the one group there or of the other
refused-by-one : (a b c d : List Test) {r : Refusal} → first_refusal (a ++ (b ++ (c ++ d))) ≡ Err r
    → (first_refusal (a ++ (b ++ d)) ≡ Err r) ⊎ (first_refusal (a ++ (c ++ d)) ≡ Err r)
refused-by-one a b c d {r} h = go (first_refusal a) (first_refusal b) refl refl
  where
    go : (v w : Checked) → v ≡ first_refusal a → w ≡ first_refusal b → (first_refusal (a ++ (b ++ d)) ≡ Err r) ⊎ (first_refusal (a ++ (c ++ d)) ≡ Err r)
    go (Err s) w e f = inl (sym (stay a (b ++ d) e) ∙ (stay a (b ++ (c ++ d)) e ∙ h))
    go (Ok u) (Err s) e f = inl (sym (skip a (b ++ d) e (stay b d f)) ∙ (skip a (b ++ (c ++ d)) e (stay b (c ++ d) f) ∙ h))
    go (Ok u) (Ok v) e f = inr (sym (skip a (c ++ d) e refl) ∙ (skip a (b ++ (c ++ d)) e (skip b (c ++ d) f refl) ∙ h))

module _ (limits : SceneLimits) (l : ComponentLists) (m : ConnectionLists) where
  -- a scene that is refused with two groups of output lists is refused so with one of them
  pub refused-with : (a b : List Output) {r : Refusal} → check_scene limits l m (a ++ b) ≡ Err r → (check_scene limits l m a ≡ Err r) ⊎ (check_scene limits l m b ≡ Err r)
  unfolding check_scene scene_tests size_tests
  refused-with a b {r} e =
      let by_rows : List Test = rows (component_tests l) (length l.ids) ++ rows (connection_tests l m) (length m.sources) in
      let h : first_refusal (size_tests limits l m [] ++ ((map output_test a ++ map output_test b) ++ by_rows)) ≡ Err r =
      subst (λ ts. first_refusal (size_tests limits l m [] ++ (ts ++ by_rows)) ≡ Err r) (map-append output_test a b) e in
      refused-by-one (size_tests limits l m []) (map output_test a) (map output_test b) by_rows (rw append_assoc at h)

  -- an accepted scene is accepted with other output lists that are long enough
  with-outputs : {a : List Output} (b : List Output) → AcceptedScene limits l m a → ((o : Output) → Memᴰ o b → OutputLong o) → check_scene limits l m b ≡ accepted
  with-outputs b s long = →accepted limits l m b record {
    components_aligned = s.components_aligned;
    connections_aligned = s.connections_aligned;
    components_few = s.components_few;
    connections_few = s.connections_few;
    outputs_long = long;
    components_fit = s.components_fit;
    ids_distinct = s.ids_distinct;
    connections_fit = s.connections_fit;
  }

  -- a scene that refuses otherwise than by 7, a list too short, refuses so with no output lists
  room-or-plain : (a : List Output) {r : Refusal} → check_scene limits l m a ≡ Err r → (r.kind ≡ ListTooShort) ⊎ (check_scene limits l m [] ≡ Err r)
  unfolding check_scene scene_tests size_tests
  room-or-plain a e = ⊎_elim (λ t. inl (sym t.2 ∙ ap (λ s. s.kind) (sym (Memᴰ.of_map output_test a t.1).2))) inr (between-or-same (size_tests limits l m []) (map output_test a) _ e)

  -- a scene that is accepted with two groups of output lists is accepted with each
  pub together : (a b : List Output) → check_scene limits l m (a ++ b) ≡ accepted → (check_scene limits l m a ≡ accepted) × (check_scene limits l m b ≡ accepted)
  together a b e =
      let s = accepted→ limits l m (a ++ b) e in
      (with-outputs a s (λ o k. s.outputs_long o (Memᴰ.append_left b k)), with-outputs b s (λ o k. s.outputs_long o (Memᴰ.append_right a k)))

  -- and one that is accepted with each is accepted with both
  pub both : (a b : List Output) → check_scene limits l m a ≡ accepted → check_scene limits l m b ≡ accepted → check_scene limits l m (a ++ b) ≡ accepted
  both a b e f =
      let s = accepted→ limits l m a e in
      with-outputs (a ++ b) s (λ o k. ⊎_elim (s.outputs_long o) ((accepted→ limits l m b f).outputs_long o) (Memᴰ.append_cases a k))

  -- where one of two calls on a scene is accepted and the other refused, an output list of the refused one is too short
  pub apart : (a b : List Output) {r : Refusal} → check_scene limits l m a ≡ accepted → check_scene limits l m b ≡ Err r → r.kind ≡ ListTooShort
  apart a b e f = ⊎_elim (λ h. h) (λ r. absurd (not-both (together [] a e).0 r)) (room-or-plain b f)

  -- two calls on a scene that refuse otherwise than by 7 refuse alike
  pub same-refusal : (a b : List Output) {r s : Refusal} → check_scene limits l m a ≡ Err r → check_scene limits l m b ≡ Err s
      → (r.kind ≡ ListTooShort → ⊥) → (s.kind ≡ ListTooShort → ⊥) → r ≡ s
  same-refusal a b e f g h =
      let p = ⊎_elim (λ k. absurd (g k)) (λ q. q) (room-or-plain a e) in
      let q = ⊎_elim (λ k. absurd (h k)) (λ q. q) (room-or-plain b f) in
      cc

  module _ (l0 l1 l2 l3 l4 l5 l6 l7 l8 : List ℕ) where
    abbrev described : List Output
    described = describe_outputs (length l.ids) (length m.sources) l0 l1 l2

    abbrev assessed : List Output
    assessed = assess_outputs (length l.ids) (length m.sources) l3 l4 l5 l6 l7 l8

    abbrev whole : List Output
    whole = outputs_from 0 (length l.ids) (length m.sources) (l0 ∷ l1 ∷ l2 ∷ l3 ∷ l4 ∷ l5 ∷ l6 ∷ l7 ∷ l8 ∷ [])

    -- a scene that is accepted with all nine lists is accepted by both parts
    pub calls-accepted : check_scene limits l m whole ≡ accepted → (check_describe limits l m l0 l1 l2 ≡ accepted) × (check_assess limits l m l3 l4 l5 l6 l7 l8 ≡ accepted)
    unfolding check_describe check_assess
    calls-accepted e = together described assessed e

    -- and one that both parts accept is accepted with all nine
    pub calls-whole : check_describe limits l m l0 l1 l2 ≡ accepted → check_assess limits l m l3 l4 l5 l6 l7 l8 ≡ accepted → check_scene limits l m whole ≡ accepted
    unfolding check_describe check_assess
    calls-whole e f = both described assessed e f

    -- where one of the parts is accepted and the other refused, a list of the refused one is too short
    pub calls-apart : {r : Refusal} → (check_describe limits l m l0 l1 l2 ≡ accepted → check_assess limits l m l3 l4 l5 l6 l7 l8 ≡ Err r → r.kind ≡ ListTooShort)
        × (check_assess limits l m l3 l4 l5 l6 l7 l8 ≡ accepted → check_describe limits l m l0 l1 l2 ≡ Err r → r.kind ≡ ListTooShort)
    unfolding check_describe check_assess
    calls-apart = (apart described assessed, apart assessed described)

-- The call that writes lists 0 to 8, and its two parts on the same scene and the same lists
module _ (limits : SceneLimits) (l : ComponentLists) (m : ConnectionLists) (old new : AnalyzeLists) where
  -- where the one call accepts, both parts do, with its answers, and leave the lists as it does
  pub analyze-parts : (a : Analysis) → AnalyzeCall limits l m old new (Ok a)
      → DescribeCall limits l m old.description new.description (Ok a.description) × AssessCall limits l m old.assessment new.assessment (Ok a.assessment)
  analyze-parts a call =
      let e = analyze-accepted limits l m old new a call in
      let parts = calls-accepted limits l m _ _ _ _ _ _ _ _ _ e.0 in
      (rw (parts.0) e.1.described, rw (parts.1) e.1.assessed)

  -- and where both parts accept, so does the one call
  pub parts-analyze : (d : Description) (a : Assessment) → DescribeCall limits l m old.description new.description (Ok d)
      → AssessCall limits l m old.assessment new.assessment (Ok a) → AnalyzeCall limits l m old new (Ok (record { description = d; assessment = a }))
  parts-analyze d a described assessed =
      let e = describe-accepted limits l m old.description new.description d described in
      let f = assess-accepted limits l m old.assessment new.assessment a assessed in
      let whole = calls-whole limits l m _ _ _ _ _ _ _ _ _ e.0 f.0 in
      let described_so = e.1.answered in
      let assessed_so = f.1.answered in
      let told : ◌≡◌ {A = Result Analysis Refusal} (Ok (record { description = d; assessment = a })) (Ok (analysis (scene_of l m))) = cc in
      rw whole (record { answered = told; numbered = ap analysis_numbers told; described = e.1; assessed = f.1 })

  -- where the one call refuses, one of its parts refuses so, too
  pub analyze-refused-by : (r : Refusal) → AnalyzeCall limits l m old new (Err r)
      → (describe_checked limits l m old.description ≡ Err r) ⊎ (assess_checked limits l m old.assessment ≡ Err r)
  unfolding check_describe check_assess
  analyze-refused-by r call = refused-with limits l m _ _ (analyze-refused limits l m old new r call).0
