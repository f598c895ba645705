-- The judgement by the criterion of an intent is that by the intent. Assumes nothing.
use mathlib.Core.Bool.{Bool, true, false, cond, ◌&&◌}
use mathlib.Core.List.{List, [], ◌∷◌}
use mathlib.Core.Path.{◌≡◌, refl, sym, ap, subst, ◌∙◌}
use Prim.Native.Nat.{ℕ, ◌<◌}
use native.Mathlib.Omega.{arith}
use lib.Dec.{eqb, leb, leb-zero}
use Rattle.std.specs.Prelude.{Option, Some, None, slice_index, ◌^◌}
use Rattle.std.proofs.lemmas.Bool.{le-leb}
use Rattle.rules.specs.Codes.{polarity_code, verdict_code, rationale_code}
use Rattle.rules.specs.Pulses.{Pulse}
use Rattle.rules.specs.Verdicts.{same_polarity, same_unit, classify}
use Rattle.rules.specs.declared.transient.Judgement.{Judgement}
use Rattle.rules.specs.declared.transient.PulsePolarity.{PulsePolarity}
use Rattle.rules.specs.declared.transient.PulsePolarity.TheVariants.{High, Low}
use Rattle.rules.specs.declared.transient.TraceTimeUnit.{TraceTimeUnit}
use Rattle.rules.specs.declared.transient.TraceTimeUnit.TheVariants.{RedstoneTick, GameTick}
use Rattle.rules.specs.declared.transient.SignalIntent.{SignalIntent}
use Rattle.rules.specs.declared.transient.SignalIntent.TheVariants as Intent
use Rattle.rules.specs.declared.transient.TransientVerdict.{TransientVerdict}
use Rattle.rules.specs.declared.transient.TransientVerdict.TheVariants as Verdict
use Rattle.rules.specs.declared.transient.Rationale.{Rationale}
use Rattle.rules.specs.declared.transient.Rationale.TheVariants as Why
use Rattle.verdicts.specs.declared.criterion.Criterion.{Criterion}
use Rattle.verdicts.specs.Criteria.{fits, for_pulse, polarity_in, alike, registered, criterion_of, Judges, JudgedBy}

-- all pulses are judged alike
module _ (verdict : TransientVerdict) (rationale : Rationale) where
  either : (n : ℕ) (b : Bool) → slice_index (n ∷ n ∷ []) (cond b 1 0) ≡ n
  either n true = refl
  either n false = refl

  alike-verdict : (p : Pulse) → for_pulse (alike verdict rationale) p (alike verdict rationale).verdicts ≡ verdict_code verdict
  alike-verdict p = either (verdict_code verdict) (fits (alike verdict rationale) (polarity_code p.polarity) p.width)

  alike-rationale : (p : Pulse) → for_pulse (alike verdict rationale) p (alike verdict rationale).rationales ≡ rationale_code rationale
  alike-rationale p = either (rationale_code rationale) (fits (alike verdict rationale) (polarity_code p.polarity) p.width)

-- the number of the polarity in another unit is that of none
fit : (a b : PulsePolarity) (u v : TraceTimeUnit) (r : Bool) → (eqb (polarity_code b) (polarity_in v a u) && r) ≡ (same_polarity a b && (same_unit u v && r))
fit High High RedstoneTick RedstoneTick r = refl
fit High High RedstoneTick GameTick r = refl
fit High High GameTick RedstoneTick r = refl
fit High High GameTick GameTick r = refl
fit High Low RedstoneTick RedstoneTick r = refl
fit High Low RedstoneTick GameTick r = refl
fit High Low GameTick RedstoneTick r = refl
fit High Low GameTick GameTick r = refl
fit Low High RedstoneTick RedstoneTick r = refl
fit Low High RedstoneTick GameTick r = refl
fit Low High GameTick RedstoneTick r = refl
fit Low High GameTick GameTick r = refl
fit Low Low RedstoneTick RedstoneTick r = refl
fit Low Low RedstoneTick GameTick r = refl
fit Low Low GameTick RedstoneTick r = refl
fit Low Low GameTick GameTick r = refl

-- one of two is taken by index as by a test
module _ (g : Judgement → ℕ) (fitting other : Judgement) where
  by_test : (b : Bool) → slice_index (g other ∷ g fitting ∷ []) (cond b 1 0) ≡ g (cond b fitting other)
  by_test true = refl
  by_test false = refl

  taken : {a b : Bool} → a ≡ b → slice_index (g other ∷ g fitting ∷ []) (cond a 1 0) ≡ g (cond b fitting other)
  taken {a} {b} e = ap (λ x. slice_index (g other ∷ g fitting ∷ []) (cond x 1 0)) e ∙ by_test b

module _ (polarity : PulsePolarity) (u unit : TraceTimeUnit) (lo hi : ℕ) where
  intentional-judged : Judges (registered (Intent.IntentionalPulse polarity u lo hi) unit) (Some (Intent.IntentionalPulse polarity u lo hi)) unit
  unfolding classify
  intentional-judged = record {
    verdict_judged = λ p t h. taken (λ j. verdict_code j.verdict) _ _ (here p t);
    rationale_judged = λ p t h. taken (λ j. rationale_code j.rationale) _ _ (here p t);
  }
    where
      here : (p : Pulse) → p.unit ≡ unit
          → (eqb (polarity_code p.polarity) (polarity_in unit polarity u) && (leb lo p.width && leb p.width hi)) ≡ (same_polarity polarity p.polarity && (same_unit u p.unit && (leb lo p.width && leb p.width hi)))
      here p t = ap (λ x. eqb (polarity_code p.polarity) (polarity_in x polarity u) && (leb lo p.width && leb p.width hi)) (sym t) ∙ fit polarity p.polarity u p.unit (leb lo p.width && leb p.width hi)

  maximum-judged : Judges (registered (Intent.MaximumPulseWidth polarity u hi) unit) (Some (Intent.MaximumPulseWidth polarity u hi)) unit
  unfolding classify
  maximum-judged = record {
    verdict_judged = λ p t h. taken (λ j. verdict_code j.verdict) _ _ (here p t);
    rationale_judged = λ p t h. taken (λ j. rationale_code j.rationale) _ _ (here p t);
  }
    where
      here : (p : Pulse) → p.unit ≡ unit
          → (eqb (polarity_code p.polarity) (polarity_in unit polarity u) && (leb 0 p.width && leb p.width hi)) ≡ (same_polarity polarity p.polarity && (same_unit u p.unit && leb p.width hi))
      here p t =
          ap (λ r. eqb (polarity_code p.polarity) (polarity_in unit polarity u) && (r && leb p.width hi)) (leb-zero p.width)
          ∙ ap (λ x. eqb (polarity_code p.polarity) (polarity_in x polarity u) && leb p.width hi) (sym t) ∙ fit polarity p.polarity u p.unit (leb p.width hi)

module _ (wanted : Bool) (unit : TraceTimeUnit) where
  stable-judged : Judges (registered (Intent.Stable wanted) unit) (Some (Intent.Stable wanted)) unit
  unfolding classify
  stable-judged = record {
    verdict_judged = λ p t h. both (eqb (polarity_code p.polarity) 1 && (leb 0 p.width && leb p.width 18446744073709551615));
    rationale_judged = λ p t h. why p.polarity (leb 0 p.width && leb p.width 18446744073709551615) (rw (leb-zero p.width) (le-leb p.width 18446744073709551615 (omega (arith, h))));
  }
    where
      both : (b : Bool) → slice_index (3 ∷ 3 ∷ []) (cond b 1 0) ≡ 3
      both true = refl
      both false = refl

      why : (polarity : PulsePolarity) (r : Bool) → r ≡ true
          → slice_index (rationale_code (Why.Stable wanted High) ∷ rationale_code (Why.Stable wanted Low) ∷ []) (cond (eqb (polarity_code polarity) 1 && r) 1 0) ≡ rationale_code (Why.Stable wanted polarity)
      why High r h = refl
      why Low r h = rw h refl

-- the criterion of an intent judges as the intent does
pub criterion-judges : (intent : Option SignalIntent) (unit : TraceTimeUnit) → Judges (criterion_of intent unit) intent unit
unfolding classify
criterion-judges None unit = record {
  verdict_judged = λ p t h. alike-verdict Verdict.HazardCandidate Why.NoIntent p;
  rationale_judged = λ p t h. alike-rationale Verdict.HazardCandidate Why.NoIntent p;
}
criterion-judges (Some Intent.SteadyStateOnly) unit = record {
  verdict_judged = λ p t h. alike-verdict Verdict.TransientDeviation Why.SteadyStateOnly p;
  rationale_judged = λ p t h. alike-rationale Verdict.TransientDeviation Why.SteadyStateOnly p;
}
criterion-judges (Some (Intent.Stable wanted)) unit = stable-judged wanted unit
criterion-judges (Some (Intent.IntentionalPulse polarity u lo hi)) unit = intentional-judged polarity u unit lo hi
criterion-judges (Some (Intent.MaximumPulseWidth polarity u hi)) unit = maximum-judged polarity u unit 0 hi

-- so it is at the numbers of a pulse
module _ {c : Criterion} {intent : Option SignalIntent} {unit : TraceTimeUnit} (judges : Judges c intent unit) {polarity width : ℕ} (narrow : width < 2 ^ 64) where
  at_numbers : (p : Pulse) → polarity ≡ polarity_code p.polarity → width ≡ p.width → (l : List ℕ) → slice_index l (cond (fits c polarity width) 1 0) ≡ for_pulse c p l
  at_numbers p a b l = ap (λ x. slice_index l (cond (fits c x width) 1 0)) a ∙ ap (λ x. slice_index l (cond (fits c (polarity_code p.polarity) x) 1 0)) b

  pub judged-by : {v w : ℕ} → v ≡ slice_index c.verdicts (cond (fits c polarity width) 1 0) → w ≡ slice_index c.rationales (cond (fits c polarity width) 1 0) → JudgedBy intent unit polarity width v w
  judged-by d e = record {
    verdict_by = λ p u a b. d ∙ at_numbers p a b c.verdicts ∙ judges.verdict_judged p u (subst (λ x. x < 2 ^ 64) b narrow);
    rationale_by = λ p u a b. e ∙ at_numbers p a b c.rationales ∙ judges.rationale_judged p u (subst (λ x. x < 2 ^ 64) b narrow);
  }
