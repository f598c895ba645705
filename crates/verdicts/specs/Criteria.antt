-- What is judged of the pulses of one component. Assumes nothing: these are definitions.
use Rattle.std.specs.Prelude.{Option, Some, None, Bool, cond, ◌&&◌, ◌≡◌, List, [], ◌∷◌, ℕ, ◌-◌, ◌<◌, ◌^◌, eqb, leb, slice_index}
use Rattle.rules.specs.Codes.{polarity_code, verdict_code, rationale_code}
use Rattle.rules.specs.Pulses.{Pulse}
use Rattle.rules.specs.Verdicts.{same_unit, classify}
use Rattle.rules.specs.declared.transient.PulsePolarity.{PulsePolarity}
use Rattle.rules.specs.declared.transient.PulsePolarity.TheVariants.{High, Low}
use Rattle.rules.specs.declared.transient.TraceTimeUnit.{TraceTimeUnit}
use Rattle.rules.specs.declared.transient.TransientVerdict.{TransientVerdict}
use Rattle.rules.specs.declared.transient.TransientVerdict.TheVariants as Verdict
use Rattle.rules.specs.declared.transient.Rationale.{Rationale}
use Rattle.rules.specs.declared.transient.Rationale.TheVariants as Why
use Rattle.rules.specs.declared.transient.SignalIntent.{SignalIntent}
use Rattle.rules.specs.declared.transient.SignalIntent.TheVariants as Intent
use Rattle.verdicts.specs.declared.criterion.Criterion.{Criterion}

-- whether a pulse fits, by the number of its polarity and its width
abbrev pub fits : Criterion → (polarity width : ℕ) → Bool
fits c polarity width = eqb polarity c.polarity && (leb c.smallest width && leb width c.largest)

-- which of two numbers holds for a pulse
abbrev pub for_pulse : Criterion → Pulse → List ℕ → ℕ
for_pulse c p l = slice_index l (cond (fits c (polarity_code p.polarity) p.width) 1 0)

-- the number of a polarity, or of none where the units differ
abbrev pub polarity_in : TraceTimeUnit → PulsePolarity → TraceTimeUnit → ℕ
polarity_in unit polarity time_unit = cond (same_unit time_unit unit) (polarity_code polarity) 2

-- every pulse is judged alike
abbrev pub alike : TransientVerdict → Rationale → Criterion
alike verdict rationale =
    record { smallest = 0; largest = 0; polarity = 0; verdicts = verdict_code verdict ∷ verdict_code verdict ∷ []; rationales = rationale_code rationale ∷ rationale_code rationale ∷ [] }

-- by an intent: for Stable those fit that are Low, of every width, and only the rationale tells them from the others
abbrev pub registered : SignalIntent → TraceTimeUnit → Criterion
registered Intent.SteadyStateOnly unit = alike Verdict.TransientDeviation Why.SteadyStateOnly
registered (Intent.Stable wanted) unit =
    record {
      smallest = 0;
      largest = 2 ^ 64 - 1;
      polarity = polarity_code Low;
      verdicts = verdict_code Verdict.HazardConfirmed ∷ verdict_code Verdict.HazardConfirmed ∷ [];
      rationales = rationale_code (Why.Stable wanted High) ∷ rationale_code (Why.Stable wanted Low) ∷ [];
    }
registered (Intent.IntentionalPulse polarity time_unit smallest largest) unit =
    record {
      smallest = smallest;
      largest = largest;
      polarity = polarity_in unit polarity time_unit;
      verdicts = verdict_code Verdict.HazardConfirmed ∷ verdict_code Verdict.IntentionalPulse ∷ [];
      rationales = rationale_code Why.PulseDiffers ∷ rationale_code Why.PulseFits ∷ [];
    }
registered (Intent.MaximumPulseWidth polarity time_unit largest) unit =
    record {
      smallest = 0;
      largest = largest;
      polarity = polarity_in unit polarity time_unit;
      verdicts = verdict_code Verdict.HazardConfirmed ∷ verdict_code Verdict.PulseObserved ∷ [];
      rationales = rationale_code Why.PastTolerance ∷ rationale_code Why.WithinTolerance ∷ [];
    }

abbrev pub criterion_of : Option SignalIntent → TraceTimeUnit → Criterion
criterion_of None unit = alike Verdict.HazardCandidate Why.NoIntent
criterion_of (Some intent) unit = registered intent unit

-- the judgement on each pulse of a unit is that by the intent
pub record Judges (c : Criterion) (intent : Option SignalIntent) (unit : TraceTimeUnit) : Type 0 where
  pub verdict_judged : (p : Pulse) → p.unit ≡ unit → p.width < 2 ^ 64 → for_pulse c p c.verdicts ≡ verdict_code (classify p intent).verdict
  pub rationale_judged : (p : Pulse) → p.unit ≡ unit → p.width < 2 ^ 64 → for_pulse c p c.rationales ≡ rationale_code (classify p intent).rationale

-- the judgement on a pulse of this unit, polarity, by its number, and width is that by the intent
pub record JudgedBy (intent : Option SignalIntent) (unit : TraceTimeUnit) (polarity width verdict rationale : ℕ) : Type 0 where
  pub verdict_by : (p : Pulse) → p.unit ≡ unit → polarity ≡ polarity_code p.polarity → width ≡ p.width → verdict ≡ verdict_code (classify p intent).verdict
  pub rationale_by : (p : Pulse) → p.unit ≡ unit → polarity ≡ polarity_code p.polarity → width ≡ p.width → rationale ≡ rationale_code (classify p intent).rationale
