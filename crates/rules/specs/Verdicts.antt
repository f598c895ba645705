-- Contracts, verdicts, rationale codes and tallies. Assumes nothing: these are definitions.
use Rattle.std.specs.Prelude.{Option, Some, None, Bool, cond, ◌&&◌, List, [], ◌∷◌, map, ◌≡◌, ℕ, eqb, leb, length, get_or}
use Rattle.rules.specs.Lists.{keep, count, indices}
use Rattle.rules.specs.Codes.{polarity_code, polarity_of, unit_code, unit_of, verdict_code, rationale_code}
use Rattle.rules.specs.Pulses.{Event, is_powered, Pulse, pulses}
use Rattle.rules.specs.declared.transient.PulsePolarity.{PulsePolarity}
use Rattle.rules.specs.declared.transient.TraceTimeUnit.{TraceTimeUnit}
use Rattle.rules.specs.declared.transient.TransientVerdict.{TransientVerdict}
use Rattle.rules.specs.declared.transient.TransientVerdict.TheVariants as Verdict
use Rattle.rules.specs.declared.transient.SignalIntent.{SignalIntent}
use Rattle.rules.specs.declared.transient.SignalIntent.TheVariants as Intent
use Rattle.rules.specs.declared.transient.Rationale.{Rationale}
use Rattle.rules.specs.declared.transient.Rationale.TheVariants as Why
use Rattle.rules.specs.declared.transient.Judgement.{Judgement}

-- "A contract has component id, intent, powered (0, 1), polarity, unit, and smallest and largest width (64 bits)."
pub record Contract : Type 0 where
  pub component : ℕ
  pub intent : ℕ
  pub powered : ℕ
  pub polarity : ℕ
  pub unit : ℕ
  pub smallest : ℕ
  pub largest : ℕ

-- the lists by which contracts are lent: one for each field
pub record ContractLists : Type 0 where
  pub components : List ℕ
  pub intents : List ℕ
  pub powered : List ℕ
  pub polarities : List ℕ
  pub units : List ℕ
  pub smallest : List ℕ
  pub largest : List ℕ

-- these lists, one by one in the order of the fields
abbrev pub contract_lists : (components intents powered polarities units smallest largest : List ℕ) → ContractLists
contract_lists x0 x1 x2 x3 x4 x5 x6 =
    record { components = x0; intents = x1; powered = x2; polarities = x3; units = x4; smallest = x5; largest = x6 }

-- the lists have one length
pub record ContractsAligned (l : ContractLists) : Type 0 where
  pub intents_length : length l.intents ≡ length l.components
  pub powered_length : length l.powered ≡ length l.components
  pub polarities_length : length l.polarities ≡ length l.components
  pub units_length : length l.units ≡ length l.components
  pub smallest_length : length l.smallest ≡ length l.components
  pub largest_length : length l.largest ≡ length l.components

unfoldable pub contract_at : ContractLists → ℕ → Contract
contract_at l i =
    record {
      component = get_or l.components i 0;
      intent = get_or l.intents i 0;
      powered = get_or l.powered i 0;
      polarity = get_or l.polarities i 0;
      unit = get_or l.units i 0;
      smallest = get_or l.smallest i 0;
      largest = get_or l.largest i 0;
    }

unfoldable pub contracts_of : ContractLists → List Contract
contracts_of l = map (contract_at l) (indices (length l.components))

-- "Intents and what they use: 0 SteadyStateOnly, 1 Stable (powered), 2 IntentionalPulse (polarity, unit, both widths), 3 MaximumPulseWidth
-- (polarity, unit, largest width)"
unfoldable pub intent_of : Contract → SignalIntent
intent_of c =
    cond (eqb c.intent 0) Intent.SteadyStateOnly
    (cond (eqb c.intent 1) (Intent.Stable (is_powered c.powered))
    (cond (eqb c.intent 2) (Intent.IntentionalPulse (polarity_of c.polarity) (unit_of c.unit) c.smallest c.largest)
    (Intent.MaximumPulseWidth (polarity_of c.polarity) (unit_of c.unit) c.largest)))

abbrev pub for_component : ℕ → Contract → Bool
for_component v c = eqb c.component v

-- the intent that is registered for a component
unfoldable pub design_intent : List Contract → ℕ → Option SignalIntent
design_intent cs v = get_or (map (λ c. Some (intent_of c)) (keep (for_component v) cs)) 0 None

abbrev pub same_polarity : PulsePolarity → PulsePolarity → Bool
same_polarity a b = eqb (polarity_code a) (polarity_code b)

abbrev pub same_unit : TraceTimeUnit → TraceTimeUnit → Bool
same_unit a b = eqb (unit_code a) (unit_code b)

abbrev pub judged : TransientVerdict → Rationale → Judgement
judged verdict rationale = record { verdict = verdict; rationale = rationale }

-- "Verdicts: no contract HazardCandidate; 0 TransientDeviation; 1 HazardConfirmed; 2 IntentionalPulse if polarity, unit and inclusive width fit,
-- else HazardConfirmed; 3 PulseObserved if polarity and unit fit and width is at most the maximum, else HazardConfirmed."
-- "The ten rationale texts become codes 0 to 9 in `classify`'s order, Stable's four by wanted level (0 first), then polarity."
unfoldable pub classify : Pulse → Option SignalIntent → Judgement
classify p None = judged Verdict.HazardCandidate Why.NoIntent
classify p (Some Intent.SteadyStateOnly) = judged Verdict.TransientDeviation Why.SteadyStateOnly
classify p (Some (Intent.Stable wanted)) = judged Verdict.HazardConfirmed (Why.Stable wanted p.polarity)
classify p (Some (Intent.IntentionalPulse polarity unit smallest largest)) =
    cond (same_polarity polarity p.polarity && (same_unit unit p.unit && (leb smallest p.width && leb p.width largest)))
    (judged Verdict.IntentionalPulse Why.PulseFits)
    (judged Verdict.HazardConfirmed Why.PulseDiffers)
classify p (Some (Intent.MaximumPulseWidth polarity unit largest)) =
    cond (same_polarity polarity p.polarity && (same_unit unit p.unit && leb p.width largest))
    (judged Verdict.PulseObserved Why.WithinTolerance)
    (judged Verdict.HazardConfirmed Why.PastTolerance)

-- a pulse and what is judged of it; an entry of list 9
pub record Finding : Type 0 where
  pub pulse : Pulse
  pub judgement : Judgement

unfoldable pub finding_of : List Contract → Pulse → Finding
finding_of cs p = record { pulse = p; judgement = classify p (design_intent cs p.component) }

-- "The trace call writes its findings, in pulse order, to list 9"
unfoldable pub findings : TraceTimeUnit → List Event → List Contract → List Finding
findings unit es cs = map (finding_of cs) (pulses unit es)

-- The fields of list 9
abbrev pub finding_component : Finding → ℕ
finding_component f = f.pulse.component

abbrev pub finding_polarity : Finding → ℕ
finding_polarity f = polarity_code f.pulse.polarity

abbrev pub finding_unit : Finding → ℕ
finding_unit f = unit_code f.pulse.unit

abbrev pub finding_start_tick : Finding → ℕ
finding_start_tick f = f.pulse.start_tick

abbrev pub finding_end_tick : Finding → ℕ
finding_end_tick f = f.pulse.end_tick

abbrev pub finding_width : Finding → ℕ
finding_width f = f.pulse.width

abbrev pub finding_steady : Finding → ℕ
finding_steady f = cond f.pulse.steady 1 0

abbrev pub finding_baseline : Finding → ℕ
finding_baseline f = f.pulse.baseline_event

abbrev pub finding_start : Finding → ℕ
finding_start f = f.pulse.start_event

abbrev pub finding_end : Finding → ℕ
finding_end f = f.pulse.end_event

abbrev pub finding_verdict : Finding → ℕ
finding_verdict f = verdict_code f.judgement.verdict

abbrev pub finding_rationale : Finding → ℕ
finding_rationale f = rationale_code f.judgement.rationale

-- the number lists of list 9, one for each field
pub record FindingLists : Type 0 where
  pub components : List ℕ
  pub polarities : List ℕ
  pub units : List ℕ
  pub start_ticks : List ℕ
  pub end_ticks : List ℕ
  pub widths : List ℕ
  pub steady : List ℕ
  pub baselines : List ℕ
  pub starts : List ℕ
  pub ends : List ℕ
  pub verdicts : List ℕ
  pub rationales : List ℕ

-- these lists, one by one in the order of the fields
abbrev pub finding_lists : (components polarities units start_ticks end_ticks widths steady baselines starts ends verdicts rationales : List ℕ) → FindingLists
finding_lists x0 x1 x2 x3 x4 x5 x6 x7 x8 x9 x10 x11 =
    record { components = x0; polarities = x1; units = x2; start_ticks = x3; end_ticks = x4; widths = x5; steady = x6; baselines = x7; starts = x8; ends = x9; verdicts = x10; rationales = x11 }

unfoldable pub finding_lengths : FindingLists → List ℕ
finding_lengths o =
    length o.components ∷ length o.polarities ∷ length o.units ∷ length o.start_ticks ∷ length o.end_ticks ∷ length o.widths ∷ length o.steady
    ∷ length o.baselines ∷ length o.starts ∷ length o.ends ∷ length o.verdicts ∷ length o.rationales ∷ []

-- what each field's list holds after a call, given what the call leaves in a list, from what it held and the entries to be written
pub record FindingsListed (left : List ℕ → List ℕ → List ℕ) (fs : List Finding) (old new : FindingLists) : Type 0 where
  pub components_listed : new.components ≡ left old.components (map finding_component fs)
  pub polarities_listed : new.polarities ≡ left old.polarities (map finding_polarity fs)
  pub units_listed : new.units ≡ left old.units (map finding_unit fs)
  pub start_ticks_listed : new.start_ticks ≡ left old.start_ticks (map finding_start_tick fs)
  pub end_ticks_listed : new.end_ticks ≡ left old.end_ticks (map finding_end_tick fs)
  pub widths_listed : new.widths ≡ left old.widths (map finding_width fs)
  pub steady_listed : new.steady ≡ left old.steady (map finding_steady fs)
  pub baselines_listed : new.baselines ≡ left old.baselines (map finding_baseline fs)
  pub starts_listed : new.starts ≡ left old.starts (map finding_start fs)
  pub ends_listed : new.ends ≡ left old.ends (map finding_end fs)
  pub verdicts_listed : new.verdicts ≡ left old.verdicts (map finding_verdict fs)
  pub rationales_listed : new.rationales ≡ left old.rationales (map finding_rationale fs)

-- "five tallies, one for each verdict, stand in for the map"
unfoldable pub tally : List Finding → ℕ → ℕ
tally fs k = count (λ f. eqb (verdict_code f.judgement.verdict) k) fs

unfoldable pub tallies : List Finding → List ℕ
tallies fs = map (tally fs) (indices 5)
