-- What is judged of the pulses written, one after the other. Assumes nothing.
use mathlib.Core.List.{List, [], ◌∷◌, ◌++◌, map, append-nil}
use mathlib.Core.Path.{◌≡◌, refl, sym, ap, subst, ◌∙◌}
use Prim.Native.Nat.{ℕ, ◌+◌, ◌<◌, ◌≤◌}
use native.Mathlib.Omega.{arith}
use Rattle.std.specs.Prelude.{Option}
use lib.ListN.{length, get_or, set, take, length-map}
use lib.Seq.{length-take-le, take-suc}
use Rattle.std.proofs.Common.{add-one}
use Rattle.laws.proofs.TraceRoom.{verdict-below}
use Rattle.rules.specs.Lists.{written_from}
use Rattle.rules.specs.Codes.{unit_of, polarity_code, verdict_code, rationale_code}
use Rattle.rules.specs.Lent.{events_lent, contracts_lent}
use Rattle.rules.specs.Pulses.{pulse_of}
use Rattle.rules.specs.Verdicts.{Finding, FindingLists, finding_of, finding_component, finding_polarity, finding_width, finding_verdict, finding_rationale, contracts_of, design_intent, classify, tallies}
use Rattle.rules.specs.Windows.{window_places, pulse_at}
use Rattle.rules.specs.declared.transient.SignalIntent.{SignalIntent}
use Rattle.rules.proofs.Indices.{map_at}
use Rattle.transient.specs.declared.accepted.AcceptedTrace.{AcceptedTrace}
use Rattle.transient.specs.declared.pulses.EventRow.{EventRow}
use Rattle.verdicts.specs.Criteria.{JudgedBy}
use Rattle.transient.specs.Judged.{found_in, findings_in, FindingRoom, PulsesHeld, JudgementWritten, JudgementsListed}
use Rattle.transient.proofs.Listing.{judgement-room, next-judged}
use Rattle.transient.proofs.Tallies.{tally_few, one_tallied}

module _ (r : EventRow) where
  abbrev fs : List Finding
  fs = findings_in r

  abbrev pub finding_at : ℕ → Finding
  finding_at j = get_or fs j (found_in r 0)

  -- the intent of a component
  abbrev intent : ℕ → Option SignalIntent
  intent v = design_intent (contracts_of (contracts_lent r.trace.aligned.lent.contracts)) v

  abbrev places : List ℕ
  places = window_places (events_lent r.trace.aligned.lent.events) r.positions.now (length r.positions.now)

  module _ (j : ℕ) (h : j < length fs) where
    -- the j-th
    abbrev f : Finding
    f = finding_at j

    entry : (g : Finding → ℕ) → get_or (map g fs) j 0 ≡ g f
    entry g = map_at g fs j (found_in r 0) 0 h

    this : f ≡ found_in r (get_or places j 0)
    this = map_at (found_in r) places j 0 (found_in r 0) (omega (arith, h, length-map places (found_in r)))

    by-intent : f.judgement ≡ classify f.pulse (intent f.pulse.component)
    unfolding finding_of
    by-intent = subst (λ x. x.judgement ≡ classify x.pulse (intent x.pulse.component)) (sym this) refl

    in-unit : f.pulse.unit ≡ unit_of r.trace.aligned.lent.unit
    unfolding finding_of pulse_at pulse_of
    in-unit = ap (λ x. x.pulse.unit) this

    below-length : length (take j fs) ≡ j
    below-length = length-take-le j fs (omega arith)

    more : take j fs ++ (f ∷ []) ≡ take (j + 1) fs
    more = sym (rw (add-one j) (take-suc fs j (found_in r 0) h))

    module _ {start : ℕ} {old mid : FindingLists} (listed : JudgementsListed (written_from start) (take j fs) old mid) where
      -- it is judged by what the lists hold of it
      module _ (held : PulsesHeld start fs old) {trace : AcceptedTrace} (same : trace ≡ r.trace) {v w : ℕ}
          (judged : JudgedBy (design_intent (contracts_of (contracts_lent trace.aligned.lent.contracts)) (get_or mid.components (start + j) 0)) trace.unit (get_or mid.polarities (start + j) 0) (get_or mid.widths (start + j) 0) v w) where
        component : get_or mid.components (start + j) 0 ≡ f.pulse.component
        component = ap (λ l. get_or l (start + j) 0) listed.components_kept ∙ held.components_held j h ∙ entry finding_component

        judged' : JudgedBy (intent f.pulse.component) r.trace.unit (get_or mid.polarities (start + j) 0) (get_or mid.widths (start + j) 0) v w
        judged' = rw (same, component) at judged

        polarity : get_or mid.polarities (start + j) 0 ≡ polarity_code f.pulse.polarity
        polarity = ap (λ l. get_or l (start + j) 0) listed.polarities_kept ∙ held.polarities_held j h ∙ entry finding_polarity

        width : get_or mid.widths (start + j) 0 ≡ f.pulse.width
        width = ap (λ l. get_or l (start + j) 0) listed.widths_kept ∙ held.widths_held j h ∙ entry finding_width

        pub verdict-here : v ≡ finding_verdict f
        verdict-here = judged'.verdict_by f.pulse (in-unit ∙ sym r.trace.read) polarity width ∙ ap (λ x. verdict_code x.verdict) (sym by-intent)

        pub rationale-here : w ≡ finding_rationale f
        rationale-here = judged'.rationale_by f.pulse (in-unit ∙ sym r.trace.read) polarity width ∙ ap (λ x. rationale_code x.rationale) (sym by-intent)

      module _ {n : ℕ} (room : FindingRoom start n old) (all : n ≡ length fs) where
        listed' : JudgementsListed (written_from start) (take j fs ++ []) old mid
        listed' = rw append-nil listed

        pub room-here : FindingRoom (start + j) 1 mid
        room-here = judgement-room start (take j fs) [] (omega arith) room (omega (arith, below-length)) (omega (arith, below-length)) listed'

        pub listed-more : {v w : ℕ} {new : FindingLists} → v ≡ finding_verdict f → w ≡ finding_rationale f → JudgementWritten (start + j) v w mid new → JudgementsListed (written_from start) (take (j + 1) fs) old new
        listed-more {new = new} a b written =
            subst (λ x. JudgementsListed (written_from start) x old new) more
            (next-judged start (take j fs) [] (omega arith) room (omega (arith, below-length)) (omega (arith, below-length)) listed' f a b written)

    module _ {counts : List ℕ} (tallied : counts ≡ tallies (take j fs)) {v : ℕ} (a : v ≡ finding_verdict f) where
      pub verdict-few : get_or counts v 0 ≤ j
      verdict-few = rw a (omega (arith, ap (λ c. get_or c (finding_verdict f) 0) tallied, tally_few (take j fs) f, below-length))

      pub tallied-more : {counts' : List ℕ} → counts' ≡ set counts v (get_or counts v 0 + 1) → counts' ≡ tallies (take (j + 1) fs)
      tallied-more s =
          s ∙ ap (λ x. set counts x (get_or counts x 0 + 1)) a ∙ ap (λ c. set c (finding_verdict f) (get_or c (finding_verdict f) 0 + 1)) tallied ∙ one_tallied (take j fs) f ∙ ap tallies more

pub verdict-number : (f : Finding) {v : ℕ} → v ≡ finding_verdict f → v < 5
verdict-number f e = omega (arith, e, verdict-below f.judgement.verdict)
