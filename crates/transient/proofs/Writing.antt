-- The pulses of the row, one after the other. Assumes nothing.
use mathlib.Core.List.{List, [], ◌∷◌, ◌++◌, map, map-append}
use mathlib.Core.Path.{◌≡◌, sym, ap, subst, ◌∙◌}
use Prim.Native.Nat.{ℕ, ◌+◌, ◌-◌, ◌<◌, ◌≤◌}
use native.Mathlib.Omega.{arith}
use lib.ListN.{length, length-map}
use Rattle.rules.specs.Lists.{written_from}
use Rattle.rules.specs.Codes.{unit_of}
use Rattle.rules.specs.Lent.{events_lent}
use Rattle.rules.specs.Pulses.{EventLists, Pulse}
use Rattle.rules.specs.Verdicts.{Finding, FindingLists, finding_of}
use Rattle.rules.specs.Windows.{pulse_at, window_places}
use Rattle.rules.proofs.Windows.{places-few}
use Rattle.transient.specs.declared.pulses.EventRow.{EventRow}
use Rattle.transient.specs.Judged.{found_in, findings_in, FindingRoom, PulseWritten, PulsesListed}
use Rattle.transient.specs.Row.{EndsPulses}
use Rattle.transient.proofs.Listing.{pulse-room, next-listed}
use Rattle.transient.proofs.Places.{before, touched, touched-next, left_over, few, all_before, all_touched}

module _ (r : EventRow) where
  abbrev l : EventLists
  l = events_lent r.trace.aligned.lent.events

  abbrev row : List ℕ
  row = r.positions.now

  -- the findings of places
  abbrev pub at_places : List ℕ → List Finding
  at_places places = map (found_in r) places

  module _ {start : ℕ} {old mid : FindingLists} (room : FindingRoom start (length row) old) (k : ℕ) (h : k + 2 < length row) {at : ℕ} (counted : at ≡ start + length (before l row k))
      (listed : PulsesListed (written_from start) (at_places (touched l row k)) old mid) where
    abbrev fs : List Finding
    fs = at_places (before l row k)

    abbrev extra : List Finding
    extra = at_places (left_over l row k).0

    most : length extra ≤ 1
    most = omega (arith, length-map (left_over l row k).0 (found_in r), (left_over l row k).1)

    split : at_places (touched l row k) ≡ fs ++ extra
    split = ap at_places (left_over l row k).2 ∙ map-append (found_in r) (before l row k) (left_over l row k).0

    fits : length fs < length row
    fits = omega (arith, length-map (before l row k) (found_in r), few l row k)

    here : at ≡ start + length fs
    here = omega (arith, counted, length-map (before l row k) (found_in r))

    listed' : PulsesListed (written_from start) (fs ++ extra) old mid
    listed' = subst (λ x. PulsesListed (written_from start) x old mid) split listed

    pub room-left : FindingRoom at 1 mid
    room-left = pulse-room start fs extra most room fits here listed'

    pub more-listed : {p : Pulse} {new : FindingLists} → p ≡ pulse_at (unit_of r.trace.aligned.lent.unit) l row k → PulseWritten at p mid new
        → PulsesListed (written_from start) (at_places (touched l row (k + 1))) old new
    unfolding finding_of
    more-listed {p} {new} e w =
        subst (λ x. PulsesListed (written_from start) x old new) (sym (map-append (found_in r) (before l row k) (k ∷ [])) ∙ ap at_places (touched-next l row k))
        (next-listed start fs extra most room fits here listed' (found_in r k) (subst (λ x. PulseWritten at x mid new) e w))

  pub all-listed : (start : ℕ) {end : ℕ} {old new : FindingLists} → EndsPulses l row end → PulsesListed (written_from start) (at_places (touched l row end)) old new → PulsesListed (written_from start) (findings_in r) old new
  all-listed start {end} {old} {new} e = subst (λ x. PulsesListed (written_from start) (at_places x) old new) (all_touched l row e)

  pub all-counted : (start : ℕ) {end at : ℕ} → EndsPulses l row end → at ≡ start + length (before l row end) → at - start ≡ length (findings_in r)
  all-counted start {end} e c = omega (arith, c, ap length (all_before l row e), length-map (window_places l row (length row)) (found_in r))

  pub findings-few : length (findings_in r) ≤ length row
  findings-few = omega (arith, length-map (window_places l row (length row)) (found_in r), places-few l row (length row))
