-- What the judging of pulses takes and gives. Assumes nothing: these are definitions.
use mathlib.Core.List.{List, map}
use Rattle.std.specs.Prelude.{cond, ◌≡◌, ℕ, ◌+◌, ◌<◌, ◌≤◌, length, slice_index, slice_set}
use Rattle.rules.specs.Codes.{polarity_code, unit_code, unit_of}
use Rattle.rules.specs.Lent.{events_lent, contracts_lent}
use Rattle.rules.specs.Pulses.{EventLists, Pulse}
use Rattle.rules.specs.Verdicts.{Contract, contracts_of, Finding, finding_of, FindingLists, finding_component, finding_polarity, finding_unit, finding_start_tick, finding_end_tick, finding_width, finding_steady, finding_baseline, finding_start, finding_end, finding_verdict, finding_rationale}
use Rattle.rules.specs.Windows.{pulse_at, window_places}
use Rattle.transient.specs.declared.pulses.EventRow.{EventRow}

-- the finding of the pulse that begins at a place of the row
abbrev pub found : (cs : List Contract) (unit : ℕ) (l : EventLists) (row : List ℕ) → ℕ → Finding
found cs unit l row k = finding_of cs (pulse_at (unit_of unit) l row k)

-- that of a row of a trace
abbrev pub found_in : EventRow → ℕ → Finding
found_in r = found (contracts_of (contracts_lent r.trace.aligned.lent.contracts)) r.trace.aligned.lent.unit (events_lent r.trace.aligned.lent.events) r.positions.now

-- and all of them
abbrev pub findings_in : EventRow → List Finding
findings_in r = map (found_in r) (window_places (events_lent r.trace.aligned.lent.events) r.positions.now (length r.positions.now))

-- the number lists of list 9 have room for n entries from a place on
pub record FindingRoom (start n : ℕ) (o : FindingLists) : Type 0 where
  pub components_room : start + n ≤ length o.components
  pub polarities_room : start + n ≤ length o.polarities
  pub units_room : start + n ≤ length o.units
  pub start_ticks_room : start + n ≤ length o.start_ticks
  pub end_ticks_room : start + n ≤ length o.end_ticks
  pub widths_room : start + n ≤ length o.widths
  pub steady_room : start + n ≤ length o.steady
  pub baselines_room : start + n ≤ length o.baselines
  pub starts_room : start + n ≤ length o.starts
  pub ends_room : start + n ≤ length o.ends
  pub verdicts_room : start + n ≤ length o.verdicts
  pub rationales_room : start + n ≤ length o.rationales

-- a pulse was written to a place of each number list but those for what is judged of it
pub record PulseWritten (at : ℕ) (p : Pulse) (old new : FindingLists) : Type 0 where
  pub components_set : new.components ≡ slice_set old.components at p.component
  pub polarities_set : new.polarities ≡ slice_set old.polarities at (polarity_code p.polarity)
  pub units_set : new.units ≡ slice_set old.units at (unit_code p.unit)
  pub start_ticks_set : new.start_ticks ≡ slice_set old.start_ticks at p.start_tick
  pub end_ticks_set : new.end_ticks ≡ slice_set old.end_ticks at p.end_tick
  pub widths_set : new.widths ≡ slice_set old.widths at p.width
  pub steady_set : new.steady ≡ slice_set old.steady at (cond p.steady 1 0)
  pub baselines_set : new.baselines ≡ slice_set old.baselines at p.baseline_event
  pub starts_set : new.starts ≡ slice_set old.starts at p.start_event
  pub ends_set : new.ends ≡ slice_set old.ends at p.end_event
  pub verdicts_kept : new.verdicts ≡ old.verdicts
  pub rationales_kept : new.rationales ≡ old.rationales

-- what is judged of it was written to a place of the two others
pub record JudgementWritten (at verdict rationale : ℕ) (old new : FindingLists) : Type 0 where
  pub verdicts_set : new.verdicts ≡ slice_set old.verdicts at verdict
  pub rationales_set : new.rationales ≡ slice_set old.rationales at rationale
  pub components_kept : new.components ≡ old.components
  pub polarities_kept : new.polarities ≡ old.polarities
  pub units_kept : new.units ≡ old.units
  pub start_ticks_kept : new.start_ticks ≡ old.start_ticks
  pub end_ticks_kept : new.end_ticks ≡ old.end_ticks
  pub widths_kept : new.widths ≡ old.widths
  pub steady_kept : new.steady ≡ old.steady
  pub baselines_kept : new.baselines ≡ old.baselines
  pub starts_kept : new.starts ≡ old.starts
  pub ends_kept : new.ends ≡ old.ends

-- what these number lists hold after the pulses of findings were written
pub record PulsesListed (left : List ℕ → List ℕ → List ℕ) (fs : List Finding) (old new : FindingLists) : Type 0 where
  pub components_listed : new.components ≡ left old.components (map finding_component fs)
  pub polarities_listed : new.polarities ≡ left old.polarities (map finding_polarity fs)
  pub units_listed : new.units ≡ left old.units (map finding_unit fs)
  pub start_ticks_listed : new.start_ticks ≡ left old.start_ticks (map finding_start_tick fs)
  pub end_ticks_listed : new.end_ticks ≡ left old.end_ticks (map finding_end_tick fs)
  pub widths_listed : new.widths ≡ left old.widths (map finding_width fs)
  pub steady_listed : new.steady ≡ left old.steady (map finding_steady fs)
  pub baselines_listed : new.baselines ≡ left old.baselines (map finding_baseline fs)
  pub starts_listed : new.starts ≡ left old.starts (map finding_start fs)
  pub ends_listed : new.ends ≡ left old.ends (map finding_end fs)
  pub verdicts_kept : new.verdicts ≡ old.verdicts
  pub rationales_kept : new.rationales ≡ old.rationales

-- those by which a pulse is judged stand there from a place on
pub record PulsesHeld (start : ℕ) (fs : List Finding) (o : FindingLists) : Type 0 where
  pub components_held : (j : ℕ) → j < length fs → slice_index o.components (start + j) ≡ slice_index (map finding_component fs) j
  pub polarities_held : (j : ℕ) → j < length fs → slice_index o.polarities (start + j) ≡ slice_index (map finding_polarity fs) j
  pub widths_held : (j : ℕ) → j < length fs → slice_index o.widths (start + j) ≡ slice_index (map finding_width fs) j

-- what the two others hold after what is judged of findings was written
pub record JudgementsListed (left : List ℕ → List ℕ → List ℕ) (fs : List Finding) (old new : FindingLists) : Type 0 where
  pub verdicts_listed : new.verdicts ≡ left old.verdicts (map finding_verdict fs)
  pub rationales_listed : new.rationales ≡ left old.rationales (map finding_rationale fs)
  pub components_kept : new.components ≡ old.components
  pub polarities_kept : new.polarities ≡ old.polarities
  pub units_kept : new.units ≡ old.units
  pub start_ticks_kept : new.start_ticks ≡ old.start_ticks
  pub end_ticks_kept : new.end_ticks ≡ old.end_ticks
  pub widths_kept : new.widths ≡ old.widths
  pub steady_kept : new.steady ≡ old.steady
  pub baselines_kept : new.baselines ≡ old.baselines
  pub starts_kept : new.starts ≡ old.starts
  pub ends_kept : new.ends ≡ old.ends
