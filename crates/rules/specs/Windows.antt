-- Pulses by windows: three successive places of a row of event positions. Assumes nothing: these are definitions.
use Rattle.std.specs.Prelude.{Bool, ◌&&◌, List, ℕ, ◌+◌, ◌-◌, eqb, get_or}
use Rattle.rules.specs.Lists.{keep, indices}
use Rattle.rules.specs.Pulses.{Event, EventLists, event_at, is_pulse, Pulse, pulse_of}
use Rattle.rules.specs.declared.transient.TraceTimeUnit.{TraceTimeUnit}

-- the event at a place of the row
abbrev pub event_in : EventLists → List ℕ → ℕ → Event
event_in l row k = event_at l (get_or row k 0)

-- the events at a place and the two after it make a pulse: the first and the third are of one component, and so is the second
-- where components rise along the row
unfoldable pub window_pulse : EventLists → List ℕ → ℕ → Bool
window_pulse l row k = eqb (event_in l row k).component (event_in l row (k + 2)).component && is_pulse (event_in l row k) (event_in l row (k + 1)) (event_in l row (k + 2))

-- the places at which a pulse begins, of a row of n positions
unfoldable pub window_places : EventLists → List ℕ → ℕ → List ℕ
window_places l row n = keep (window_pulse l row) (indices (n - 2))

-- the pulse that begins at a place
unfoldable pub pulse_at : TraceTimeUnit → EventLists → List ℕ → ℕ → Pulse
pulse_at unit l row k = pulse_of unit (event_in l row k) (event_in l row (k + 1)) (event_in l row (k + 2))
