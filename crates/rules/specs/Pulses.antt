-- Recorded events and the pulses in them. Assumes nothing: these are definitions.
use Rattle.std.specs.Prelude.{Bool, not, cond, ◌&&◌, ◌≡◌, ℕ, ◌-◌, eqb, ltb, length, get_or}
use mathlib.Core.List.{List, [], ◌∷◌, map, flat_map}
use Rattle.rules.specs.Lists.{keep, indices, rising, once}
use Rattle.rules.specs.declared.transient.PulsePolarity.{PulsePolarity}
use Rattle.rules.specs.declared.transient.PulsePolarity.TheVariants.{High, Low}
use Rattle.rules.specs.declared.transient.TraceTimeUnit.{TraceTimeUnit}

-- "An event is tick (64 bits), component, powered (0, 1)." Its index is its place in the trace
pub record Event : Type 0 where
  pub index : ℕ
  pub tick : ℕ
  pub component : ℕ
  pub powered : ℕ

-- the lists by which events are lent: one for each field
pub record EventLists : Type 0 where
  pub ticks : List ℕ
  pub components : List ℕ
  pub powered : List ℕ

-- these lists, one by one in the order of the fields
abbrev pub event_lists : (ticks components powered : List ℕ) → EventLists
event_lists ticks components powered = record { ticks = ticks; components = components; powered = powered }

-- the lists have one length
pub record EventsAligned (l : EventLists) : Type 0 where
  pub components_length : length l.components ≡ length l.ticks
  pub powered_length : length l.powered ≡ length l.ticks

unfoldable pub event_at : EventLists → ℕ → Event
event_at l i = record { index = i; tick = get_or l.ticks i 0; component = get_or l.components i 0; powered = get_or l.powered i 0 }

unfoldable pub events_of : EventLists → List Event
events_of l = map (event_at l) (indices (length l.ticks))

-- a level is powered, or not
abbrev pub is_powered : ℕ → Bool
is_powered level = ltb 0 level

abbrev pub agree : Bool → Bool → Bool
agree a b = cond a b (not b)

-- "each three successive events of it make a pulse if first and third agree, the second differs, and third tick > second tick"
unfoldable pub is_pulse : Event → Event → Event → Bool
is_pulse first second third =
    agree (is_powered first.powered) (is_powered third.powered) && (not (agree (is_powered first.powered) (is_powered second.powered)) && ltb second.tick third.tick)

pub record Pulse : Type 0 where
  pub component : ℕ
  pub polarity : PulsePolarity
  pub unit : TraceTimeUnit
  pub start_tick : ℕ
  pub end_tick : ℕ
  pub width : ℕ
  pub steady : Bool
  pub baseline_event : ℕ
  pub start_event : ℕ
  pub end_event : ℕ

-- "Width is that difference; polarity High (0) if the second is powered, else Low (1)."
unfoldable pub pulse_of : TraceTimeUnit → Event → Event → Event → Pulse
pulse_of unit first second third =
    record {
      component = second.component;
      polarity = cond (is_powered second.powered) High Low;
      unit = unit;
      start_tick = second.tick;
      end_tick = third.tick;
      width = third.tick - second.tick;
      steady = is_powered first.powered;
      baseline_event = first.index;
      start_event = second.index;
      end_event = third.index;
    }

-- the pulses among the events of one component
unfoldable pub pulses_in : TraceTimeUnit → List Event → List Pulse
pulses_in unit [] = []
pulses_in unit (a ∷ []) = []
pulses_in unit (a ∷ b ∷ []) = []
pulses_in unit (a ∷ b ∷ c ∷ es) =
    let r = pulses_in unit (b ∷ c ∷ es) in
    cond (is_pulse a b c) (pulse_of unit a b c ∷ r) r

abbrev pub of_component : ℕ → Event → Bool
of_component v e = eqb e.component v

-- "By rising component": each component that has events, once
unfoldable pub event_components : List Event → List ℕ
event_components es = once (rising (map (λ e. e.component) es))

unfoldable pub pulses : TraceTimeUnit → List Event → List Pulse
pulses unit es = flat_map (λ v. pulses_in unit (keep (of_component v) es)) (event_components es)
