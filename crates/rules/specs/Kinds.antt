-- The kind table. Assumes nothing: these are definitions.
use Rattle.std.specs.Prelude.{Option, Some, None, Bool, true, false, cond, List, [], ◌∷◌, ℕ, ltb, get_or}
use Rattle.rules.specs.declared.kinds.TemporalNodeKind.TheVariants.{Source, Wire, Inverter, Delay, Comparator, Actuator, Conductor}
use Rattle.rules.specs.declared.kinds.EdgeBehavior.{EdgeBehavior}
use Rattle.rules.specs.declared.kinds.TemporalSemantics.{TemporalSemantics}
use Rattle.rules.specs.declared.kinds.KindDelay.{KindDelay}
use Rattle.rules.specs.declared.kinds.KindDelay.TheVariants.{Fixed, Own}
use Rattle.rules.specs.declared.kinds.KindRow.{KindRow}
use Rattle.rules.specs.declared.kinds.EdgeTiming.{EdgeTiming}

-- the rows of the table: Code | Kind | Node | Delay | Edge behaviour, and for "Kinds 9 to 12 are devices" what they mean
abbrev pub conductor : KindRow
conductor = record { node = Conductor; delay = Fixed 0; behavior = EdgeBehavior.Immediate; meaning = None }

abbrev pub source : KindRow
source = record { node = Source; delay = Fixed 0; behavior = EdgeBehavior.Immediate; meaning = None }

abbrev pub wire : KindRow
wire = record { node = Wire; delay = Fixed 0; behavior = EdgeBehavior.OrderSensitive; meaning = None }

abbrev pub torch : KindRow
torch = record { node = Inverter; delay = Fixed 1; behavior = EdgeBehavior.DelayedInvert; meaning = Some TemporalSemantics.DelayedInvert }

-- "own; absent 1"
abbrev pub repeater : KindRow
repeater = record { node = Delay; delay = Own 1; behavior = EdgeBehavior.DelayedForward; meaning = Some TemporalSemantics.DelayedForward }

abbrev pub comparator : KindRow
comparator = record { node = Comparator; delay = Fixed 0; behavior = EdgeBehavior.Analog; meaning = Some TemporalSemantics.CompareOrSubtract }

abbrev pub piston : KindRow
piston = record { node = Actuator; delay = Fixed 1; behavior = EdgeBehavior.Mechanical; meaning = Some TemporalSemantics.MechanicalActuation }

-- the codes of three kinds that the reasons name
abbrev pub repeater_code : ℕ
repeater_code = 10

abbrev pub comparator_code : ℕ
comparator_code = 11

abbrev pub piston_code : ℕ
piston_code = 12

-- by code: Air, Solid, Transparent, Lever, Button, PressurePlate, RedstoneLamp, RedstoneBlock, RedstoneWire, RedstoneTorch, Repeater, Comparator, Piston
abbrev pub kind_table : List KindRow
kind_table =
    conductor ∷ conductor ∷ conductor ∷ source ∷ source ∷ source ∷ conductor ∷ source ∷ wire ∷ torch ∷ repeater ∷ comparator ∷ piston ∷ []

-- the row of a code; refusal 4 keeps codes past the table out, and they are given Air's
unfoldable pub kind_row : ℕ → KindRow
kind_row code = get_or kind_table code conductor

-- "a delay word (0 to 255, or 256 for absent)"
unfoldable pub delay_by : KindDelay → ℕ → ℕ
delay_by (Fixed ticks) word = ticks
delay_by (Own absent) word = cond (ltb word 256) word absent

-- the delay by kind code and delay word
unfoldable pub component_delay : ℕ → ℕ → ℕ
component_delay code word = delay_by (kind_row code).delay word

-- "An edge takes its source's delay", and its source's edge behaviour
abbrev pub edge_timing : ℕ → ℕ → EdgeTiming
edge_timing code word =
    record {
      delay = record { minimum_redstone_ticks = component_delay code word; maximum_redstone_ticks = component_delay code word };
      behavior = (kind_row code).behavior;
    }

-- "Kinds 9 to 12 are devices"
unfoldable pub is_device : KindRow → Bool
is_device row = meant row.meaning
  where
    meant : Option TemporalSemantics → Bool
    meant None = false
    meant (Some s) = true
