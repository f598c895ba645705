-- Delays and their addition. Assumes nothing: these are definitions.
use Rattle.std.specs.Prelude.{ℕ, ◌+◌, min}
use Rattle.rules.specs.declared.delay.DelayRange.{DelayRange}

-- the largest number of 32 bits, at which sums stop
abbrev pub cap : ℕ
cap = 4294967295

-- "saturating addition as in the Rust library's documentation": it stops at the type's largest value instead of overflowing
unfoldable pub saturating_add : ℕ → ℕ → ℕ
saturating_add a b = min cap (a + b)

-- "`DelayRange` keeps its zero and its saturating addition on the type"
abbrev pub zero_range : DelayRange
zero_range = record { minimum_redstone_ticks = 0; maximum_redstone_ticks = 0 }

abbrev pub add_range : DelayRange → DelayRange → DelayRange
add_range a b =
    record {
      minimum_redstone_ticks = saturating_add a.minimum_redstone_ticks b.minimum_redstone_ticks;
      maximum_redstone_ticks = saturating_add a.maximum_redstone_ticks b.maximum_redstone_ticks;
    }
