-- Codes are read as the values whose numbers they are. Assumes nothing.
use Rattle.std.specs.Prelude.{Some}
use mathlib.Core.List.{[], ◌∷◌}
use mathlib.Core.Path.{◌≡◌, refl}
use lib.ListN.{length}
use Rattle.rules.specs.Codes.{polarity_code, unit_code}
use Rattle.rules.specs.Decoded.{named, block_kinds}
use Rattle.rules.specs.Kinds.{kind_table}
use Rattle.rules.specs.declared.transient.PulsePolarity.{PulsePolarity}
use Rattle.rules.specs.declared.transient.PulsePolarity.TheVariants.{High, Low}
use Rattle.rules.specs.declared.transient.TraceTimeUnit.{TraceTimeUnit}
use Rattle.rules.specs.declared.transient.TraceTimeUnit.TheVariants.{RedstoneTick, GameTick}

pub polarity-read : (p : PulsePolarity) → named (High ∷ Low ∷ []) (polarity_code p) ≡ Some p
polarity-read High = refl
polarity-read Low = refl

pub unit-read : (u : TraceTimeUnit) → named (RedstoneTick ∷ GameTick ∷ []) (unit_code u) ≡ Some u
unit-read RedstoneTick = refl
unit-read GameTick = refl

-- the kind table has a row for each block kind
pub kinds-tabled : length block_kinds ≡ length kind_table
kinds-tabled = refl
