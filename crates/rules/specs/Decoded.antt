-- What a code stands for, read from its byte: the value whose number it is, or that it names nothing. Assumes nothing: these are definitions.
use Rattle.std.specs.Prelude.{List, [], ◌∷◌, Option, Some, None, Result, Ok, Err, ◌≡◌, ℕ, map, get_or}
use Rattle.rules.specs.declared.kinds.UnknownCode.{UnknownCode}
use Rattle.rules.specs.declared.kinds.BlockKind.{BlockKind}
use Rattle.rules.specs.declared.kinds.BlockKind.TheVariants.{Air, Solid, Transparent, Lever, Button, PressurePlate, RedstoneLamp, RedstoneBlock, RedstoneWire, RedstoneTorch, Repeater, Comparator, Piston}
use Rattle.rules.specs.declared.kinds.TransferKind.{TransferKind}
use Rattle.rules.specs.declared.kinds.TransferKind.TheVariants.{DustPropagation, DirectSignal, WeakPower, StrongPower, DirectionalDevice, SideControl, StructuralSupport}
use Rattle.rules.specs.declared.transient.PulsePolarity.{PulsePolarity}
use Rattle.rules.specs.declared.transient.PulsePolarity.TheVariants.{High, Low}
use Rattle.rules.specs.declared.transient.TraceTimeUnit.{TraceTimeUnit}
use Rattle.rules.specs.declared.transient.TraceTimeUnit.TheVariants.{RedstoneTick, GameTick}
use Rattle.rules.specs.declared.transient.IntentKind.{IntentKind}
use Rattle.rules.specs.declared.transient.IntentKind.TheVariants as Intent
use Rattle.rules.specs.declared.answers.ReasonKind.{ReasonKind}
use Rattle.rules.specs.declared.answers.ReasonKind.TheVariants as Why

-- the value at a code in the row of all of them
module _ {A : Type 0} where
  abbrev pub named : List A → ℕ → Option A
  named values code = get_or (map Some values) code None

  abbrev pub Reads : List A → ℕ → Result A UnknownCode → Type 0
  Reads values code (Ok value) = named values code ≡ Some value
  Reads values code (Err e) = named values code ≡ None

-- "Air, Solid, Transparent, Lever, Button, PressurePlate, RedstoneLamp, RedstoneBlock, RedstoneWire, RedstoneTorch, Repeater, Comparator, Piston"
abbrev pub block_kinds : List BlockKind
block_kinds =
    Air ∷ Solid ∷ Transparent ∷ Lever ∷ Button ∷ PressurePlate ∷ RedstoneLamp ∷ RedstoneBlock ∷ RedstoneWire ∷ RedstoneTorch ∷ Repeater
    ∷ Comparator ∷ Piston ∷ []

abbrev pub ReadsKind : ℕ → Result BlockKind UnknownCode → Type 0
ReadsKind = Reads block_kinds

-- "a transfer code: 0 DustPropagation, 1 DirectSignal, 2 WeakPower, 3 StrongPower, 4 DirectionalDevice, 5 SideControl, 6 StructuralSupport"
abbrev pub transfers : List TransferKind
transfers = DustPropagation ∷ DirectSignal ∷ WeakPower ∷ StrongPower ∷ DirectionalDevice ∷ SideControl ∷ StructuralSupport ∷ []

abbrev pub ReadsTransfer : ℕ → Result TransferKind UnknownCode → Type 0
ReadsTransfer = Reads transfers

abbrev pub ReadsPolarity : ℕ → Result PulsePolarity UnknownCode → Type 0
ReadsPolarity = Reads (High ∷ Low ∷ [])

abbrev pub ReadsUnit : ℕ → Result TraceTimeUnit UnknownCode → Type 0
ReadsUnit = Reads (RedstoneTick ∷ GameTick ∷ [])

-- "Intents and what they use: 0 SteadyStateOnly, 1 Stable (powered), 2 IntentionalPulse (polarity, unit, both widths), 3 MaximumPulseWidth"
abbrev pub ReadsIntent : ℕ → Result IntentKind UnknownCode → Type 0
ReadsIntent = Reads (Intent.SteadyStateOnly ∷ Intent.Stable ∷ Intent.IntentionalPulse ∷ Intent.MaximumPulseWidth ∷ [])

abbrev pub ReadsReasonKind : ℕ → Result ReasonKind UnknownCode → Type 0
ReadsReasonKind = Reads (Why.UnequalReconvergentDelay ∷ Why.FeedbackLoop ∷ Why.StatefulOrMechanicalDevice ∷ Why.LockedRepeater ∷ [])
