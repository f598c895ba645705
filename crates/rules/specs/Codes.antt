-- "Enum values become numbers from 0 in the Rust's order, block kinds by the kind table". Assumes nothing: these are definitions.
use Rattle.std.specs.Prelude.{cond, ℕ, ◌+◌, eqb}
use Rattle.rules.specs.declared.answers.RefusalKind.{RefusalKind}
use Rattle.rules.specs.declared.answers.RefusalKind.TheVariants as Kind
use Rattle.rules.specs.declared.kinds.EdgeBehavior.{EdgeBehavior}
use Rattle.rules.specs.declared.kinds.EdgeBehavior.TheVariants.{Immediate, DelayedForward, DelayedInvert, Analog, Mechanical, OrderSensitive}
use Rattle.rules.specs.declared.kinds.TemporalSemantics.{TemporalSemantics}
use Rattle.rules.specs.declared.kinds.TemporalSemantics.TheVariants as Semantics
use Rattle.rules.specs.declared.answers.ReasonKind.{ReasonKind}
use Rattle.rules.specs.declared.answers.ReasonKind.TheVariants as Reason
use Rattle.rules.specs.declared.answers.TemporalScope.{TemporalScope}
use Rattle.rules.specs.declared.answers.TemporalScope.TheVariants.{SteadyStateSafe, TimingSensitive, TemporalRequired}
use Rattle.rules.specs.declared.answers.BehaviorPattern.{BehaviorPattern}
use Rattle.rules.specs.declared.answers.BehaviorPattern.TheVariants.{DelayedPath, ClockCandidate, LatchCandidate, Nothing}
use Rattle.rules.specs.declared.transient.PulsePolarity.{PulsePolarity}
use Rattle.rules.specs.declared.transient.PulsePolarity.TheVariants.{High, Low}
use Rattle.rules.specs.declared.transient.TraceTimeUnit.{TraceTimeUnit}
use Rattle.rules.specs.declared.transient.TraceTimeUnit.TheVariants.{RedstoneTick, GameTick}
use Rattle.rules.specs.declared.transient.Rationale.{Rationale}
use Rattle.rules.specs.declared.transient.Rationale.TheVariants as Why
use Rattle.rules.specs.declared.transient.TransientVerdict.{TransientVerdict}
use Rattle.rules.specs.declared.transient.TransientVerdict.TheVariants.{PulseObserved, TransientDeviation, HazardCandidate, HazardConfirmed, IntentionalPulse}

abbrev pub behavior_code : EdgeBehavior → ℕ
behavior_code Immediate = 0
behavior_code DelayedForward = 1
behavior_code DelayedInvert = 2
behavior_code Analog = 3
behavior_code Mechanical = 4
behavior_code OrderSensitive = 5

abbrev pub semantics_code : TemporalSemantics → ℕ
semantics_code Semantics.DelayedForward = 0
semantics_code Semantics.DelayedInvert = 1
semantics_code Semantics.CompareOrSubtract = 2
semantics_code Semantics.MechanicalActuation = 3

abbrev pub scope_code : TemporalScope → ℕ
scope_code SteadyStateSafe = 0
scope_code TimingSensitive = 1
scope_code TemporalRequired = 2

-- the Rust lists one pattern or none; "nothing" is given the number after the last
abbrev pub pattern_code : BehaviorPattern → ℕ
pattern_code DelayedPath = 0
pattern_code ClockCandidate = 1
pattern_code LatchCandidate = 2
pattern_code Nothing = 3

-- "polarity High (0) if the second is powered, else Low (1)"
abbrev pub polarity_code : PulsePolarity → ℕ
polarity_code High = 0
polarity_code Low = 1

abbrev pub polarity_of : ℕ → PulsePolarity
polarity_of code = cond (eqb code 0) High Low

-- "Units: 0 RedstoneTick, 1 GameTick."
abbrev pub unit_code : TraceTimeUnit → ℕ
unit_code RedstoneTick = 0
unit_code GameTick = 1

abbrev pub unit_of : ℕ → TraceTimeUnit
unit_of code = cond (eqb code 0) RedstoneTick GameTick

abbrev pub verdict_code : TransientVerdict → ℕ
verdict_code PulseObserved = 0
verdict_code TransientDeviation = 1
verdict_code HazardCandidate = 2
verdict_code HazardConfirmed = 3
verdict_code IntentionalPulse = 4

-- "The ten rationale texts become codes 0 to 9 in `classify`'s order, Stable's four by wanted level (0 first), then polarity."
abbrev pub rationale_code : Rationale → ℕ
rationale_code Why.NoIntent = 0
rationale_code Why.SteadyStateOnly = 1
rationale_code (Why.Stable wanted polarity) = 2 + (cond wanted 2 0 + polarity_code polarity)
rationale_code Why.PulseFits = 6
rationale_code Why.PulseDiffers = 7
rationale_code Why.WithinTolerance = 8
rationale_code Why.PastTolerance = 9

-- the kinds of list 3, in the order of the Rust's reasons
abbrev pub reason_kind_code : ReasonKind → ℕ
reason_kind_code Reason.UnequalReconvergentDelay = 0
reason_kind_code Reason.FeedbackLoop = 1
reason_kind_code Reason.StatefulOrMechanicalDevice = 2
reason_kind_code Reason.LockedRepeater = 3

-- the numbers of the table of refusals: Number | Condition | Place
abbrev pub refusal_code : RefusalKind → ℕ
refusal_code Kind.TooManyComponents = 1
refusal_code Kind.TooManyConnections = 2
refusal_code Kind.IdUsedEarlier = 3
refusal_code Kind.ComponentOutOfRange = 4
refusal_code Kind.TransferOutOfRange = 5
refusal_code Kind.EndMissing = 6
refusal_code Kind.ListTooShort = 7
refusal_code Kind.LengthsDiffer = 8
refusal_code Kind.TooManyEvents = 9
refusal_code Kind.TooManyContracts = 10
refusal_code Kind.TraceOutOfRange = 11
refusal_code Kind.ContractsNotRising = 12
refusal_code Kind.RecordFull = 13
refusal_code Kind.TextNotInForm = 14
refusal_code Kind.RecordFalse = 15
