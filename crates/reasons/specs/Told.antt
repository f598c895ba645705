-- The reason that a value of the code stands for. Assumes nothing: these are definitions.
use Rattle.rules.specs.Reasons.{unequal_reconvergent_delay, feedback_loop, stateful_or_mechanical_device, locked_repeater}
use Rattle.rules.specs.Reasons as rules
use Rattle.reasons.specs.declared.rows.Reason.{Reason}
use Rattle.reasons.specs.declared.rows.Reason.TheVariants.{UnequalReconvergentDelay, FeedbackLoop, StatefulOrMechanicalDevice, LockedRepeater}

abbrev pub told : Reason → rules.Reason
told (UnequalReconvergentDelay component minimum maximum) = unequal_reconvergent_delay component minimum maximum
told FeedbackLoop = feedback_loop
told (StatefulOrMechanicalDevice component block) = stateful_or_mechanical_device component block
told (LockedRepeater component) = locked_repeater component
