-- `steady_state_projection` tests the lists and makes the passes. Assumes nothing.
use mathlib.Core.Path.{sym, ◌∙◌}
use Rattle.projection.proofs.FitSteps.{fitted}
use Rattle.projection.proofs.steady_state_projection.Goals as goal

pub project-requires : goal.project-requires
project-requires c = fitted _ _ _ _ (sym c.lists_fit.ensures ∙ c.if-not-lists_fit.false)
