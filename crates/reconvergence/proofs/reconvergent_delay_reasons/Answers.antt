-- `reconvergent_delay_reasons` tests the lists. Assumes nothing.
use mathlib.Core.Path.{sym, ◌∙◌}
use Rattle.reconvergence.proofs.Fitting.{fitted, sized}
use Rattle.reconvergence.proofs.reconvergent_delay_reasons.Goals as goal

pub find_unequal-requires : goal.find_unequal-requires
find_unequal-requires c = sized (fitted _ _ _ _ _ _ _ _ _ _ _ _ _ _ (sym c.reconvergence_fits.ensures ∙ c.if-reconvergence_fits.true))
