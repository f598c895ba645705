-- The lists fit, so the reasons are found. Assumes nothing.
use Rattle.std.proofs.Common.{refl}
use Rattle.reasons.proofs.Fitting.{assessable-fits}
use Rattle.reasons.proofs.Promises.{fitting-reasons}
use Rattle.assess.proofs.assess.reason_scene.Goals as goal

pub unwrap-requires : goal.unwrap-requires
unwrap-requires c = let f = fitting-reasons c.assess_reasons.ensures.assessed (assessable-fits _ _ _ _ c.requires.0 _ _ _ c.requires.1) in rw f.1 refl
