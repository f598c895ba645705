-- One reason where something is listed. Assumes nothing.
use mathlib.Core.Path.{◌∙◌}
use Rattle.scene.proofs.SceneFeedback.{reasons-counted}
use Rattle.scene.proofs.feedback.feedback_reasons.Goals as goal

pub returns : goal.returns
returns c = λ ids e. c.from.ensures ∙ reasons-counted _ ids e
