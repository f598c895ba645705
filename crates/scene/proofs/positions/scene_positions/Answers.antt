-- The scene is placed where the lists lent have room, and its positions are handed on. Assumes nothing.
use mathlib.Core.Path.{sym, refl, ◌∙◌}
use Rattle.scene.proofs.PositionSteps.{fitting-room, placed-fits, given-accepted}
use Rattle.scene.proofs.positions.scene_positions.Goals as goal

pub hand_on-requires : goal.hand_on-requires
hand_on-requires c = placed-fits _ _ _ _ c.in_ok-placed.ensures _ (fitting-room _ (sym c.positions_fit.ensures ∙ c.if-not-positions_fit.false))

pub returns-clause-positioned : goal.returns-clause-positioned
returns-clause-positioned c = record {
  indexed = λ h. (_, refl, given-accepted _ _ _ _ c.in_ok-placed.ensures _ _ c.hand_on.ensures.order c.hand_on.ensures.starts c.hand_on.ensures.stops);
  untested = λ h. absurd (cc (h, c.positions_fit.ensures, c.if-not-positions_fit.false));
}
