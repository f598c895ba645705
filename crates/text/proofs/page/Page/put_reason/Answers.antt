-- Each kind of reason has its line. Assumes nothing.
use Rattle.std.proofs.Common.{sym, ◌∙◌}
use Rattle.text.proofs.PutSteps.{room_first, room_next, put_next}
use Rattle.text.proofs.ReportSteps.{reason_unequal, reason_feedback, reason_stateful, reason_locked}
use Rattle.text.proofs.page.Page.put_reason.Goals as goal

pub put_named-requires : goal.put_named-requires
put_named-requires c = room_first _ _ _ (rw (reason_unequal _ _ _ _ _ _ c.try_from.result c.try_from.ensures (sym c.in-UnequalReconvergentDelay.is ∙ c.unwrap_or-kind.ensures)) at c.requires.room)

pub put_named-requires-in-UnequalReconvergentDelay : goal.put_named-requires-in-UnequalReconvergentDelay
put_named-requires-in-UnequalReconvergentDelay c =
    room_first _ _ _ (room_next c.put_named.ensures _ (rw (reason_unequal _ _ _ _ _ _ c.try_from.result c.try_from.ensures (sym c.in-UnequalReconvergentDelay.is ∙ c.unwrap_or-kind.ensures)) at c.requires.room))

pub put_line-requires : goal.put_line-requires
put_line-requires c =
    room_next c.put_named-in-UnequalReconvergentDelay.ensures _ (room_next c.put_named.ensures _ (rw (reason_unequal _ _ _ _ _ _ c.try_from.result c.try_from.ensures (sym c.in-UnequalReconvergentDelay.is ∙ c.unwrap_or-kind.ensures)) at c.requires.room))

pub returns-in-UnequalReconvergentDelay : goal.returns-in-UnequalReconvergentDelay
returns-in-UnequalReconvergentDelay c =
    rw (reason_unequal _ _ _ _ _ _ c.try_from.result c.try_from.ensures (sym c.in-UnequalReconvergentDelay.is ∙ c.unwrap_or-kind.ensures))
    (put_next c.put_named.ensures (put_next c.put_named-in-UnequalReconvergentDelay.ensures c.put_line.ensures))

pub put_ids_line-requires : goal.put_ids_line-requires
put_ids_line-requires c = rw (reason_feedback _ _ _ _ _ _ c.try_from.result c.try_from.ensures (sym c.in-FeedbackLoop.is ∙ c.unwrap_or-kind.ensures)) at c.requires.room

pub returns-in-FeedbackLoop : goal.returns-in-FeedbackLoop
returns-in-FeedbackLoop c = rw (reason_feedback _ _ _ _ _ _ c.try_from.result c.try_from.ensures (sym c.in-FeedbackLoop.is ∙ c.unwrap_or-kind.ensures)) c.put_ids_line.ensures

pub put_line-requires-in-StatefulOrMechanicalDevice : goal.put_line-requires-in-StatefulOrMechanicalDevice
put_line-requires-in-StatefulOrMechanicalDevice c = rw (reason_stateful _ _ _ _ _ _ c.try_from.result c.try_from.ensures (sym c.in-StatefulOrMechanicalDevice.is ∙ c.unwrap_or-kind.ensures)) at c.requires.room

pub returns-in-StatefulOrMechanicalDevice : goal.returns-in-StatefulOrMechanicalDevice
returns-in-StatefulOrMechanicalDevice c =
    rw (reason_stateful _ _ _ _ _ _ c.try_from.result c.try_from.ensures (sym c.in-StatefulOrMechanicalDevice.is ∙ c.unwrap_or-kind.ensures)) c.put_line-in-StatefulOrMechanicalDevice.ensures

pub put_line-requires-in-LockedRepeater : goal.put_line-requires-in-LockedRepeater
put_line-requires-in-LockedRepeater c = rw (reason_locked _ _ _ _ _ _ c.try_from.result c.try_from.ensures (sym c.in-LockedRepeater.is ∙ c.unwrap_or-kind.ensures)) at c.requires.room

pub returns-in-LockedRepeater : goal.returns-in-LockedRepeater
returns-in-LockedRepeater c = rw (reason_locked _ _ _ _ _ _ c.try_from.result c.try_from.ensures (sym c.in-LockedRepeater.is ∙ c.unwrap_or-kind.ensures)) c.put_line-in-LockedRepeater.ensures
