-- Assumes nothing.
use lib.ListN.{length}
use Rattle.reasons.proofs.ListingSteps.{ListedBelow}
use Rattle.reasons.proofs.feedback.list_marked.Given as goal

abbrev pub invariant-loop-id : goal.invariant-loop-id
invariant-loop-id l = ListedBelow l.ids l.kinds l.marks l.initial.feedback_ids (length l.yielded) l.feedback_ids l.count
