-- Assumes nothing.
use lib.ListN.{length}
use Rattle.reasons.proofs.ListingSteps.{marks-shared}
use Rattle.reasons.proofs.feedback.mark_positions.Goals as goal

pub returns : goal.returns
returns c = marks-shared c.args.edges.now.sources.now c.args.edges.now.sinks.now (length c.args.marks.now) c.requires _ _ _ c.mark_shared_components.ensures.marked.answer c.mark_shared_components.ensures.marked.marked
