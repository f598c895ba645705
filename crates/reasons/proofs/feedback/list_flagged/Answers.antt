-- Assumes nothing.
use mathlib.Core.Path.{sym, ap, ◌∙◌}
use lib.ListN.{length}
use Rattle.rules.specs.Lists.{written}
use Rattle.rules.proofs.Written.{written_none}
use Rattle.reasons.proofs.AllSettled.{all-unmarked, none-listed}
use Rattle.reasons.proofs.feedback.list_flagged.Goals as goal

pub returns-else-contains-clause-ids : goal.returns-else-contains-clause-ids
returns-else-contains-clause-ids c = sym (ap (written c.args.feedback_ids.now) (none-listed c.args.ids.now c.args.kinds.now c.args.edges.now.sources.now c.args.edges.now.sinks.now c.args.labels.now.settled.now c.args.marks.now c.requires.2 (sym c.contains.ensures.value ∙ c.if-contains.false)) ∙ written_none c.args.feedback_ids.now)

pub returns-else-contains-clause-counted : goal.returns-else-contains-clause-counted
returns-else-contains-clause-counted c = sym (ap length (none-listed c.args.ids.now c.args.kinds.now c.args.edges.now.sources.now c.args.edges.now.sinks.now c.args.labels.now.settled.now c.args.marks.now c.requires.2 (sym c.contains.ensures.value ∙ c.if-contains.false)))

pub returns-else-contains-clause-marked : goal.returns-else-contains-clause-marked
returns-else-contains-clause-marked c = all-unmarked c.args.ids.now c.args.kinds.now c.args.edges.now.sources.now c.args.edges.now.sinks.now c.args.labels.now.settled.now c.args.marks.now c.requires.2 (sym c.contains.ensures.value ∙ c.if-contains.false)
