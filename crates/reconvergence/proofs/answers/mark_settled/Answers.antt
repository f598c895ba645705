-- `mark_settled` marks the nodes with no edge left. Assumes nothing.
use mathlib.Core.Path.{sym, ◌∙◌}
use Rattle.rules.proofs.Filling.{filling-none}
use Rattle.reconvergence.proofs.Listing.{marks-length, mark-more}
use Rattle.reconvergence.proofs.answers.mark_settled.Goals as goal

pub loop-v-init : goal.loop-v-init
loop-v-init c = filling-none _ _ (c.requires ∙ sym (marks-length _))

pub loop-v-preserved : goal.loop-v-preserved
loop-v-preserved c = rw c.from.ensures (mark-more _ _ _ c.loop-v.invariant c.loop-v-test.true)
