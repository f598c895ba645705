-- `list_unequal` lists the nodes of order that pass. Assumes nothing.
use Rattle.reconvergence.specs.Pass.{differs_at}
use Rattle.reconvergence.proofs.Listing.{ListedTo}
use Rattle.reconvergence.proofs.answers.list_unequal.Given as goal

abbrev pub invariant-loop-v : goal.invariant-loop-v
invariant-loop-v l = ListedTo (differs_at l.incoming l.sums.smallest.now l.sums.largest.now) l.order l.initial.unequal l.unequal l.count l.v-index
