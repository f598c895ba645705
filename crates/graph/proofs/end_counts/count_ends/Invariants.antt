-- `count_ends` counts the ends one by one. Assumes nothing.
use lib.ListN.{length}
use Rattle.graph.proofs.EndCounting.{Counting}
use Rattle.graph.proofs.end_counts.count_ends.Given as goal

abbrev pub invariant-loop-v : goal.invariant-loop-v
invariant-loop-v l = Counting l.ends (length l.initial.counts) l.counts l.v-index
