-- `collect` marks and groups what it reaches. The measure is the number of nodes not seen. Assumes nothing.
use mathlib.Core.Path.{◌≡◌}
use lib.ListN.{get_or}
use Rattle.graph.specs.Visits.{unseen}
use Rattle.graph.proofs.GroupSteps.{Gathering}
use Rattle.graph.proofs.collect.+collect.Given as goal

abbrev pub decreases-collect : goal.decreases-collect
decreases-collect l = unseen l.marks.now

abbrev pub invariant-loop-e : goal.invariant-loop-e
invariant-loop-e l =
    (l.e-iterator.next.now ≡ l.links.next.now)
    × Gathering l.links.head.now l.links.next.now l.links.ends.now l.initial.marks l.initial.group l.root (get_or l.links.head.now l.u 0) l.marks l.group l.e-iterator.at
