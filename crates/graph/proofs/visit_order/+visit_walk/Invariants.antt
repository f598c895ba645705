-- `visit` and `walk` visit nodes depth-first. The measure is of the unseen nodes and of the edges left of a walk's chain. Assumes nothing.
use mathlib.Core.Path.{◌≡◌}
use lib.ListN.{length}
use Rattle.graph.specs.Adjacency.{edges_left}
use Rattle.graph.specs.Visits.{unseen, visits_left}
use Rattle.graph.proofs.OrderSteps.{Walking}
use Rattle.graph.proofs.visit_order.+visit_walk.Given as goal

abbrev pub decreases-visit : goal.decreases-visit
decreases-visit l = visits_left (unseen l.marks.now) (length l.links.now.next.now) 0

abbrev pub decreases-walk : goal.decreases-walk
decreases-walk l = visits_left (unseen l.marks.now) (length l.links.now.next.now) (edges_left l.links.now.next.now l.first)

abbrev pub invariant-walk-loop-e : goal.invariant-walk-loop-e
invariant-walk-loop-e l =
    (l.e-iterator.next.now ≡ l.links.next.now)
    × Walking l.links.head.now l.links.next.now l.links.ends.now l.initial.marks l.initial.order l.count l.first l.marks l.order l.done l.e-iterator.at
