-- `list_leaving` lists the edges of one chain. Assumes nothing.
use mathlib.Core.Path.{◌≡◌}
use lib.ListN.{get_or}
use Rattle.projection.proofs.ListSteps.{Listing}
use Rattle.projection.proofs.first_edges.list_leaving.Given as goal

abbrev pub invariant-loop-e : goal.invariant-loop-e
invariant-loop-e l =
    (l.e-iterator.next.now ≡ l.links.next.now)
    × Listing l.links.next.now l.count (get_or l.links.head.now l.v 0) l.initial.list l.list l.place l.e-iterator.at
