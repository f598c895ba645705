-- `visit_order` visits the nodes in turn. Assumes nothing.
use Rattle.rules.specs.Lists.{indices}
use Rattle.graph.specs.Visits.{VisitedAlong}
use Rattle.graph.proofs.visit_order.visit_order.Given as goal

abbrev pub invariant-loop-u : goal.invariant-loop-u
invariant-loop-u l = VisitedAlong l.links (indices l.u) l.initial.marks l.initial.order 0 l.marks l.order l.count
