-- `visit_order` visits the nodes in turn. Assumes nothing.
use native.Mathlib.Omega.{arith}
use Rattle.graph.proofs.OrderSteps.{ready-again, visited-start, visited-next}
use Rattle.graph.proofs.visit_order.visit_order.Goals as goal

pub loop-u-init : goal.loop-u-init
loop-u-init c = visited-start _ _ _ _ _

pub visit-count-requires : goal.visit-count-requires
visit-count-requires c = (ready-again c.requires c.loop-u.invariant c.loop-u.auto.order, omega arith)

pub loop-u-preserved : goal.loop-u-preserved
loop-u-preserved c = visited-next c.loop-u.u c.loop-u.invariant c.visit-count.ensures
