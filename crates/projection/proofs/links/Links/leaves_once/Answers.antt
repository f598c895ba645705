-- `leaves_once` goes two steps along the chain at most. Assumes nothing.
use mathlib.Core.Path.{sym, ◌∙◌}
use Rattle.projection.proofs.ListSteps.{linked-once, linked-never}
use Rattle.projection.proofs.links.Links.leaves_once.Goals as goal

pub returns-then-is_some : goal.returns-then-is_some
returns-then-is_some c =
    let links = c.args.self.now in
    let e = c.leaving-edges.ensures in
    let once = linked-once links.next.now links.rises c.leaving-edges.result c.next.new.self e.0 c.next-then-is_some.new.self c.next.result c.next-then-is_some.result (sym c.is_some.ensures ∙ c.if-is_some.true) c.next.ensures.steps c.next-then-is_some.ensures.steps c.is_none.result c.is_none.ensures in
    rw e.1 at once

pub returns-else-is_some : goal.returns-else-is_some
returns-else-is_some c =
    let links = c.args.self.now in
    let e = c.leaving-edges.ensures in
    let never = linked-never links.next.now links.rises c.leaving-edges.result c.next.new.self e.0 c.next.result (sym c.is_some.ensures ∙ c.if-is_some.false) c.next.ensures.steps in
    c.is_some.ensures ∙ (rw e.1 at never)
