-- `rise_along` compares the keys of neighbours. Assumes nothing.
use Rattle.std.proofs.Common.{rules, tests}
use Rattle.rules.specs.Ordered.{key_at}
use Rattle.order.proofs.RisingRow.{rises_decided}
use Rattle.order.proofs.rising.rise_along.Goals as goal

pub returns : goal.returns
returns c = rises_decided (key_at c.args.keys.now) c.args.row.now c.is_sorted_by.result c.is_sorted_by.ensures.cases (λ a r f q. search (rules, tests))
