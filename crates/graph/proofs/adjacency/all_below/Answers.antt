-- `all_below` tests every end. Assumes nothing.
use Rattle.std.proofs.Common.{rules, tests, ◌∙◌, nat_lt}
use Rattle.std.proofs.lemmas.Iterator.{YieldsList-from_slice}
use Rattle.std.proofs.lemmas.Iterator.Search.{all_from_yields_List}
use Rattle.graph.proofs.Fitting.{ends-listed}
use Rattle.graph.proofs.adjacency.all_below.Goals as goal

pub returns : goal.returns
returns c =
    let a = c.args in
    all_from_yields_List (λ end. nat_lt end a.n) _ _ _ c.all.ensures.ran (YieldsList-from_slice a.ends.now c.iter.ensures.rest) (λ x b q k. search (rules, tests)) ∙ ends-listed a.n a.ends.now
