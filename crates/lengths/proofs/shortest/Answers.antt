-- The least of the lengths is their shortest. Assumes nothing.
use Rattle.std.proofs.lemmas.Iterator.{YieldsList-from_slice}
use Rattle.std.proofs.lemmas.Iterator.Consumers.{YieldsList-from_copied, min_from_yields_List}
use Rattle.lengths.proofs.Iterated.{shortest_from_min}
use Rattle.lengths.proofs.shortest.Goals as goal

pub returns : goal.returns
returns c =
    let l = c.args.lengths.now in
    let e = min_from_yields_List {v = λ x. x} {all = l} c.copied.result c.min.result c.min.ensures.ran (YieldsList-from_copied (YieldsList-from_slice l cc)) in
    shortest_from_min l c.min.result e c.unwrap_or.ensures
