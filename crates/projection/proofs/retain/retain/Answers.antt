-- `retain` makes its passes one after another. Assumes nothing.
use Rattle.projection.proofs.RetainSteps.{index, cut, listable, retaining}
use Rattle.projection.proofs.retain.retain.Goals as goal

pub invariant_of-links : goal.invariant_of-links
invariant_of-links c =
    let i = c.index_edges in
    record { rises = rw (cut c.requires i.ensures i.auto.head) (index c.requires i.ensures i.auto.head).rises }

pub list_first_edges-edges-requires : goal.list_first_edges-edges-requires
list_first_edges-edges-requires c =
    let i = c.index_edges in
    let front = cut c.requires i.ensures i.auto.head in
    let marked = rw front at c.mark_nodes-nodes.ensures in
    rw front (listable c.requires i.ensures i.auto.head _ c.count_ends.ensures c.count_ends.auto.counts marked)

pub returns-clause-retained : goal.returns-clause-retained
returns-clause-retained c =
    let i = c.index_edges in
    let front = cut c.requires i.ensures i.auto.head in
    let marked = rw front at c.mark_nodes-nodes.ensures in
    let listed = rw front at c.list_first_edges-edges.ensures in
    retaining c.requires i.ensures i.auto.head _ c.count_ends.ensures c.count_ends.auto.counts marked listed
