-- `find_unequal` links the edges, sums the paths and lists the answers. Assumes nothing.
use mathlib.Core.Path.{◌∙◌}
use lib.Seq.{take_at, length-take-le}
use Rattle.reconvergence.proofs.Ending.{answered, list-fits}
use Rattle.reconvergence.proofs.Whole.{timed}
use Rattle.reconvergence.proofs.pass.find_unequal.Goals as goal

pub sum_paths-requires : goal.sum_paths-requires
sum_paths-requires c = (rw (take_at _ _ _ (c.index_edges.auto.head ∙ length-take-le _ _ c.requires.heads), take_at _ _ _ (c.index_edges.auto.next ∙ length-take-le _ _ c.requires.links)) (timed c.requires c.index_edges.auto.head c.index_edges.ensures), c.requires.lent)

pub list_unequal-requires : goal.list_unequal-requires
list_unequal-requires c = list-fits c.sum_paths.ensures.summed _ c.requires.positions _ c.requires.room

pub returns-clause-answered : goal.returns-clause-answered
returns-clause-answered c =
    let kept = c.sum_paths.ensures.kept in
    answered c.sum_paths.ensures.summed _ c.requires.positions (rw (c.mark_settled.ensures, kept.settled)) kept.smallest kept.largest c.list_unequal.ensures.listed c.list_unequal.ensures.counted
