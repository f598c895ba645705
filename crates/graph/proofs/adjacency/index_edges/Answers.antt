-- `index_edges` links the edges where the lists fit. Assumes nothing.
use mathlib.Core.Path.{sym, ◌∙◌}
use Rattle.graph.proofs.Fitting.{ends-below, index-misfit, index-outside, index-done}
use Rattle.graph.proofs.adjacency.index_edges.Goals as goal
use Rattle.graph.proofs.adjacency.index_edges.Goals.{then-next-ends-via-then-next-ends, then-next-ends-via-else-next-ends+then-not-ends_below}

pub returns-then-next-ends : goal.returns-then-next-ends
returns-then-next-ends c = elim c.then-next-ends.branch [
  | then-next-ends-via-then-next-ends w ↦ index-misfit _ _ _ w.if-next-ends.true
  | then-next-ends-via-else-next-ends+then-not-ends_below w ↦ index-outside _ _ _ w.if-next-ends.false (sym w.if-not-ends_below.true ∙ w.ends_below.ensures)
]

pub index_within-requires : goal.index_within-requires
index_within-requires c = (c.if-next-ends.false, ends-below _ _ (sym c.ends_below.ensures ∙ c.if-not-ends_below.false))

pub returns : goal.returns
returns c = index-done _ _ _ c.if-next-ends.false (sym c.if-not-ends_below.false ∙ c.ends_below.ensures) _ _ c.index_within.ensures
