-- `mark_shared_components` groups and marks the nodes where the lists fit. Assumes nothing.
use mathlib.Core.Path.{sym, ◌∙◌}
use Rattle.graph.proofs.SharedMarks.{front-marks}
use Rattle.graph.proofs.mark_shared_components.Goals as goal

pub returns-clause-marked : goal.returns-clause-marked
returns-clause-marked c = record {
  answer = sym c.if-not-graph_fits.false ∙ c.graph_fits.ensures;
  marked = c.mark_shared.ensures ∙ front-marks c.strongly_connected_components.ensures _;
  refused = λ e. cc;
}
