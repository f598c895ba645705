-- Each turn tests the next four. Assumes nothing.
use Rattle.std.proofs.Common.{◌∙◌, sym, ap}
use Rattle.graph.specs.Fits.{ends_below}
use Rattle.graph.proofs.Fitting.{front-fails, front-passes}
use Rattle.graph.proofs.adjacency.ends_below.Goals as goal

pub returns-then-not-all_below : goal.returns-then-not-all_below
returns-then-not-all_below c =
    sym (sym c.loop-four.invariant ∙ front-fails c.args.n 4 c.loop-four.rest.now (ap (ends_below c.args.n) (sym c.in-Some.ensures.cases.0) ∙ sym c.all_below.ensures ∙ c.if-not-all_below.true))

pub loop-four-preserved : goal.loop-four-preserved
loop-four-preserved c =
    ap (ends_below c.args.n) c.in-Some.ensures.cases.1 ∙ sym (front-passes c.args.n 4 c.loop-four.rest.now (ap (ends_below c.args.n) (sym c.in-Some.ensures.cases.0) ∙ sym c.all_below.ensures ∙ c.if-not-all_below.false)) ∙ c.loop-four.invariant
