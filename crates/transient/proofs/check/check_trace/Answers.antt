-- The contracts of a trace that passes rise. Assumes nothing.
use Rattle.transient.proofs.Tests.{then-rises}
use Rattle.transient.proofs.check.check_trace.Goals as goal

pub invariant_of-result-clause-rises : goal.invariant_of-result-clause-rises
invariant_of-result-clause-rises c =
    then-rises c.args.start c.args.trace.now c.args.room c.in_ok-aligned.ensures.checked c.in_ok-check_sizes.ensures c.in_ok-aligned.ensures.trace c.in_ok-unit.ensures.checked
