-- The components are gone through in order. Assumes nothing.
use Rattle.rules.proofs.Made.{Made}
use Rattle.describe.specs.Rows.{timing_at_position}
use Rattle.describe.proofs.edges.fill_timings.Given as goal

abbrev pub invariant-loop-i : goal.invariant-loop-i
invariant-loop-i l = Made (timing_at_position l.components.kinds.now l.components.delays.now) 0 l.initial.timings l.timings l.i
