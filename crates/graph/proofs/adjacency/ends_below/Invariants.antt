-- The ends that are left decide. Assumes nothing.
use Rattle.std.proofs.Common.{◌≡◌, length}
use Rattle.graph.specs.Fits.{ends_below}
use Rattle.graph.proofs.adjacency.ends_below.Given as goal

abbrev pub invariant-loop-four : goal.invariant-loop-four
invariant-loop-four l = ends_below l.n l.rest ≡ ends_below l.n l.fn.ends

abbrev pub decreases-loop-four : goal.decreases-loop-four
decreases-loop-four l = length l.rest
