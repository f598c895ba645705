-- What was read stands at the front, and is what the reads gave.
use Rattle.std.proofs.Common.{◌≡◌, ◌-◌, ℕ, List, length}
use Rattle.input.specs.Reading.{GaveCounts, Filled}
use Rattle.input.proofs.read_by.Given as goal

abbrev pub invariant-loop-done : goal.invariant-loop-done
invariant-loop-done g l =
    (length l.space ≡ length l.initial.space)
    × Filled (g.S.Read.remaining l.initial.input) (g.S.Read.remaining l.input) l.initial.space l.space l.done
    × ((counts : List ℕ) × GaveCounts g.S.Source.gives l.initial.input counts l.input)

abbrev pub decreases-loop-done : goal.decreases-loop-done
decreases-loop-done g l = length l.initial.space - l.done
