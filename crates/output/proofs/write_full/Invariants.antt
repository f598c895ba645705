-- What is gone from the rest was taken.
use Rattle.std.proofs.Common.{◌≡◌, ℕ, List, ◌++◌, length}
use Rattle.std.specs.Io.KnownBytes.{Appends}
use Rattle.output.specs.Writing.{TookCounts}
use Rattle.output.proofs.write_full.Given as goal

abbrev pub invariant-loop-rest : goal.invariant-loop-rest
invariant-loop-rest g l =
    ((front : List ℕ) × (l.initial.rest ≡ front ++ l.rest) × Appends (g.S.Write.contents l.initial.output) (g.S.Write.contents l.output) front)
    × ((counts : List ℕ) × TookCounts g.S.Sink.takes l.initial.output l.initial.rest counts l.output l.rest)

abbrev pub decreases-loop-rest : goal.decreases-loop-rest
decreases-loop-rest g l = length l.rest
