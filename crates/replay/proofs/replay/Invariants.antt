-- Of each text so far it is told whether its report is the one that is wanted.
use Rattle.std.proofs.Common.{◌≡◌, List, Bool, ℕ, length}
use Rattle.std.specs.Io.KnownBytes.{Consumes}
use Rattle.replay.specs.Sample.{JudgedEach}
use Rattle.replay.specs.Replay.{Tells}
use Rattle.replay.proofs.replay.Given as goal

abbrev pub invariant-loop : goal.invariant-loop
invariant-loop g l =
    (bytes : List ℕ) × (sames : List Bool) × JudgedEach bytes sames × Tells l.tally sames × (length sames ≡ l.counter)
    × Consumes (g.S.Read.remaining l.initial.input) (g.S.Read.remaining l.input) bytes
