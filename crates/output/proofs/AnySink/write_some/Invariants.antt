-- A write that is interrupted appends nothing.
use Rattle.std.specs.Io.KnownBytes.{Keeps}
use Rattle.output.proofs.AnySink.write_some.Given as goal

abbrev pub invariant-loop : goal.invariant-loop
invariant-loop g l = Keeps (g.W.Write.contents l.initial.self) (g.W.Write.contents l.self)
