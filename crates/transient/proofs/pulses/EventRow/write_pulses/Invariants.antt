-- The places before the k-th are gone through. Assumes nothing.
use Rattle.std.proofs.Common.{◌≡◌, ◌+◌, length}
use Rattle.rules.specs.Lists.{written_from}
use Rattle.rules.specs.Lent.{events_lent, findings_lent, SameFindings}
use Rattle.transient.specs.Judged.{PulsesListed}
use Rattle.transient.proofs.Places.{before, touched}
use Rattle.transient.proofs.Writing.{at_places}
use Rattle.transient.proofs.pulses.EventRow.write_pulses.Given as goal

abbrev pub invariant-loop-k : goal.invariant-loop-k
invariant-loop-k l = record {
  same : SameFindings l.initial.findings l.findings;
  counted : l.at ≡ l.start + length (before (events_lent l.self.trace.aligned.lent.events) l.self.positions.now l.k);
  listed : PulsesListed (written_from l.start) (at_places l.self (touched (events_lent l.self.trace.aligned.lent.events) l.self.positions.now l.k)) (findings_lent l.initial.findings) (findings_lent l.findings);
}
