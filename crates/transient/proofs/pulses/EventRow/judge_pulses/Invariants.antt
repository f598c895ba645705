-- What is judged of the pulses before the j-th is written and tallied. Assumes nothing.
use Rattle.std.proofs.Common.{◌≡◌, take}
use Rattle.rules.specs.Lists.{written_from}
use Rattle.rules.specs.Lent.{findings_lent, SameFindings}
use Rattle.rules.specs.Verdicts.{tallies}
use Rattle.transient.specs.Judged.{findings_in, JudgementsListed}
use Rattle.transient.proofs.pulses.EventRow.judge_pulses.Given as goal

abbrev pub invariant-loop-j : goal.invariant-loop-j
invariant-loop-j l = record {
  same : SameFindings l.initial.findings l.findings;
  trace : l.sought.trace.now ≡ l.fn.self.trace;
  listed : JudgementsListed (written_from l.start) (take l.j (findings_in l.fn.self)) (findings_lent l.initial.findings) (findings_lent l.findings);
  tallied : l.tallies ≡ tallies (take l.j (findings_in l.fn.self));
}
