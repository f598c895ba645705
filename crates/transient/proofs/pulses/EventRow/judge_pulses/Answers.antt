-- The pulses are gone through in order. Assumes nothing.
use Rattle.std.proofs.Common.{rules, arith, ◌∙◌}
use Rattle.rules.specs.Lent.{findings_lent}
use Rattle.transient.proofs.Listing.{none_judged}
use Rattle.transient.proofs.Tallies.{no_tallies}
use Rattle.transient.proofs.Judging.{finding_at, verdict-here, rationale-here, room-here, listed-more, verdict-few, tallied-more, verdict-number}
use Rattle.transient.proofs.pulses.EventRow.judge_pulses.Goals as goal

pub loop-j-init : goal.loop-j-init
loop-j-init c = record {
  same = search rules;
  trace = search rules;
  listed = none_judged c.args.start (findings_lent c.args.findings.now);
  tallied = no_tallies;
}

pub write_judgement-requires : goal.write_judgement-requires
write_judgement-requires c = room-here c.args.self c.loop-j.j (omega (arith, c.requires.counted)) c.loop-j.invariant.listed c.requires.room c.requires.counted

pub count_verdict-counted-requires-clause-number : goal.count_verdict-counted-requires-clause-number
count_verdict-counted-requires-clause-number c =
    verdict-number (finding_at c.args.self c.loop-j.j)
    (verdict-here c.args.self c.loop-j.j (omega (arith, c.requires.counted)) c.loop-j.invariant.listed c.requires.held c.loop-j.invariant.trace c.judge-verdict.ensures.judged)

pub count_verdict-counted-requires-clause-few : goal.count_verdict-counted-requires-clause-few
count_verdict-counted-requires-clause-few c =
    let v = verdict-here c.args.self c.loop-j.j (omega (arith, c.requires.counted)) c.loop-j.invariant.listed c.requires.held c.loop-j.invariant.trace c.judge-verdict.ensures.judged in
    omega (arith, verdict-few c.args.self c.loop-j.j (omega (arith, c.requires.counted)) c.loop-j.invariant.tallied v)

pub loop-j-preserved : goal.loop-j-preserved
loop-j-preserved c =
    let v = verdict-here c.args.self c.loop-j.j (omega (arith, c.requires.counted)) c.loop-j.invariant.listed c.requires.held c.loop-j.invariant.trace c.judge-verdict.ensures.judged in
    let w = rationale-here c.args.self c.loop-j.j (omega (arith, c.requires.counted)) c.loop-j.invariant.listed c.requires.held c.loop-j.invariant.trace c.judge-verdict.ensures.judged in
    record {
      same = search rules;
      trace = c.judge-verdict.ensures.trace ∙ c.loop-j.invariant.trace;
      listed =
          listed-more c.args.self c.loop-j.j (omega (arith, c.requires.counted)) c.loop-j.invariant.listed c.requires.room c.requires.counted v w c.write_judgement.ensures.written;
      tallied = tallied-more c.args.self c.loop-j.j (omega (arith, c.requires.counted)) c.loop-j.invariant.tallied v c.count_verdict-counted.ensures;
    }
