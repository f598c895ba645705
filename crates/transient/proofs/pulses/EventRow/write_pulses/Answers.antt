-- The places are gone through in order. Assumes nothing.
use Rattle.std.proofs.Common.{rules, arith, ◌≡◌, ◌+◌}
use Rattle.rules.specs.Lent.{events_lent, findings_lent}
use Rattle.transient.proofs.Listing.{none_listed}
use Rattle.transient.proofs.Places.{count-none, count-more, few}
use Rattle.transient.proofs.Writing.{room-left, more-listed, all-listed, all-counted}
use Rattle.transient.proofs.pulses.EventRow.write_pulses.Goals as goal

pub loop-k-init : goal.loop-k-init
loop-k-init c = record {
  same = search rules;
  counted = count-none (events_lent c.args.self.trace.aligned.lent.events) c.args.self.positions.now c.args.start;
  listed = none_listed c.args.start (findings_lent c.args.findings.now);
}

pub write_pulse-requires : goal.write_pulse-requires
write_pulse-requires c = room-left c.args.self c.requires c.loop-k.k (c.pulses_end-k-end.ensures.inside c.loop-k.k c.loop-k-test.true) c.loop-k.invariant.counted c.loop-k.invariant.listed

pub overflow_add-at : goal.overflow_add-at
overflow_add-at c = omega (
  arith,
  few (events_lent c.args.self.trace.aligned.lent.events) c.args.self.positions.now (c.loop-k.k + 1),
  count-more (events_lent c.args.self.trace.aligned.lent.events) c.args.self.positions.now c.args.start c.loop-k.k c.begins_pulse_branchless-begins.result c.begins_pulse_branchless-begins.ensures c.from-at.ensures c.loop-k.invariant.counted,
  c.pulses_end-k-end.ensures.inside c.loop-k.k c.loop-k-test.true,
)

pub loop-k-preserved : goal.loop-k-preserved
loop-k-preserved c = record {
  same = search rules;
  counted =
      count-more (events_lent c.args.self.trace.aligned.lent.events) c.args.self.positions.now c.args.start c.loop-k.k c.begins_pulse_branchless-begins.result c.begins_pulse_branchless-begins.ensures c.from-at.ensures c.loop-k.invariant.counted;
  listed =
      more-listed c.args.self c.requires c.loop-k.k (c.pulses_end-k-end.ensures.inside c.loop-k.k c.loop-k-test.true) c.loop-k.invariant.counted c.loop-k.invariant.listed c.pulse.ensures
      c.write_pulse.ensures.written;
}

pub returns-clause-listed : goal.returns-clause-listed
returns-clause-listed c =
    let e : c.loop-k.k ≡ c.pulses_end-k-end.result = omega arith in
    all-listed c.args.self c.args.start c.pulses_end-k-end.ensures (rw e at c.loop-k.invariant.listed)

pub returns-clause-counted : goal.returns-clause-counted
returns-clause-counted c =
    let e : c.loop-k.k ≡ c.pulses_end-k-end.result = omega arith in
    all-counted c.args.self c.args.start c.pulses_end-k-end.ensures (rw e at c.loop-k.invariant.counted)
