-- The record grows by an accepted trace. Assumes nothing.
use Rattle.rules.specs.Lent.{trace_lent, findings_lent}
use Rattle.recording.specs.Held.{record_by}
use Rattle.recording.proofs.RecordSteps.{traces-few, findings-few, sums-fit, trace-recorded}
use Rattle.recording.proofs.record.recorded_from.Goals as goal

pub grown-requires-clause-traces : goal.grown-requires-clause-traces
grown-requires-clause-traces c = traces-few (record_by c.args.traces c.args.held c.args.tallies) (trace_lent c.args.trace.now) (findings_lent c.args.findings.now) c.in-Ok.ensures.assessed

pub grown-requires-clause-findings : goal.grown-requires-clause-findings
grown-requires-clause-findings c = findings-few (record_by c.args.traces c.args.held c.args.tallies) (trace_lent c.args.trace.now) (findings_lent c.args.findings.now) c.in-Ok.ensures.assessed

pub grown-requires-clause-tallies : goal.grown-requires-clause-tallies
grown-requires-clause-tallies c = sums-fit (record_by c.args.traces c.args.held c.args.tallies) (trace_lent c.args.trace.now) (findings_lent c.args.findings.now) c.in-Ok.ensures.assessed

pub returns-in-Ok-clause-recorded : goal.returns-in-Ok-clause-recorded
returns-in-Ok-clause-recorded c =
    rw (c.from.ensures.0, c.from.ensures.1) (trace-recorded (record_by c.args.traces c.args.held c.args.tallies) (trace_lent c.args.trace.now) (findings_lent c.args.findings.now) c.in-Ok.ensures.assessed c.grown.ensures)
