-- The pulses that were written are judged. Assumes nothing.
use Rattle.transient.specs.Judged.{findings_in}
use Rattle.transient.proofs.Listing.{room_kept, pulses-held, both_listed}
use Rattle.transient.proofs.Writing.{findings-few}
use Rattle.transient.proofs.pulses.EventRow.write_findings.Goals as goal

pub judge_pulses-tallies-requires-clause-room : goal.judge_pulses-tallies-requires-clause-room
judge_pulses-tallies-requires-clause-room c =
    rw c.write_pulses-count.ensures.counted (room_kept (findings_in c.args.self) c.requires (findings-few c.args.self) c.write_pulses-count.ensures.listed)

pub judge_pulses-tallies-requires-clause-held : goal.judge_pulses-tallies-requires-clause-held
judge_pulses-tallies-requires-clause-held c = pulses-held (findings_in c.args.self) c.requires (findings-few c.args.self) c.write_pulses-count.ensures.listed

pub returns-clause-listed : goal.returns-clause-listed
returns-clause-listed c = both_listed c.write_pulses-count.ensures.listed c.judge_pulses-tallies.ensures.listed
