-- A refusal has room. Assumes nothing.
use Rattle.std.proofs.Common.{◌≤◌, rules, arith}
use Rattle.rules.specs.Bytes.{largest64}
use Rattle.laws.proofs.ReportRoom.{refusal-room}
use Rattle.text.proofs.answer.put_answer.Goals as goal

pub put_refusal-requires : goal.put_refusal-requires
put_refusal-requires c =
    let h = c.in-Err.ensures in
    let place : c.in-Err.refusal.place ≤ largest64 = search rules in
    rw h.0 record { fits = omega (arith, c.requires.starts, c.requires.room, refusal-room c.in-Err.refusal place) }
