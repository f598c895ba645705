-- A row more was read. Assumes nothing.
use Rattle.std.proofs.Common.{◌∙◌, arith}
use Rattle.text.proofs.ReadingSteps.{next_row}
use Rattle.text.proofs.reading.read_counted.Goals as goal

pub loop-preserved : goal.loop-preserved
loop-preserved g c =
    let r = c.in_ok-read_row.ensures in
    (omega (arith, r.forward), omega (arith, r.room), c.loop.invariant.2 ∙ next_row _ _ _ _ _ _ _ (omega arith) r.reads)
