-- One part stands behind the other. Assumes nothing.
use Rattle.std.proofs.lemmas.Result.{on_ok_weaker}
use Rattle.std.proofs.KnownBytes.{Appends-trans}
use Rattle.replay.proofs.print_line.Goals as goal

pub returns-clause-written : goal.returns-clause-written
returns-clause-written g c =
    on_ok_weaker c.write_full-4.result (λ p.
    Appends-trans _ _ _ _ _ c.in_ok-print_number.ensures.written (Appends-trans _ _ _ _ _ c.in_ok-write_full.ensures.whole
    (Appends-trans _ _ _ _ _ c.in_ok-print_number-2.ensures.written (Appends-trans _ _ _ _ _ c.in_ok-write_full-2.ensures.whole
    (Appends-trans _ _ _ _ _ c.in_ok-print_first.ensures.written (Appends-trans _ _ _ _ _ c.in_ok-write_full-3.ensures.whole p)))))) c.write_full-4.ensures.whole
