-- The number stands behind the words. Assumes nothing.
use Rattle.std.proofs.lemmas.Result.{on_ok_weaker}
use Rattle.std.proofs.KnownBytes.{Appends-trans}
use Rattle.replay.proofs.print_first.Goals as goal

pub returns-clause-written : goal.returns-clause-written
returns-clause-written g c = on_ok_weaker c.print_number.result (λ p. rw c.in-Some.is (Appends-trans _ _ _ _ _ c.in_ok-write_full.ensures.whole p)) c.print_number.ensures.written
