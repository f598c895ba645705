-- A header is read half by half. Assumes nothing.
use Rattle.std.proofs.Common.{rules}
use Rattle.replay.proofs.ReplaySteps.{header_whole, header_cut}
use Rattle.replay.proofs.read_header.Goals as goal

pub returns-then-second-lt9 : goal.returns-then-second-lt9
returns-then-second-lt9 g c =
    header_cut _ _ _ _ c.read_full.new.space _ c.read_full-2.new.space _ _ c.in_ok-first.ensures.filled c.in_ok-second.ensures.filled (search rules) (search rules) (search rules) (search rules)

pub returns : goal.returns
returns g c =
    header_whole _ _ _ _ c.read_full.new.space _ _ c.read_full-2.new.space _ _ c.in_ok-first.ensures.filled (search rules) c.in_ok-second.ensures.filled (search rules) (search rules) (search rules) (search rules)
