-- The line tells of what was replayed. Assumes nothing.
use Rattle.std.proofs.Common.{Err, refl, subst}
use Rattle.replay.specs.Replay.{Replayed}
use Rattle.std.specs.Prelude.{codes}
use Rattle.replay.specs.declared.Stop.TheVariants.{BrokenOff}
use Rattle.replay.proofs.ReplaySteps.{sample_told}
use Rattle.replay.proofs.print_replay.Goals as goal

pub returns-in-Err-BrokenOff-clause-told : goal.returns-in-Err-BrokenOff-clause-told
returns-in-Err-BrokenOff-clause-told g c =
    let replayed = subst (λ s. Replayed g.S.Source.gives (g.S.Read.remaining c.args.input.now) (g.S.Read.remaining c.replay.new.input) c.replay.new.tally (Err s)) c.in-Err-BrokenOff.field-0-is c.in-Err-BrokenOff.ensures in
    sample_told g.S.Source.gives _ _ _ _ c.replay.new.tally (Err BrokenOff) (codes "; the sample breaks off") c.print_line-in-Err-BrokenOff.result replayed refl c.print_line-in-Err-BrokenOff.ensures.written
