-- One text more. Assumes nothing.
use Rattle.std.proofs.Common.{Ok, [], refl, subst}
use Rattle.std.proofs.KnownBytes.{Consumes-nil}
use Rattle.replay.specs.Replay.{NextTold}
use Rattle.replay.proofs.ReplaySteps.{told_more}
use Rattle.replay.proofs.replay.Goals as goal

pub loop-init : goal.loop-init
loop-init g c = ([], [], refl, c.requires, refl, Consumes-nil _)

pub loop-preserved : goal.loop-preserved
loop-preserved g c =
    let (bytes, sames, each, tells, count, taken) = c.loop.invariant in
    let told = subst (λ o. NextTold g.S.Source.gives (g.S.Read.remaining c.loop.input) (g.S.Read.remaining c.replay_next.new.input) (Ok o)) c.in-Some.is c.in_ok-same.ensures in
    told_more g.S.Source.gives _ _ _ c.loop.tally c.add.new.self c.loop.counter c.in-Some.same bytes sames each tells count taken told c.add.ensures
