-- The scene from its parts. Assumes nothing.
use Rattle.std.proofs.lemmas.Result.{err_from_is_err_and}
use Rattle.text.proofs.ReadingSteps.{scene_none, scene_half, scene_end}
use Rattle.text.proofs.reading.read_scene.Goals as goal

pub returns-in_err-read_counted : goal.returns-in_err-read_counted
returns-in_err-read_counted c =
    let p = err_from_is_err_and c.from_residual.result c.from_residual.ensures.1 in
    rw (p.1, p.2) (scene_none _ _ (rw (c.requires.1, c.new-lines.ensures) at c.in_err-read_counted.ensures.reads))

pub returns-in_err-read_counted-2 : goal.returns-in_err-read_counted-2
returns-in_err-read_counted-2 c =
    let p = err_from_is_err_and c.from_residual-in_err-read_counted-2.result c.from_residual-in_err-read_counted-2.ensures.1 in
    let components = rw (c.requires.1, c.new-lines.ensures) at c.in_ok-read_counted.ensures.reads in
    rw (p.1, p.2) (scene_half _ _ _ components _ (rw c.requires.2 at c.in_err-read_counted-2.ensures.reads))

pub returns : goal.returns
returns c =
    let components = rw (c.requires.1, c.new-lines.ensures) at c.in_ok-read_counted.ensures.reads in
    let connections = rw c.requires.2 at c.in_ok-read_counted-2.ensures.reads in
    scene_end _ _ _ components _ _ c.end.result connections c.end.ensures
