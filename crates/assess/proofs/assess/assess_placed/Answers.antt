-- The lists of an accepted scene fit, and are written. Assumes nothing.
use Rattle.assess.proofs.SceneAssess.{assessable, output-room, projection_ready, retained-bound, call-assessed}
use Rattle.assess.proofs.assess.assess_placed.Goals as goal

pub reason_scene-told-requires : goal.reason_scene-told-requires
reason_scene-told-requires c = (assessable _ _ _ c.requires.placed c.requires.accepted, output-room _ _ _ c.requires.placed c.requires.accepted)

pub project_scene-counts-requires : goal.project_scene-counts-requires
project_scene-counts-requires c = projection_ready _ _ _ c.requires.placed c.requires.accepted

pub assessed-requires : goal.assessed-requires
assessed-requires c = retained-bound _ _ _ c.requires.placed c.requires.accepted _ c.project_scene-counts.ensures.projecting

pub returns-clause-assessed : goal.returns-clause-assessed
returns-clause-assessed c =
    call-assessed _ _ _ c.requires.placed c.requires.accepted _ _ _ _ c.reason_scene-told.ensures.found c.project_scene-counts.ensures.projecting c.assessed.ensures
