-- The lists of an accepted scene fit, so they are projected. Assumes nothing.
use Rattle.assess.proofs.ProjectSteps.{fresh-room, projected}
use Rattle.assess.proofs.project.project_scene.Goals as goal

pub unwrap-requires : goal.unwrap-requires
unwrap-requires c =
    (projected c.requires fresh-room _ _ _ c.fill_nodes.ensures.delays c.fill_nodes.ensures.inverts c.fill_nodes.ensures.compressible c.steady_state_projection.ensures.call).0

pub returns-clause-projecting : goal.returns-clause-projecting
returns-clause-projecting c =
    let p = (projected c.requires fresh-room _ _ _ c.fill_nodes.ensures.delays c.fill_nodes.ensures.inverts c.fill_nodes.ensures.compressible c.steady_state_projection.ensures.call).1 in
    rw c.unwrap.ensures at p
