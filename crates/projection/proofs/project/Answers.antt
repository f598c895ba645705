-- `project` makes the passes one after another. Assumes nothing.
use Rattle.projection.proofs.CallSteps.{number-lent, walkable, fillable, projecting, retainable}
use Rattle.projection.proofs.project.Goals as goal

pub retain-retained-requires : goal.retain-retained-requires
retain-retained-requires c = retainable c.requires

pub invariant_of-marked : goal.invariant_of-marked
invariant_of-marked c = record { walkable = walkable c.requires c.retain-retained.ensures.retained }

pub slice_bounds-fill-end : goal.slice_bounds-fill-end
slice_bounds-fill-end c = number-lent c.requires c.retain-retained.ensures.retained

pub fill-path_ids-requires : goal.fill-path_ids-requires
fill-path_ids-requires c = fillable c.requires c.retain-retained.ensures.retained

pub returns-clause-projecting : goal.returns-clause-projecting
returns-clause-projecting c = projecting c.requires c.retain-retained.ensures.retained _ _ c.fill-path_ids.ensures.filled
