-- The call for C hands the part on. Assumes nothing.
use Rattle.projection.proofs.PartSteps.{found-path}
use Rattle.sizhbanto.proofs.path.sizhbanto_projected_path.Goals as goal

pub returns-clause-path : goal.returns-clause-path
returns-clause-path c = found-path c.args.paths.now c.args.starts.now c.args.lengths.now c.args.edge c.path_part.result c.path_part.ensures
