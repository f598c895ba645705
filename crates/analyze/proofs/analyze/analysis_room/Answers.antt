-- The lengths of both parts, one after another. Assumes nothing.
use Rattle.std.proofs.Common.{refl}
use Rattle.assess.specs.Ready.{assessment_room}
use Rattle.analyze.proofs.analyze.analysis_room.Goals as goal

pub returns : goal.returns
unfolding assessment_room
returns c = rw (c.description_room.ensures, c.assessment_room.ensures) refl
