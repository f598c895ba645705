-- The limits give room for a position of each id. Assumes nothing.
use native.Mathlib.Omega.{arith}
use Rattle.scene.proofs.IndexSteps.{sorted_front}
use Rattle.scene.proofs.index.order_ids.Goals as goal

pub returns : goal.returns
returns c = sorted_front _ _ _ _ _ _ (omega arith) (omega arith) c.sort_positions.ensures
