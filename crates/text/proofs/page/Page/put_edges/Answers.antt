-- The projected edges are put one after the other. Assumes nothing.
use Rattle.std.proofs.Common.{[], arith}
use Rattle.text.proofs.PutSteps.{put_none, rows_none, rows_room, rows_more}
use Rattle.text.proofs.page.Page.put_edges.Goals as goal

pub loop-k-init : goal.loop-k-init
loop-k-init c = rows_none [] _ _ (put_none _ (omega (arith, c.requires.room.fits)))

pub put_edge-requires-clause-room : goal.put_edge-requires-clause-room
put_edge-requires-clause-room c = rows_room [] _ _ _ _ _ c.requires.room c.loop-k.invariant (omega arith)

pub loop-k-preserved : goal.loop-k-preserved
loop-k-preserved c = rows_more [] _ _ _ c.loop-k.invariant c.put_edge.ensures
