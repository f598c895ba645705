-- The connections are gone through in order. Assumes nothing.
use lib.ListN.{length}
use Rattle.rules.specs.Lent.{connections_lent}
use Rattle.scene.proofs.ConnectionSteps.{EndsBelow}
use Rattle.scene.proofs.connections.look_up_rows.Given as goal

abbrev pub invariant-loop-j : goal.invariant-loop-j
invariant-loop-j l = EndsBelow l.index.ids.now (connections_lent l.connections) (length l.yielded) l.edges l.starts l.stops
