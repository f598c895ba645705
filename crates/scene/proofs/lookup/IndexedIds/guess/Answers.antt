-- A guess is the id's position where the id stands there. Assumes nothing.
use Rattle.scene.proofs.LookupSteps.{guessed}
use Rattle.scene.proofs.lookup.IndexedIds.guess.Goals as goal

pub returns : goal.returns
returns c = let found = c.in_ok-found.ensures.lookup.3 in rw c.then_some.ensures (guessed _ _ _ _ c.args.self.now.indexed.different found.0 (found.1 0))
