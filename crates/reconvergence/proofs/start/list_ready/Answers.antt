-- `list_ready` copies the counts and lists the nodes whose count is 0. Assumes nothing.
use Rattle.std.proofs.Common.{rules}
use Rattle.reconvergence.proofs.Starting.{ready-none, ready-yes, ready-no}
use Rattle.reconvergence.proofs.start.list_ready.Goals as goal
use Rattle.reconvergence.proofs.start.list_ready.Goals.{then-edges-eq0, else-edges-eq0}

pub loop-v-init : goal.loop-v-init
loop-v-init c = (search rules, ready-none c.requires.0 c.requires.1 c.requires.2, search rules, search rules, search rules)

pub loop-v-preserved : goal.loop-v-preserved
loop-v-preserved c =
    let was = c.loop-v.invariant in
    elim c.if-edges-eq0.branch [
      | then-edges-eq0 w ↦ rw (w.room-is, w.count-is) (search rules, ready-yes was.1 c.loop-v-test.true w.if-edges-eq0.true, was.2, was.3, was.4)
      | else-edges-eq0 w ↦ rw (w.room-is, w.count-is) (search rules, ready-no was.1 c.loop-v-test.true w.if-edges-eq0.false, was.2, was.3, was.4)
    ]
