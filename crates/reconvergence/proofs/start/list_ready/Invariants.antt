-- `list_ready` copies the counts and lists the nodes whose count is 0. Assumes nothing.
use Rattle.std.proofs.Common.{◌≡◌}
use Rattle.reconvergence.specs.Lent.{SameSumRoom}
use Rattle.reconvergence.proofs.Starting.{ReadyTo}
use Rattle.reconvergence.proofs.start.list_ready.Given as goal

abbrev pub invariant-loop-v : goal.invariant-loop-v
invariant-loop-v l =
    SameSumRoom l.initial.room l.room
    × ReadyTo l.n l.room.incoming.now l.room.left.now l.room.queue.now l.count l.v
    × (l.room.incoming.now ≡ l.initial.room.incoming.now)
    × (l.room.head.now ≡ l.initial.room.head.now)
    × (l.room.next.now ≡ l.initial.room.next.now)
