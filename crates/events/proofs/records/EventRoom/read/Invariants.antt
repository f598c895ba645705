-- The records before the i-th are read. Assumes nothing.
use Rattle.std.proofs.Common.{◌≡◌, map, take}
use Rattle.events.proofs.records.EventRoom.read.Given as goal

abbrev pub invariant-loop-i : goal.invariant-loop-i
invariant-loop-i l = record {
  ticks : take l.i l.self.ticks ≡ map (λ e. e.tick) (take l.i l.events);
  components : take l.i l.self.components ≡ map (λ e. e.component) (take l.i l.events);
  powered : take l.i l.self.powered ≡ map (λ e. e.powered) (take l.i l.events);
}
