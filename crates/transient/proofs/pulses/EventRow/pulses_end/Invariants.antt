-- From here on no pulse begins. Assumes nothing.
use Rattle.std.proofs.Common.{◌≡◌, false, ℕ, ◌+◌, ◌-◌, ◌<◌, ◌≤◌, length}
use Rattle.rules.specs.Lent.{events_lent}
use Rattle.rules.specs.Windows.{window_pulse}
use Rattle.transient.proofs.pulses.EventRow.pulses_end.Given as goal

abbrev pub invariant-loop-end : goal.invariant-loop-end
invariant-loop-end l = record {
  inside : l.end ≤ length l.self.positions.now - 2;
  none_later : (k : ℕ) → l.end ≤ k → k + 2 < length l.self.positions.now → window_pulse (events_lent l.self.trace.aligned.lent.events) l.self.positions.now k ≡ false;
}

abbrev pub decreases-loop-end : goal.decreases-loop-end
decreases-loop-end l = l.end
