-- The pulses of a row of event positions. Assumes nothing: these are definitions.
use Rattle.std.specs.Prelude.{List, true, false, ◌≡◌, ℕ, suc, ◌+◌, ◌<◌, ◌≤◌, length, slice_index}
use Rattle.rules.specs.Pulses.{EventLists}
use Rattle.rules.specs.Windows.{window_pulse}

-- every position of the row is one of n events
abbrev pub Inside : (n : ℕ) → List ℕ → Type 0
Inside n row = (k : ℕ) → k < length row → slice_index row k < n

-- the place after the last one at which a pulse begins, or 0
pub record EndsPulses (l : EventLists) (row : List ℕ) (end : ℕ) : Type 0 where
  pub inside : (k : ℕ) → k < end → k + 2 < length row
  pub last : (k : ℕ) → suc k ≡ end → window_pulse l row k ≡ true
  pub none_later : (k : ℕ) → end ≤ k → k + 2 < length row → window_pulse l row k ≡ false
