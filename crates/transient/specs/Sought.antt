-- A component sought among contracts. Assumes nothing: these are definitions.
use Rattle.std.specs.Prelude.{List, ℕ, ◌<◌, ◌≤◌, length}
use Rattle.rules.specs.Ordered.{key_at}

-- the first n keys are below this one
abbrev pub AllBelow : List ℕ → ℕ → ℕ → Type 0
AllBelow keys key n = (q : ℕ) → q < n → key_at keys q < key

-- and the next one, if there is one, is not
pub record SplitAt (keys : List ℕ) (key n : ℕ) : Type 0 where
  pub inside : n ≤ length keys
  pub below : AllBelow keys key n
  pub next : n < length keys → key ≤ key_at keys n
