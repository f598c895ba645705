-- Ids and guesses at their positions. Assumes nothing: these are definitions.
use Rattle.std.specs.Prelude.{Option, Some, List, ◌≡◌, ℕ, ◌<◌, length}
use Rattle.rules.specs.Ordered.{key_at, ordered, position_of}

-- no two positions have one id
abbrev pub Different : List ℕ → Type 0
Different ids = (p q : ℕ) → p < length ids → q < length ids → key_at ids p ≡ key_at ids q → p ≡ q

-- the ids are all different, and these are their positions in order
pub record IdIndex (ids order : List ℕ) : Type 0 where
  pub sorted : order ≡ ordered ids
  pub different : Different ids

-- a guess that is answered is the position of the id
abbrev pub GuessHolds : List ℕ → ℕ → Option ℕ → Type 0
GuessHolds ids id r = (p : ℕ) → r ≡ Some p → Some p ≡ position_of ids id
