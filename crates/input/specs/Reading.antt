-- What reads gave. Assumes nothing: these are definitions.
use Rattle.std.specs.Prelude.{◌≡◌, ◌≤◌, ℕ, List, Option, Result, Ok, Err, length, take, drop}
use Rattle.std.specs.List.{FoldsTo}
use Rattle.std.specs.Io.KnownBytes.{Consumes}
use Rattle.std.specs.declared.io.Error.{Error}

module _ {S : Type 0} (gives : S → Result ℕ Error → S → Type 0) where
  -- reads one after another gave so many bytes each
  abbrev pub GaveCounts : S → List ℕ → S → Type 0
  GaveCounts = FoldsTo (λ s n t. gives s (Ok n) t)

  -- after reads that gave bytes, one gave none
  abbrev pub GaveNone : S → S → Type 0
  GaveNone old new = (counts : List ℕ) × (last : S) × GaveCounts old counts last × gives last (Ok 0) new

  -- after reads that gave bytes, one gave this error
  abbrev pub GaveError : S → Error → S → Type 0
  GaveError old e new = (counts : List ℕ) × (last : S) × GaveCounts old counts last × gives last (Err e) new

-- n bytes at the front of a list are those that were taken from the input, and what stands behind them stayed
pub record Filled (before after : Option (List ℕ)) (old new : List ℕ) (n : ℕ) : Type 0 where
  pub fits : n ≤ length new
  pub bytes : Consumes before after (take n new)
  pub behind : drop n new ≡ drop n old

-- some number of bytes is
abbrev pub FilledSome : (before after : Option (List ℕ)) (old new : List ℕ) → Type 0
FilledSome before after old new = (n : ℕ) × Filled before after old new n
