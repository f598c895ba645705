-- What writes took. Assumes nothing: these are definitions.
use Rattle.std.specs.Prelude.{◌≡◌, ◌<◌, ◌⊎◌, ℕ, List, [], ◌++◌, Option, Result, Ok, Err, length, drop}
use Rattle.std.specs.List.{FoldsTo}
use Rattle.std.specs.IoError.{error_kind}
use Rattle.std.specs.Io.KnownBytes.{Appends}
use Rattle.std.specs.declared.io.Error.{Error}
use Rattle.std.specs.declared.io.ErrorKind.TheVariants.{WriteZero}

module _ {S : Type 0} (takes : S → List ℕ → Result ℕ Error → S → Type 0) where
  -- writes one after another, each of what is left, took so many bytes each; with what is left behind them
  abbrev pub TookCounts : S → List ℕ → List ℕ → S → List ℕ → Type 0
  TookCounts old bytes counts new rest =
      FoldsTo {P = S × List ℕ} (λ p n q. takes p.0 p.1 (Ok n) q.0 × (q.1 ≡ drop n p.1)) (old, bytes) counts (new, rest)

  -- nothing is left
  abbrev pub TookAll : S → List ℕ → S → Type 0
  TookAll old bytes new = (counts : List ℕ) × TookCounts old bytes counts new []

  -- a write of what was left gave this error, or took none of it, and that is the error
  abbrev pub WriteFailed : S → List ℕ → Error → S → Type 0
  WriteFailed last rest e new =
      takes last rest (Err e) new ⊎ ((0 < length rest) × takes last rest (Ok 0) new × (error_kind e ≡ WriteZero))

  -- it was the first to
  abbrev pub TookError : S → List ℕ → Error → S → Type 0
  TookError old bytes e new =
      (counts : List ℕ) × (last : S) × (rest : List ℕ) × TookCounts old bytes counts last rest × WriteFailed last rest e new

-- known bytes grow by a front of these
abbrev pub AppendsSome : (old new : Option (List ℕ)) (bytes : List ℕ) → Type 0
AppendsSome old new bytes = (front : List ℕ) × (rest : List ℕ) × (bytes ≡ front ++ rest) × Appends old new front
