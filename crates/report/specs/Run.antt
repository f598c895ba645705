-- What a run of the program did. Assumes nothing: these are definitions.
use Rattle.std.specs.Prelude.{◌≡◌, ◌⊎◌, ℕ, List, Option, Result, IfSome}
use Rattle.std.specs.Io.KnownBytes.{Appends}
use Rattle.std.specs.declared.io.Error.{Error}
use Rattle.input.specs.Reading.{GaveError}
use Rattle.output.specs.Writing.{TookAll, TookError, AppendsSome}
use Rattle.rules.specs.Report.{report_of}

module _ {S : Type 0} (remaining : S → Option (List ℕ)) where
  -- it is the report of a text, of the whole input where that is known
  abbrev pub IsReport : S → List ℕ → Type 0
  IsReport input report = (text : List ℕ) × (report ≡ report_of text) × IfSome (remaining input) (λ xs. report ≡ report_of xs)

  module _ {W : Type 0} (gives : S → Result ℕ Error → S → Type 0) (takes : W → List ℕ → Result ℕ Error → W → Type 0) (contents : W → Option (List ℕ)) where
    -- the report of the input was written whole
    abbrev pub Written : (input : S) (old new : W) → Type 0
    Written input old new = (report : List ℕ) × IsReport input report × TookAll takes old report new × Appends (contents old) (contents new) report

    -- a read gave the error, and nothing was written; or a write of the report failed by it, when a front of the report was written
    abbrev pub Failed : (input after : S) (old new : W) → Error → Type 0
    Failed input after old new e =
        (GaveError gives input e after × (new ≡ old))
        ⊎ ((report : List ℕ) × IsReport input report × TookError takes old report e new × AppendsSome (contents old) (contents new) report)
