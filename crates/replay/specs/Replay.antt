-- What the functions of the program answer. Assumes nothing: these are definitions.
use Rattle.std.specs.Prelude.{◌≡◌, ◌≤◌, ◌<◌, ◌⊎◌, ℕ, Bool, true, false, List, [], ◌++◌, Option, None, Some, Result, Ok, Err, length, take, codes}
use Rattle.std.specs.Io.KnownBytes.{Consumes, Appends, IsAtEnd}
use Rattle.std.specs.declared.io.Error.{Error}
use Rattle.output.specs.Writing.{WriteFailed}
use Rattle.replay.specs.declared.Stop.{Stop}
use Rattle.replay.specs.declared.Stop.TheVariants.{BrokenOff, Failed}
use Rattle.replay.specs.declared.Tally.{Tally}
use Rattle.replay.specs.Sample.{Judged, JudgedEach, IsCut, IsTooLong, others, first_other, line_of}

-- a tally tells of so many texts
pub record Tells (tally : Tally) (sames : List Bool) : Type 0 where
  pub count_is : tally.count ≡ length sames
  pub differ_is : tally.differ ≡ others sames
  pub first_is : tally.first ≡ first_other 0 sames

module _ {S : Type 0} (gives : S → Result ℕ Error → S → Type 0) where
  -- a read gave this error
  abbrev pub ReadGave : Error → Type 0
  ReadGave e = (last : S) × (new : S) × gives last (Err e) new

  -- so many bytes were read; or there is no room for them, or fewer are left
  abbrev pub PartRead : (before after : Option (List ℕ)) (space : List ℕ) (n : ℕ) → Result (Unit {0}) Stop → Type 0
  PartRead before after space n (Ok x) = (n ≤ length space) × Consumes before after (take n space)
  PartRead before after space n (Err BrokenOff) =
      ((length space < n) × Consumes before after []) ⊎ ((bytes : List ℕ) × Consumes before after bytes × (length bytes < n) × IsAtEnd after)
  PartRead before after space n (Err (Failed e)) = ReadGave e

  -- a header was read whole; or the sample has ended; or it breaks off within a header
  abbrev pub HeaderRead : (before after : Option (List ℕ)) (header : List ℕ) → Result Bool Stop → Type 0
  HeaderRead before after header (Ok true) = Consumes before after header
  HeaderRead before after header (Ok false) = Consumes before after [] × IsAtEnd after
  HeaderRead before after header (Err BrokenOff) = (bytes : List ℕ) × Consumes before after bytes × (0 < length bytes) × (length bytes < 18) × IsAtEnd after
  HeaderRead before after header (Err (Failed e)) = ReadGave e

  -- the sample has ended; or the next text is told; or the sample breaks off
  abbrev pub NextTold : (before after : Option (List ℕ)) → Result (Option Bool) Stop → Type 0
  NextTold before after (Ok None) = Consumes before after [] × IsAtEnd after
  NextTold before after (Ok (Some same)) = (bytes : List ℕ) × Consumes before after bytes × Judged bytes same
  NextTold before after (Err BrokenOff) = (bytes : List ℕ) × Consumes before after bytes × ((IsAtEnd after × IsCut bytes) ⊎ IsTooLong bytes)
  NextTold before after (Err (Failed e)) = ReadGave e

  -- the same of all texts, of which there are at most a million
  abbrev pub AllTold : (before after : Option (List ℕ)) (bytes : List ℕ) → List Bool → Result (Unit {0}) Stop → Type 0
  AllTold before after bytes sames (Ok x) = Consumes before after bytes × (IsAtEnd after ⊎ (length sames ≡ 1000000))
  AllTold before after bytes sames (Err BrokenOff) =
      (cut : List ℕ) × Consumes before after (bytes ++ cut) × ((IsAtEnd after × IsCut cut) ⊎ IsTooLong cut)
  AllTold before after bytes sames (Err (Failed e)) = ReadGave e

  abbrev pub Replayed : (before after : Option (List ℕ)) (tally : Tally) → Result (Unit {0}) Stop → Type 0
  Replayed before after tally r = (bytes : List ℕ) × (sames : List Bool) × JudgedEach bytes sames × Tells tally sames × AllTold before after bytes sames r

  -- how it ended, in the words that are printed
  abbrev pub IsEnding : Result (Unit {0}) Stop → (ending : List ℕ) → Type 0
  IsEnding (Ok x) ending = ending ≡ []
  IsEnding (Err BrokenOff) ending = ending ≡ codes "; the sample breaks off"
  IsEnding (Err (Failed e)) ending = ⊥

  -- the line that is printed tells of each text of the sample, up to its end or where it breaks off
  abbrev pub SampleTold : (before after held now : Option (List ℕ)) → Type 0
  SampleTold before after held now =
      (bytes : List ℕ) × (sames : List Bool) × (r : Result (Unit {0}) Stop) × (ending : List ℕ)
      × JudgedEach bytes sames × AllTold before after bytes sames r × IsEnding r ending × Appends held now (line_of sames ending)

-- a write gave this error, or took nothing
module _ {W : Type 0} (takes : W → List ℕ → Result ℕ Error → W → Type 0) where
  abbrev pub WriteGave : Error → Type 0
  WriteGave e = (last : W) × (rest : List ℕ) × (new : W) × WriteFailed takes last rest e new
