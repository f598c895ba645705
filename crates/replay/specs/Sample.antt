-- A stored sample, and what is told of it. Assumes nothing: these are definitions.
use Rattle.std.specs.Prelude.{◌≡◌, ◌+◌, ◌-◌, ◌*◌, ◌<◌, ◌↔◌, ◌⊎◌, ◌&&◌, ℕ, Bool, true, false, not, cond, IsTrue, List, [], ◌∷◌, ◌++◌, Option, None, Some, length, take, drop, fold, count_by, nat_lt, codes, decimal}
use Rattle.rules.specs.Bytes.{is_digit}
use Rattle.rules.specs.Report.{report_of}

-- a number with one more digit; what is no digit is passed over, and so are digits past eight
abbrev pub number_with : ℕ → ℕ → ℕ
number_with n byte = cond (nat_lt n 10000000 && is_digit byte) (n * 10 + (byte - 48)) n

abbrev pub number_of : List ℕ → ℕ
number_of = fold number_with 0

-- the two lengths that a header of 18 bytes has
abbrev pub text_length : (header : List ℕ) → ℕ
text_length header = number_of (take 9 header)

abbrev pub report_length : (header : List ℕ) → ℕ
report_length header = number_of (take 9 (drop 9 header))

-- a header, a text of the length that it says, a report of the length that it says; and whether that is the text's
pub record Judged (bytes : List ℕ) (same : Bool) : Type 0 where
  pub header : List ℕ
  pub text : List ℕ
  pub wanted : List ℕ
  pub bytes_are : bytes ≡ header ++ (text ++ wanted)
  pub header_size : length header ≡ 18
  pub text_size : length text ≡ text_length header
  pub wanted_size : length wanted ≡ report_length header
  pub judged : IsTrue same ↔ (wanted ≡ report_of text)

-- one after another, with what is told of each
abbrev pub JudgedEach : (bytes : List ℕ) → List Bool → Type 0
JudgedEach bytes [] = bytes ≡ []
JudgedEach bytes (same ∷ sames) = (one : List ℕ) × (more : List ℕ) × (bytes ≡ one ++ more) × Judged one same × JudgedEach more sames

-- the bytes up to the end are less than a header, or less than a header says
abbrev pub IsCut : (bytes : List ℕ) → Type 0
IsCut bytes =
    ((0 < length bytes) × (length bytes < 18))
    ⊎ ((header : List ℕ) × (part : List ℕ) × (bytes ≡ header ++ part) × (length header ≡ 18) × (length part < text_length header + report_length header))

-- a header says more than there is room for
abbrev pub IsTooLong : (bytes : List ℕ) → Type 0
IsTooLong bytes =
    (header : List ℕ) × (part : List ℕ) × (bytes ≡ header ++ part) × (length header ≡ 18) × ((65600 < text_length header) ⊎ (262144 < report_length header))

-- the number, counted on from n, of the first that is not the same
abbrev pub first_other : (n : ℕ) → List Bool → Option ℕ
first_other n [] = None
first_other n (true ∷ sames) = first_other (n + 1) sames
first_other n (false ∷ sames) = Some (n + 1)

abbrev pub others : List Bool → ℕ
others = count_by not

-- what is printed: how many texts there were, how many are not the same, the first of these, and how the sample ended
abbrev pub first_text : Option ℕ → List ℕ
first_text None = []
first_text (Some n) = codes ", the first is " ++ decimal n

abbrev pub line : (count differ : ℕ) → (first : Option ℕ) → (ending : List ℕ) → List ℕ
line count differ first ending =
    decimal count ++ (codes " texts replayed, " ++ (decimal differ ++ (codes " differ" ++ (first_text first ++ (ending ++ codes "\n")))))

abbrev pub line_of : List Bool → (ending : List ℕ) → List ℕ
line_of sames = line (length sames) (others sames) (first_other 0 sames)
