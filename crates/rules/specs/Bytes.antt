-- Texts and numbers as bytes. Assumes nothing: these are definitions.
use Rattle.std.specs.Prelude.{Option, Some, None, Bool, false, not, cond, ◌&&◌, List, [], ◌∷◌, ◌++◌, ℕ, zero, suc, ◌+◌, ◌*◌, ◌-◌, ◌/◌, ◌%◌, eqb, ltb, leb, ℤ, pos, negsuc}
use Prim.Native.Char.{code}
use Prim.Native.String.{String, [] as end, ◌∷◌ as ◌then◌}
use Rattle.rules.specs.Lists.{not_empty, every}

-- the bytes of a text; those used here are plain ASCII, a byte for each character
abbrev pub bytes : String → List ℕ
bytes end = []
bytes (c then s) = code c ∷ bytes s

-- the largest number of 64 bits
abbrev pub largest64 : ℕ
largest64 = 18446744073709551615

-- Reading a number

abbrev pub is_digit : ℕ → Bool
is_digit b = leb (code "0") b && leb b (code "9")

-- the number that digits stand for, after those read before them
unfoldable pub value_from : ℕ → List ℕ → ℕ
value_from v [] = v
value_from v (b ∷ bs) = value_from (10 * v + (b - code "0")) bs

abbrev pub value : List ℕ → ℕ
value bs = value_from 0 bs

-- a zero before other digits
abbrev pub leading_zero : List ℕ → Bool
leading_zero [] = false
leading_zero (b ∷ []) = false
leading_zero (b ∷ c ∷ bs) = eqb b (code "0")

-- "Decimal numbers have no leading zeros"
unfoldable pub is_decimal : List ℕ → Bool
is_decimal bs = not_empty bs && (every is_digit bs && not (leading_zero bs))

-- "and fit their width": a number from 0 to the largest of the width
unfoldable pub number_up_to : ℕ → List ℕ → Option ℕ
number_up_to most bs = cond (is_decimal bs && leb (value bs) most) (Some (value bs)) None

abbrev pub not_negative : Option ℕ → Option ℤ
not_negative None = None
not_negative (Some n) = Some (pos n)

-- "`-0` is no number"
abbrev pub negative : Option ℕ → Option ℤ
negative None = None
negative (Some zero) = None
negative (Some (suc n)) = Some (negsuc n)

-- "a position of three signed 32-bit numbers"; "only x, y, z may be negative"
unfoldable pub signed_number : List ℕ → Option ℤ
signed_number [] = None
signed_number (b ∷ bs) = cond (eqb b (code "-")) (negative (number_up_to 2147483648 bs)) (not_negative (number_up_to 2147483647 (b ∷ bs)))

-- Writing a number

abbrev pub digit : ℕ → ℕ
digit d = code "0" + d

-- the digits of a number that has no more than so many
unfoldable pub digits_up_to : ℕ → ℕ → List ℕ
digits_up_to zero n = []
digits_up_to (suc k) n =
    let r = digits_up_to k (n / 10) in
    cond (ltb n 10) (digit n ∷ []) (r ++ (digit (n % 10) ∷ []))

-- a number n has no more than n + 1 digits
unfoldable pub decimal : ℕ → List ℕ
decimal n = digits_up_to (suc n) n

abbrev pub signed_decimal : ℤ → List ℕ
signed_decimal (pos n) = decimal n
signed_decimal (negsuc n) = code "-" ∷ decimal (suc n)
