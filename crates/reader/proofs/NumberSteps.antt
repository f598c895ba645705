-- Reading a number digit by digit, and the forms a number has. Assumes nothing.
use Rattle.std.proofs.Common.{◌≡◌, ℕ, zero, suc, ◌+◌, ◌*◌, ◌-◌, ◌≤◌, ◌<◌, Bool, true, false, not, cond, ◌&&◌, List, [], ◌∷◌, Option, Some, None, eqb, leb, length, get_or, take, drop, refl, sym, ap, ◌∙◌, add-one, arith}
use Rattle.std.specs.Cmp.Lexicographic.{pointwise, same_text}
use Rattle.std.proofs.Math.IntN.{negsuc}
use Rattle.std.proofs.Math.Seq.{drop-cons}
use Rattle.std.proofs.Math.ListN.{drop_of_length-le}
use Rattle.std.proofs.lemmas.Bool.{le-leb, lt-leb}
use Rattle.std.proofs.Math.Dec.{eqb-suc-zero}
use Rattle.std.proofs.Math.Bool.{and_assoc}
use Rattle.rules.specs.Lists.{every}
use Rattle.rules.specs.Text.{starts_with, delay_word}
use Rattle.rules.specs.Bytes.{bytes, is_digit, value_from, leading_zero, is_decimal, number_up_to, negative, not_negative, signed_number}
use Rattle.rules.proofs.Decimals.{number-text}

-- what digits say after those read before them, up to the largest
unfoldable pub digits_from : ℕ → ℕ → List ℕ → Option ℕ
digits_from most v bs = cond (every is_digit bs && leb (value_from v bs) most) (Some (value_from v bs)) None

value_grows : (v : ℕ) (bs : List ℕ) → v ≤ value_from v bs
unfolding value_from
value_grows v [] = omega arith
value_grows v (b ∷ bs) = omega (arith, value_grows (10 * v + (b - 48)) bs)

no_second : (a b : Bool) (x : Option ℕ) → b ≡ false → cond (a && b) x None ≡ None
no_second true b x e = rw e
no_second false b x e = refl

module _ (most v b : ℕ) (bs : List ℕ) where
  no-digit : is_digit b ≡ false → digits_from most v (b ∷ bs) ≡ None
  unfolding digits_from every
  no-digit e = rw e

  too_large : most < 10 * v + (b - 48) → digits_from most v (b ∷ bs) ≡ None
  unfolding digits_from value_from
  too_large h = no_second (every is_digit (b ∷ bs)) _ _ (lt-leb (value_from (10 * v + (b - 48)) bs) most (omega (arith, value_grows (10 * v + (b - 48)) bs)))

  next-digit : is_digit b ≡ true → digits_from most v (b ∷ bs) ≡ digits_from most (10 * v + (b - 48)) bs
  unfolding digits_from every value_from
  next-digit e = rw e

last-digit : (most v : ℕ) → v ≤ most → digits_from most v [] ≡ Some v
unfolding digits_from every value_from
last-digit most v h = rw (le-leb v most h)

-- The same at a place of the digits

module _ (digits : List ℕ) (most v i : ℕ) where
  module _ (h : i < length digits) where
    at_place : drop i digits ≡ get_or digits i 0 ∷ drop (i + 1) digits
    at_place = rw add-one (drop-cons digits i 0 h)

    pub stops_other : is_digit (get_or digits i 0) ≡ false → digits_from most v (drop i digits) ≡ None
    stops_other e = ap (digits_from most v) at_place ∙ no-digit most v (get_or digits i 0) (drop (i + 1) digits) e

    pub stops_large : most < 10 * v + (get_or digits i 0 - 48) → digits_from most v (drop i digits) ≡ None
    stops_large k = ap (digits_from most v) at_place ∙ too_large most v (get_or digits i 0) (drop (i + 1) digits) k

    pub goes_on : (n : ℕ) → is_digit (get_or digits i 0) ≡ true → n ≡ v * 10 + (get_or digits i 0 - 48) → digits_from most v (drop i digits) ≡ digits_from most n (drop (i + 1) digits)
    goes_on n e is = let more : 10 * v + (get_or digits i 0 - 48) ≡ n = omega arith in ap (digits_from most v) at_place ∙ next-digit most v (get_or digits i 0) (drop (i + 1) digits) e ∙ ap (λ n. digits_from most n (drop (i + 1) digits)) more

  pub ends : length digits ≤ i → v ≤ most → digits_from most v (drop i digits) ≡ Some v
  ends h k = ap (digits_from most v) (drop_of_length-le digits h) ∙ last-digit most v k

-- The form of a number

module _ (most : ℕ) where
  pub number_empty : (bs : List ℕ) → length bs ≡ 0 → number_up_to most bs ≡ None
  unfolding is_decimal number_up_to
  number_empty [] h = refl
  number_empty (b ∷ bs) h = absurd (omega arith)

  pub number_leads : (bs : List ℕ) → leading_zero bs ≡ true → number_up_to most bs ≡ None
  unfolding is_decimal number_up_to
  number_leads [] e = refl
  number_leads (b ∷ bs) e = go (every is_digit (b ∷ bs)) (leading_zero (b ∷ bs)) e
    where
      go : (a z : Bool) → z ≡ true → cond ((a && not z) && leb (value_from 0 (b ∷ bs)) most) (Some (value_from 0 (b ∷ bs))) None ≡ None
      go true z f = rw f
      go false z f = refl

  pub number_starts : (bs : List ℕ) → 0 < length bs → leading_zero bs ≡ false → number_up_to most bs ≡ digits_from most 0 bs
  unfolding is_decimal number_up_to digits_from
  number_starts [] h e = absurd (omega arith)
  number_starts (b ∷ bs) h e = go (every is_digit (b ∷ bs)) (leading_zero (b ∷ bs)) e
    where
      go : (a z : Bool) → z ≡ false → cond ((a && not z) && leb (value_from 0 (b ∷ bs)) most) (Some (value_from 0 (b ∷ bs))) None ≡ cond (a && leb (value_from 0 (b ∷ bs)) most) (Some (value_from 0 (b ∷ bs))) None
      go true z f = rw f
      go false z f = refl

  -- a number that is read is at most the largest
  pub number_fits : (bs : List ℕ) (n : ℕ) → Some n ≡ number_up_to most bs → n ≤ most
  number_fits bs n e = (number-text most bs n (sym e)).1

-- The form of a signed number

-- the first byte compared with a minus
abbrev pub minus_first : List ℕ → Bool
minus_first bs = pointwise eqb (take 1 bs) (45 ∷ [])

after-minus : (bs : List ℕ) → minus_first bs ≡ true → signed_number bs ≡ negative (number_up_to 2147483648 (drop 1 bs))
unfolding signed_number
after-minus [] e = cc
after-minus (b ∷ bs) e = go (eqb b 45) e
  where
    go : (t : Bool) → (t && true) ≡ true → cond t (negative (number_up_to 2147483648 bs)) (not_negative (number_up_to 2147483647 (b ∷ bs))) ≡ negative (number_up_to 2147483648 bs)
    go true e = refl
    go false e = cc

pub signed_minus : (bs size : List ℕ) (n : Option ℕ) → minus_first bs ≡ true → size ≡ drop 1 bs → n ≡ number_up_to 2147483648 size → signed_number bs ≡ negative n
signed_minus bs size n first is e = after-minus bs first ∙ ap (λ l. negative (number_up_to 2147483648 l)) (sym is) ∙ ap negative (sym e)

pub signed_plain : (bs : List ℕ) → minus_first bs ≡ false → signed_number bs ≡ not_negative (number_up_to 2147483647 bs)
unfolding signed_number number_up_to is_decimal
signed_plain [] e = refl
signed_plain (b ∷ bs) e = go (eqb b 45) e
  where
    go : (t : Bool) → (t && true) ≡ false → cond t (negative (number_up_to 2147483648 bs)) (not_negative (number_up_to 2147483647 (b ∷ bs))) ≡ not_negative (number_up_to 2147483647 (b ∷ bs))
    go true e = cc
    go false e = refl

-- a number after a minus that is not 0
pub negative_is : (n k : ℕ) → 1 ≤ n → k ≡ n - 1 → negative (Some n) ≡ Some (negsuc k)
negative_is zero k h e = absurd (omega arith)
negative_is (suc n) k h e = let same : n ≡ k = omega arith in ap (λ k. Some (negsuc k)) same

pub negative_zero : (n : ℕ) → (1 ≤ n → ⊥) → negative (Some n) ≡ None
negative_zero zero h = refl
negative_zero (suc n) h = absurd (h (omega arith))

-- The form of a delay's word

pub delay_none : (bs : List ℕ) → true ≡ pointwise eqb bs (bytes "none") → delay_word bs ≡ Some 256
unfolding delay_word starts_with
delay_none bs e = rw (same_text bs (bytes "none") e)

whole_compared : (bs name : List ℕ) → pointwise eqb bs name ≡ (starts_with name bs && eqb (length bs) (length name))
unfolding starts_with
whole_compared [] [] = refl
whole_compared [] (n ∷ ns) = refl
whole_compared (b ∷ bs) [] = sym (eqb-suc-zero (length bs))
whole_compared (b ∷ bs) (n ∷ ns) =
    let e = whole_compared bs ns in
    let same : eqb b n ≡ eqb n b = grind arith in
    let sizes : eqb (suc (length bs)) (suc (length ns)) ≡ eqb (length bs) (length ns) = grind arith in
    let parts = and_assoc (eqb n b) (starts_with ns bs) (eqb (length bs) (length ns)) in
    cc

pub delay_number : (bs : List ℕ) → false ≡ pointwise eqb bs (bytes "none") → delay_word bs ≡ number_up_to 255 bs
unfolding delay_word
delay_number bs e = rw (sym (whole_compared bs (bytes "none")), sym e)
