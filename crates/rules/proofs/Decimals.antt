-- Decimal numbers: a number has one text, which is read as the number. Assumes nothing.
use mathlib.Core.Bool.{Bool, true, false, not, cond, ◌&&◌}
use mathlib.Core.List.{List, [], ◌∷◌, ◌++◌, append-nil, append_assoc}
use mathlib.Core.Logic.{◌⊎◌, inl, inr}
use Rattle.std.specs.Prelude.{Option, Some, None}
use mathlib.Core.Path.{◌≡◌, refl, sym, ap, subst, ◌∙◌}
use Prim.Native.Nat.{ℕ, zero, suc, ◌+◌, ◌*◌, ◌-◌, ◌/◌, ◌%◌, ◌≤◌, ◌<◌}
use native.Mathlib.Decide.{dec_lt}
use native.Mathlib.Omega.{arith}
use lib.Dec.{T, eqb, ltb, leb, T_not, not_T, leb→le, le→leb, ltb→lt, lt→ltb, eqb→eq}
use lib.IntN.{ℤ, pos, negsuc}
use lib.ListN.{length, drop_of_length-le}
use Rattle.rules.specs.Lists.{every, any}
use Rattle.rules.specs.Bytes.{bytes, is_digit, value_from, value, leading_zero, is_decimal, number_up_to, not_negative, negative, signed_number, digit, digits_up_to, decimal, signed_decimal}
use Rattle.rules.specs.Text.{line_feed, has_line, starts_with, byte, delay_word, delay_text, Signed32}
use Rattle.rules.proofs.Lists.{or-none, and_left, and_right, and_both, eq_test, chosen, not_chosen}
use Rattle.rules.proofs.TextLines.{NoFeed, starts-split}

-- The digits of a number

digits-few : (k n : ℕ) → n < 10 → digits_up_to (suc k) n ≡ digit n ∷ []
unfolding digits_up_to
digits-few k n h = chosen (digit n ∷ []) (digits_up_to k (n / 10) ++ (digit (n % 10) ∷ [])) (ltb n 10) (lt→ltb n 10 h)

digits-many : (k n : ℕ) → 10 ≤ n → digits_up_to (suc k) n ≡ digits_up_to k (n / 10) ++ (digit (n % 10) ∷ [])
unfolding digits_up_to
digits-many k n h = not_chosen (digit n ∷ []) (digits_up_to k (n / 10) ++ (digit (n % 10) ∷ [])) (ltb n 10) (λ t. omega (arith, ltb→lt n 10 t))

few-or-many : (n : ℕ) → (n < 10) ⊎ (10 ≤ n)
few-or-many n = go (dec_lt n 10)
  where
    go : Dec (n < 10) → (n < 10) ⊎ (10 ≤ n)
    go (yes h) = inl h
    go (no h) = inr (omega (arith, h))

-- more places than a number has digits change nothing
digits-enough : (j k n : ℕ) → n < j → n < k → digits_up_to j n ≡ digits_up_to k n
digits-enough (suc j) (suc k) n g h = go (few-or-many n) (λ a. digits-enough j k (n / 10) (omega arith) (omega arith))
  where
    go : (n < 10) ⊎ (10 ≤ n) → (10 ≤ n → digits_up_to j (n / 10) ≡ digits_up_to k (n / 10)) → digits_up_to (suc j) n ≡ digits_up_to (suc k) n
    go (inl a) below = digits-few j n a ∙ sym (digits-few k n a)
    go (inr a) below = digits-many j n a ∙ ap (λ l. l ++ (digit (n % 10) ∷ [])) (below a) ∙ sym (digits-many k n a)
digits-enough zero k n g h = elim g [ ]
digits-enough (suc j) zero n g h = elim h [ ]

-- a number below 10 is a digit; another is that of its tens, and a digit
pub decimal_digit : (d : ℕ) → d < 10 → decimal d ≡ digit d ∷ []
unfolding decimal
decimal_digit d h = digits-few d d h

pub decimal-many : (v d : ℕ) → 1 ≤ v → d < 10 → decimal (10 * v + d) ≡ decimal v ++ (digit d ∷ [])
unfolding decimal
decimal-many v d h g =
    let n : ℕ = 10 * v + d in
    let tens : n / 10 ≡ v = omega arith in
    let ones : n % 10 ≡ d = omega arith in
    digits-many n n (omega arith) ∙ rw (tens, ones) (ap (λ l. l ++ (digit d ∷ [])) (digits-enough n (suc v) v (omega arith) (omega arith)))

-- so what holds of the digits, and of a number with a digit more, holds of all numbers
module _ (P : ℕ → Type 0) (few : (d : ℕ) → d < 10 → P d) (many : (v d : ℕ) → 1 ≤ v → d < 10 → P v → P (10 * v + d)) where
  by-digits-below : (k n : ℕ) → n < k → P n
  by-digits-below (suc k) n h = go (few-or-many n) (λ a. by-digits-below k (n / 10) (omega arith))
    where
      go : (n < 10) ⊎ (10 ≤ n) → (10 ≤ n → P (n / 10)) → P n
      go (inl a) below = few n a
      go (inr a) below =
          let parts : 10 * (n / 10) + n % 10 ≡ n = omega arith in
          subst P parts (many (n / 10) (n % 10) (omega arith) (omega arith) (below a))
  by-digits-below zero n h = elim h [ ]

  by_digits : (n : ℕ) → P n
  by_digits n = by-digits-below (suc n) n (omega arith)

-- its value is the number
value-append : (v : ℕ) (bs : List ℕ) (b : ℕ) → value_from v (bs ++ (b ∷ [])) ≡ 10 * value_from v bs + (b - 48)
unfolding value_from
value-append v [] b = refl
value-append v (c ∷ bs) b = value-append (10 * v + (c - 48)) bs b

pub decimal-value : (n : ℕ) → value (decimal n) ≡ n
unfolding value_from
decimal-value = by_digits (λ n. value (decimal n) ≡ n)
    (λ d h. rw (decimal_digit d h) (omega arith))
    (λ v d h g e. rw (decimal-many v d h g, value-append, e) (omega arith))

-- each byte of it is a digit
every_append : (bs : List ℕ) (b : ℕ) → T (every is_digit bs) → T (is_digit b) → T (every is_digit (bs ++ (b ∷ [])))
unfolding every
every_append [] b f t = and_both (is_digit b) true t tt
every_append (c ∷ bs) b f t = and_both (is_digit c) (every is_digit (bs ++ (b ∷ []))) (and_left (is_digit c) (every is_digit bs) f) (every_append bs b (and_right (is_digit c) (every is_digit bs) f) t)

digit-is : (d : ℕ) → d < 10 → T (is_digit (digit d))
digit-is d h = and_both (leb 48 (48 + d)) (leb (48 + d) 57) (le→leb 48 (48 + d) (omega arith)) (le→leb (48 + d) 57 (omega arith))

decimal-digits : (n : ℕ) → T (every is_digit (decimal n))
unfolding every
decimal-digits = by_digits (λ n. T (every is_digit (decimal n)))
    (λ d h. rw (decimal_digit d h) (and_both (is_digit (digit d)) true (digit-is d h) tt))
    (λ v d h g e. rw (decimal-many v d h g) (every_append (decimal v) (digit d) e (digit-is d g)))

-- the first digit of a number above 0 is above 0
abbrev Leads : List ℕ → Type 0
Leads [] = ⊥
Leads (b ∷ bs) = 49 ≤ b

leads-append : (a b : List ℕ) → Leads a → Leads (a ++ b)
leads-append (x ∷ a) b h = h
leads-append [] b h = elim h [ ]

decimal-leads : (n : ℕ) → 1 ≤ n → Leads (decimal n)
decimal-leads = by_digits (λ n. 1 ≤ n → Leads (decimal n))
    (λ d h o. rw (decimal_digit d h) (omega arith))
    (λ v d h g e o. rw (decimal-many v d h g) (leads-append (decimal v) (digit d ∷ []) (e h)))

leads-form : (bs : List ℕ) → Leads bs → T (every is_digit bs) → T (is_decimal bs)
unfolding is_decimal
leads-form (b ∷ []) h t = and_both (every is_digit (b ∷ [])) true t tt
leads-form (b ∷ c ∷ bs) h t =
    and_both (every is_digit (b ∷ c ∷ bs)) (not (eqb b 48)) t (not_T (eqb b 48) (λ s. omega (arith, eqb→eq b 48 s)))
leads-form [] h t = elim h [ ]

-- so it is in its form
pub decimal-is : (n : ℕ) → T (is_decimal (decimal n))
unfolding is_decimal decimal digits_up_to every
decimal-is zero = tt
decimal-is (suc n) = leads-form (decimal (suc n)) (decimal-leads (suc n) (omega arith)) (decimal-digits (suc n))

-- a decimal number has one text
digit_value : (b : ℕ) → T (is_digit b) → (b - 48 < 10) × (digit (b - 48) ≡ b)
digit_value b t =
    let g = leb→le 48 b (and_left (leb 48 b) (leb b 57) t) in
    let h = leb→le b 57 (and_right (leb 48 b) (leb b 57) t) in
    (omega arith, omega arith)

decimal-from : (v : ℕ) (bs : List ℕ) → 1 ≤ v → T (every is_digit bs) → decimal (value_from v bs) ≡ decimal v ++ bs
unfolding value_from every
decimal-from v [] h t = sym (append-nil (decimal v))
decimal-from v (b ∷ bs) h t =
    let d = digit_value b (and_left (is_digit b) (every is_digit bs) t) in
    decimal-from (10 * v + (b - 48)) bs (omega arith) (and_right (is_digit b) (every is_digit bs) t)
    ∙ ap (λ l. l ++ bs) (decimal-many v (b - 48) h d.0)
    ∙ append_assoc (decimal v) (digit (b - 48) ∷ []) bs
    ∙ ap (λ c. decimal v ++ (c ∷ bs)) d.1

decimal-first : (b : ℕ) → T (is_digit b) → decimal (0 + (b - 48)) ≡ b ∷ []
decimal-first b t = let d = digit_value b t in decimal_digit (0 + (b - 48)) (omega (arith, d.0)) ∙ ap (λ c. c ∷ []) (omega (arith, d.1))

pub value-decimal : (bs : List ℕ) → T (is_decimal bs) → decimal (value bs) ≡ bs
unfolding is_decimal value_from every
value-decimal (b ∷ []) t = decimal-first b (and_left (is_digit b) true (and_left (is_digit b && true) true t))
value-decimal (b ∷ c ∷ bs) t =
    let digits : T (every is_digit (b ∷ c ∷ bs)) = and_left (every is_digit (b ∷ c ∷ bs)) (not (eqb b 48)) t in
    let first = and_left (is_digit b) (every is_digit (c ∷ bs)) digits in
    let lead : b ≡ 48 → ⊥ = λ e. T_not (eqb b 48) (and_right (every is_digit (b ∷ c ∷ bs)) (not (eqb b 48)) t) (eq_test e) in
    let d = digit_value b first in
    decimal-from (0 + (b - 48)) (c ∷ bs) (omega (arith, d.1)) (and_right (is_digit b) (every is_digit (c ∷ bs)) digits) ∙ ap (λ l. l ++ (c ∷ bs)) (decimal-first b first)
value-decimal [] t = elim t [ ]

-- Numbers of a width

module _ (most : ℕ) where
  pub number_read : (n : ℕ) → n ≤ most → number_up_to most (decimal n) ≡ Some n
  unfolding number_up_to
  number_read n h = rw (decimal-value n) (chosen (Some n) None (is_decimal (decimal n) && leb n most) (and_both (is_decimal (decimal n)) (leb n most) (decimal-is n) (le→leb n most h)))

  pub number-text : (bs : List ℕ) (n : ℕ) → number_up_to most bs ≡ Some n → (bs ≡ decimal n) × (n ≤ most)
  unfolding number_up_to
  number-text bs n e = go (is_decimal bs && leb (value bs) most) (λ t. t) e
    where
      go : (b : Bool) → (T b → T (is_decimal bs && leb (value bs) most)) → cond b (Some (value bs)) None ≡ Some n → (bs ≡ decimal n) × (n ≤ most)
      go false pass e = let z : ◌≡◌ {A = ℕ} 0 1 = cc in absurd (omega arith)
      go true pass e =
          let is : value bs ≡ n = cc in (
            sym (value-decimal bs (and_left (is_decimal bs) (leb (value bs) most) (pass tt))) ∙ ap decimal is,
            subst (λ k. k ≤ most) is (leb→le (value bs) most (and_right (is_decimal bs) (leb (value bs) most) (pass tt))),
          )

-- a number begins with a digit
number-first : (b : ℕ) (bs : List ℕ) → T (is_decimal (b ∷ bs)) → T (is_digit b)
unfolding is_decimal every
number-first b bs t = and_left (is_digit b) (every is_digit bs) (and_left (every is_digit (b ∷ bs)) (not (leading_zero (b ∷ bs))) t)

-- Numbers of signed 32 bits

not_negative_lem : (bs : List ℕ) → T (is_decimal bs) → signed_number bs ≡ not_negative (number_up_to 2147483647 bs)
unfolding signed_number is_decimal
not_negative_lem (b ∷ bs) t =
    let d = digit_value b (number-first b bs t) in
    not_chosen (negative (number_up_to 2147483648 bs)) (not_negative (number_up_to 2147483647 (b ∷ bs))) (eqb b 45) (λ s. omega (arith, eqb→eq b 45 s, d.1))
not_negative_lem [] t = elim t [ ]

pub signed-read : (z : ℤ) → Signed32 z → signed_number (signed_decimal z) ≡ Some z
unfolding signed_number
signed-read (pos n) h = not_negative_lem (decimal n) (decimal-is n) ∙ ap not_negative (number_read 2147483647 n h)
signed-read (negsuc n) h = ap negative (number_read 2147483648 (suc n) h)

pub signed-text : (bs : List ℕ) (z : ℤ) → signed_number bs ≡ Some z → (bs ≡ signed_decimal z) × Signed32 z
unfolding signed_number
signed-text [] z e = let n : ◌≡◌ {A = ℕ} 0 1 = cc in absurd (omega arith)
signed-text (b ∷ bs) z e = go (eqb b 45) (eqb→eq b 45) e
  where
    below : (o : Option ℕ) → number_up_to 2147483648 bs ≡ o → negative o ≡ Some z → (45 ∷ bs ≡ signed_decimal z) × Signed32 z
    below None r e = let n : ◌≡◌ {A = ℕ} 0 1 = cc in absurd (omega arith)
    below (Some zero) r e = let n : ◌≡◌ {A = ℕ} 0 1 = cc in absurd (omega arith)
    below (Some (suc n)) r e =
        let s = number-text 2147483648 bs (suc n) r in
        let is : negsuc n ≡ z = cc in
        subst (λ z. (45 ∷ bs ≡ signed_decimal z) × Signed32 z) is (ap (λ l. 45 ∷ l) s.0, s.1)

    above : (o : Option ℕ) → number_up_to 2147483647 (b ∷ bs) ≡ o → not_negative o ≡ Some z → (b ∷ bs ≡ signed_decimal z) × Signed32 z
    above None r e = let n : ◌≡◌ {A = ℕ} 0 1 = cc in absurd (omega arith)
    above (Some n) r e =
        let is : pos n ≡ z = cc in
        subst (λ z. (b ∷ bs ≡ signed_decimal z) × Signed32 z) is (number-text 2147483647 (b ∷ bs) n r)

    go : (c : Bool) → (T c → b ≡ 45) → cond c (negative (number_up_to 2147483648 bs)) (not_negative (number_up_to 2147483647 (b ∷ bs))) ≡ Some z → (b ∷ bs ≡ signed_decimal z) × Signed32 z
    go true is e = subst (λ c. (c ∷ bs ≡ signed_decimal z) × Signed32 z) (sym (is tt)) (below (number_up_to 2147483648 bs) refl e)
    go false is e = above (number_up_to 2147483647 (b ∷ bs)) refl e

-- Delay words

none_first : (bs : List ℕ) → T (is_decimal bs) → T (starts_with (bytes "none") bs) → ⊥
unfolding starts_with
none_first [] t s = s
none_first (b ∷ bs) t s = omega (arith, (digit_value b (number-first b bs t)).0, eqb→eq 110 b (and_left (eqb 110 b) (starts_with (bytes "one") bs) s))

delay-decimal : (d : ℕ) → d ≤ 255 → delay_text d ≡ decimal d
delay-decimal d h = not_chosen (bytes "none") (decimal d) (eqb d 256) (λ t. omega (arith, eqb→eq d 256 t))

pub delay-read : (d : ℕ) → d ≤ 256 → delay_word (delay_text d) ≡ Some d
unfolding delay_word starts_with
delay-read d h = go (dec_lt d 256)
  where
    go : Dec (d < 256) → delay_word (delay_text d) ≡ Some d
    go (yes a) =
        ap delay_word (delay-decimal d (omega arith))
        ∙ not_chosen (Some 256) (byte (decimal d)) (starts_with (bytes "none") (decimal d) && eqb (length (decimal d)) 4) (λ t. none_first (decimal d) (decimal-is d) (and_left (starts_with (bytes "none") (decimal d)) (eqb (length (decimal d)) 4) t))
        ∙ number_read 255 d (omega arith)
    go (no a) = let e : 256 ≡ d = omega (arith, a) in subst (λ d. delay_word (delay_text d) ≡ Some d) e refl

pub delay-text : (bs : List ℕ) (d : ℕ) → delay_word bs ≡ Some d → (bs ≡ delay_text d) × (d ≤ 256)
unfolding delay_word
delay-text bs d e = go (starts_with (bytes "none") bs && eqb (length bs) 4) (λ t. t) e
  where
    go : (b : Bool) → (T b → T (starts_with (bytes "none") bs && eqb (length bs) 4)) → cond b (Some 256) (byte bs) ≡ Some d → (bs ≡ delay_text d) × (d ≤ 256)
    go true pass e =
        let named = and_left (starts_with (bytes "none") bs) (eqb (length bs) 4) (pass tt) in
        let long = eqb→eq (length bs) 4 (and_right (starts_with (bytes "none") bs) (eqb (length bs) 4) (pass tt)) in
        let whole : bs ≡ bytes "none" = starts-split (bytes "none") bs named ∙ ap (λ l. bytes "none" ++ l) (drop_of_length-le bs {i = 4} (omega arith)) in
        let is : 256 ≡ d = cc in
        subst (λ d. (bs ≡ delay_text d) × (d ≤ 256)) is (whole, omega arith)
    go false pass e = let s = number-text 255 bs d e in (s.0 ∙ sym (delay-decimal d s.1), omega (arith, s.1))

-- No byte of these texts is the line feed

digits-no-feed : (bs : List ℕ) → T (every is_digit bs) → NoFeed bs
unfolding every any
digits-no-feed [] t = λ s. s
digits-no-feed (b ∷ bs) t =
    or-none (eqb line_feed b) (has_line bs) (λ s. omega (arith, eqb→eq line_feed b s, (digit_value b (and_left (is_digit b) (every is_digit bs) t)).1)) (digits-no-feed bs (and_right (is_digit b) (every is_digit bs) t))

pub decimal-has-no-feed : (n : ℕ) → NoFeed (decimal n)
decimal-has-no-feed n = digits-no-feed (decimal n) (decimal-digits n)

pub signed-has-no-feed : (z : ℤ) → NoFeed (signed_decimal z)
unfolding any
signed-has-no-feed (pos n) = decimal-has-no-feed n
signed-has-no-feed (negsuc n) = decimal-has-no-feed (suc n)

pub delay-has-no-feed : (d : ℕ) → NoFeed (delay_text d)
unfolding any
delay-has-no-feed d = go (eqb d 256)
  where
    go : (b : Bool) → NoFeed (cond b (bytes "none") (decimal d))
    go true = λ t. t
    go false = decimal-has-no-feed d
