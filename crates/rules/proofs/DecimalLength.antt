-- How many digits a number has. Assumes nothing.
use mathlib.Core.Bool.{Bool, true, false, cond}
use mathlib.Core.List.{[], ◌∷◌, ◌++◌}
use Prim.Native.Nat.{ℕ, zero, suc, ◌/◌, ◌%◌, ◌^◌, ◌≤◌, ◌<◌}
use native.Mathlib.Nat.{pow-suc, div-lt_iff_lt-mul}
use native.Mathlib.Omega.{arith}
use lib.Dec.{T, ltb, lt→ltb}
use lib.ListN.{length, length-append}
use Rattle.rules.specs.Bytes.{largest64, digit, digits_up_to, decimal}

-- a number below a power of ten has no more digits than the power
digits-length : (f k n : ℕ) → n < 10 ^ suc k → length (digits_up_to f n) ≤ suc k
unfolding digits_up_to
digits-length zero k n h = omega arith
digits-length (suc f) zero n h = go (ltb n 10) (lt→ltb n 10 (omega arith))
  where
    go : (b : Bool) → T b → length (cond b (digit n ∷ []) (digits_up_to f (n / 10) ++ (digit (n % 10) ∷ []))) ≤ 1
    go true t = omega arith
    go false t = elim t [ ]
digits-length (suc f) (suc k) n h = go (ltb n 10) (digits-length f k (n / 10) ((div-lt_iff_lt-mul (omega arith)).1 (rw (pow-suc 10 (suc k)) at h)))
  where
    go : (b : Bool) → length (digits_up_to f (n / 10)) ≤ suc k → length (cond b (digit n ∷ []) (digits_up_to f (n / 10) ++ (digit (n % 10) ∷ []))) ≤ suc (suc k)
    go true ih = omega arith
    go false ih = omega (arith, length-append (digits_up_to f (n / 10)) (digit (n % 10) ∷ []))

pub decimal-length : (n k : ℕ) → n < 10 ^ k → 0 < k → length (decimal n) ≤ k
unfolding decimal
decimal-length n zero h p = absurd (omega arith)
decimal-length n (suc k) h p = digits-length (suc n) k n h

digits-few : (f n : ℕ) → length (digits_up_to f n) ≤ f
unfolding digits_up_to
digits-few zero n = omega arith
digits-few (suc f) n = go (ltb n 10) (digits-few f (n / 10))
  where
    go : (b : Bool) → length (digits_up_to f (n / 10)) ≤ f → length (cond b (digit n ∷ []) (digits_up_to f (n / 10) ++ (digit (n % 10) ∷ []))) ≤ suc f
    go true ih = omega arith
    go false ih = omega (arith, length-append (digits_up_to f (n / 10)) (digit (n % 10) ∷ []))

-- a number n has no more than n + 1 digits
pub decimal-few : (n : ℕ) → length (decimal n) ≤ suc n
unfolding decimal
decimal-few n = digits-few (suc n) n

-- a number of 64 bits has at most 20 digits, and one of 32 bits at most 10
pub length-64 : (n : ℕ) → n ≤ largest64 → length (decimal n) ≤ 20
length-64 n h = decimal-length n 20 (omega arith) (omega arith)

pub length-32 : (n : ℕ) → n ≤ 4294967295 → length (decimal n) ≤ 10
length-32 n h = decimal-length n 10 (omega arith) (omega arith)
