-- Counting with tests. Assumes nothing.
use mathlib.Core.Path.{◌≡◌, refl, sym, ap, subst, ◌∙◌}
use mathlib.Core.Bool.{Bool, true, false, cond, ◌&&◌, ◌||◌, or-false}
use mathlib.Core.List.Memᴰ
use mathlib.Core.List.{List, [], ◌∷◌, ◌++◌, Memᴰ}
use mathlib.Core.Logic.{⊎_elim, dite}
use Prim.Native.Nat.{ℕ, zero, suc, ◌+◌, ◌-◌, ◌<◌, ◌≤◌}
use native.Mathlib.Omega.{arith}
use native.Mathlib.Decide.{ℕ_discrete, dec_lt}
use native.Mathlib.Nat.{not-suc-le-zero}
use native.Mathlib.Numerals.{add-one}
use lib.ListN.{take, drop}
use lib.Seq.{take-add}
use lib.Dec.{T, eqb}
use Rattle.rules.specs.Lists.{any, keep, count, indices}
use Rattle.rules.proofs.Counts.{count-append, count_none, count-every, count_under, count_same, count_most}
use Rattle.rules.proofs.Indices.{indices-more, indices-length, indices-below, below-indices}

pub one : Bool → ℕ
one b = cond b 1 0

is : {b : Bool} → T b → b ≡ true
is {b = true} t = refl
is {b = false} t = elim t [ ]

holds : {b : Bool} → b ≡ true → T b
holds e = subst T (sym e) tt

-- by the value of a test
cases : {A : Type 0} (b : Bool) → (b ≡ true → A) → (b ≡ false → A) → A
cases true f g = f refl
cases false f g = g refl

pub one-true : {b : Bool} → b ≡ true → one b ≡ 1
unfolding one
one-true e = rw e

pub one-false : {b : Bool} → b ≡ false → one b ≡ 0
unfolding one
one-false e = rw e

pub and-false : (a b : Bool) → b ≡ false → (a && b) ≡ false
and-false true b e = e
and-false false b e = refl

pub and-true : (a b : Bool) → b ≡ true → (a && b) ≡ a
and-true true b e = e
and-true false b e = refl

less : (a b : Bool) → (T a → T b) → one a ≤ one b
unfolding one
less true true f = omega arith
less true false f = absurd (f tt)
less false b f = omega arith

module _ {A : Type 0} where
  pub count-nil : (p : A → Bool) → count p [] ≡ 0
  unfolding count
  count-nil p = refl

  pub count-cons : (p : A → Bool) (x : A) (l : List A) → count p (x ∷ l) ≡ one (p x) + count p l
  unfolding count one
  count-cons p x l = plus (p x) (count p l)
    where
      plus : (b : Bool) (r : ℕ) → cond b (suc r) r ≡ cond b 1 0 + r
      plus true r = omega arith
      plus false r = omega arith

  -- a shorter part counts no more
  pub count-take : (p : A → Bool) (l : List A) (i c : ℕ) → i ≤ c → count p (take i l) ≤ count p (take c l)
  count-take p l i c h =
      let e : c ≡ i + (c - i) = omega arith in
      omega (arith, ap (λ (k : ℕ). count p (take k l)) e, ap (count p) (take-add i (c - i) l), count-append p (take i l) (take (c - i) (drop i l)))

  -- two tests that count the same, and the first of which passes no more: the second passes no more either
  pub count-all : (p q : A → Bool) (l : List A) → ((x : A) → T (p x) → T (q x)) → count p l ≡ count q l → {x : A} → Memᴰ x l → T (q x) → T (p x)
  count-all p q [] h e m t = absurd (Memᴰ.not-nil m)
  count-all p q (y ∷ l) h e {x} m t =
      ⊎_elim
      (λ k. cases (p y) (λ a. subst (λ z. T (p z)) (sym k) (holds a))
      (λ a. absurd (omega (arith, count-cons p y l, count-cons q y l, one-false a, one-true {b = q y} (is (subst (λ z. T (q z)) k t)), count_under p q l (λ z n. h z)))))
      (λ n. count-all p q l h (omega (arith, count-cons p y l, count-cons q y l, less (p y) (q y) (h y), count_under p q l (λ z n. h z))) n t)
      (Memᴰ.cases_cons m)

  -- kept entries, one by one
  pub keep-yes : (p : A → Bool) (x : A) (l : List A) → p x ≡ true → keep p (x ∷ l) ≡ x ∷ keep p l
  unfolding keep
  keep-yes p x l e = rw e

  pub keep-no : (p : A → Bool) (x : A) (l : List A) → p x ≡ false → keep p (x ∷ l) ≡ keep p l
  unfolding keep
  keep-no p x l e = rw e

  pub keep-none : (p : A → Bool) (l : List A) → count p l ≡ 0 → keep p l ≡ []
  unfolding keep
  keep-none p [] h = refl
  keep-none p (x ∷ l) h =
      cases (p x) (λ e. absurd (omega (arith, count-cons p x l, one-true e)))
      (λ e. keep-no p x l e ∙ keep-none p l (omega (arith, count-cons p x l, one-false e)))

  pub keep_some : (p : A → Bool) (l : List A) → 0 < count p l → (y : A) × (ys : List A) × (keep p l ≡ y ∷ ys)
  keep_some p [] h = absurd (omega (arith, count-nil p))
  keep_some p (x ∷ l) h =
      cases (p x) (λ e. (x, keep p l, keep-yes p x l e))
      (λ e. let r = keep_some p l (omega (arith, count-cons p x l, one-false e)) in (r.0, r.1, keep-no p x l e ∙ r.2))

pub any_last : (x : ℕ) (us : List ℕ) (u : ℕ) → any (eqb x) (us ++ (u ∷ [])) ≡ (any (eqb x) us || eqb x u)
unfolding any
any_last x [] u = or-false (eqb x u)
any_last x (w ∷ us) u = rest (eqb x w) (any_last x us u)
  where
    rest : (b : Bool) → any (eqb x) (us ++ (u ∷ [])) ≡ (any (eqb x) us || eqb x u) → (b || any (eqb x) (us ++ (u ∷ []))) ≡ ((b || any (eqb x) us) || eqb x u)
    rest true e = refl
    rest false e = e

-- the numbers below n that pass
pub below_suc : (f : ℕ → Bool) (n : ℕ) → count f (indices (suc n)) ≡ one (f n) + count f (indices n)
below_suc f n = omega (arith, ap (λ (k : ℕ). count f (indices k)) (add-one n), ap (count f) (indices-more n), count-append f (indices n) (n ∷ []), count-cons f n [], count-nil f)

pub below-zero : (f : ℕ → Bool) → count f (indices 0) ≡ 0
below-zero f = omega (arith, count_most f (indices 0), indices-length 0)

-- two tests that agree but at x, where the first fails
pub below_one : (f g : ℕ → Bool) (n x : ℕ) → x < n → f x ≡ false → ((v : ℕ) → v < n → (v ≡ x → ⊥) → g v ≡ f v) → count g (indices n) ≡ one (g x) + count f (indices n)
below_one f g zero x l e h = absurd (not-suc-le-zero l)
below_one f g (suc n) x l e h =
    dite (ℕ_discrete n x)
    (λ q. omega (arith, below_suc f n, below_suc g n, one-false e, ap (λ (k : ℕ). one (f k)) q, ap (λ (k : ℕ). one (g k)) q, count_same g f (indices n) (λ v m. let k = indices-below n m in h v (omega arith) (λ r. omega arith))))
    (λ q. omega (arith, below_suc f n, below_suc g n, ap one (h n (omega arith) q), below_one f g n x (omega (arith, q)) e (λ v k r. h v (omega arith) r)))

-- a test that fails somewhere
pub below-lt : (f : ℕ → Bool) (n x : ℕ) → x < n → f x ≡ false → count f (indices n) < n
below-lt f n x l e =
    dite (dec_lt (count f (indices n)) n) (λ h. h)
    (λ h. absurd (subst T e (count-all f (λ v. true) (indices n) (λ v t. tt) (omega (arith, h, count-every (indices n), indices-length n, count_most f (indices n))) (below-indices n l) tt)))

-- a test that only x passes
pub below-only : (f : ℕ → Bool) (n x : ℕ) → ((v : ℕ) → T (f v) → v ≡ x) → count f (indices n) ≤ 1
below-only f zero x h = omega (arith, below-zero f)
below-only f (suc n) x h =
    cases (f n)
    (λ e. omega (arith, below_suc f n, one-true e, count_none f (indices n) (λ v m t. let a = h v t in let b = h n (holds e) in let k = indices-below n m in omega arith)))
    (λ e. omega (arith, below_suc f n, one-false e, below-only f n x h))
