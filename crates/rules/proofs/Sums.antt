-- The best of a list is in it, and no entry is better: for the smallest and for the largest alike. Assumes nothing.
use mathlib.Core.List.Memᴰ
use mathlib.Core.List.{List, [], ◌∷◌, Memᴰ}
use mathlib.Core.Path.{◌≡◌, refl, sym, subst}
use mathlib.Core.Logic.{◌⊎◌, inl, inr, ⊎_elim}
use Prim.Native.Nat.{ℕ, ◌≤◌, ◌<◌, ◌+◌, min, max}
use native.Mathlib.Omega.{arith}
use native.Mathlib.Decide.{dec_le}
use Rattle.rules.specs.Delay.{cap}
use Rattle.rules.specs.Paths.{extreme}

pub order : (a b : ℕ) → (a ≤ b) ⊎ (b < a)
order a b = go (dec_le a b)
  where
    go : Dec (a ≤ b) → (a ≤ b) ⊎ (b < a)
    go (yes h) = inl h
    go (no h) = inr (omega arith)

-- a choice between two numbers, and the order by which it chooses
pub record Choice (f : ℕ → ℕ → ℕ) : Type 1 where
  pub Good : ℕ → ℕ → Type 0
  pub good_refl : (a : ℕ) → Good a a
  pub good_trans : (a b c : ℕ) → Good a b → Good b c → Good a c
  pub good_both : (a b : ℕ) → Good a b → Good b a → a ≡ b
  pub good_left : (a b : ℕ) → Good (f a b) a
  pub good_right : (a b : ℕ) → Good (f a b) b
  pub one_of : (a b : ℕ) → (f a b ≡ a) ⊎ (f a b ≡ b)
  pub onto : (d a b : ℕ) → Good a b → Good (min cap (a + d)) (min cap (b + d))

abbrev pub smaller : Choice min
smaller = record {
  Good = λ a b. a ≤ b;
  good_refl = λ a. omega arith;
  good_trans = λ a b c h k. omega arith;
  good_both = λ a b h k. omega arith;
  good_left = λ a b. omega arith;
  good_right = λ a b. omega arith;
  one_of = λ a b. ⊎_elim (λ h. inl (omega arith)) (λ h. inr (omega arith)) (order a b);
  onto = λ d a b h. omega arith;
}

abbrev pub larger : Choice max
larger = record {
  Good = λ a b. b ≤ a;
  good_refl = λ a. omega arith;
  good_trans = λ a b c h k. omega arith;
  good_both = λ a b h k. omega arith;
  good_left = λ a b. omega arith;
  good_right = λ a b. omega arith;
  one_of = λ a b. ⊎_elim (λ h. inr (omega arith)) (λ h. inl (omega arith)) (order a b);
  onto = λ d a b h. omega arith;
}

module _ {f : ℕ → ℕ → ℕ} (C : Choice f) where
  open C use {Good, good_refl, good_trans, good_both, good_left, good_right, one_of}

  extreme-in : (x : ℕ) (l : List ℕ) → Memᴰ (extreme f (x ∷ l)) (x ∷ l)
  unfolding extreme
  extreme-in x [] = Memᴰ.head refl
  extreme-in x (y ∷ l) = go (extreme-in y l) (one_of x (extreme f (y ∷ l)))
    where
      go : Memᴰ (extreme f (y ∷ l)) (y ∷ l) → (f x (extreme f (y ∷ l)) ≡ x) ⊎ (f x (extreme f (y ∷ l)) ≡ extreme f (y ∷ l)) → Memᴰ (f x (extreme f (y ∷ l))) (x ∷ y ∷ l)
      go m (inl e) = Memᴰ.head e
      go m (inr e) = Memᴰ.tail (Memᴰ.cast e m)

  pub extreme-at : {x : ℕ} (l : List ℕ) → Memᴰ x l → Memᴰ (extreme f l) l
  extreme-at [] m = absurd (Memᴰ.not-nil m)
  extreme-at (y ∷ l) m = extreme-in y l

  pub extreme-good : {x : ℕ} {l : List ℕ} → Memᴰ x l → Good (extreme f l) x
  unfolding extreme
  extreme-good {x} {l = y ∷ []} (Memᴰ.head e) = subst (Good y) (sym e) (good_refl y)
  extreme-good {l = y ∷ []} (Memᴰ.tail m) = absurd (Memᴰ.not-nil m)
  extreme-good {x} {l = y ∷ z ∷ l} (Memᴰ.head e) = subst (Good (f y (extreme f (z ∷ l)))) (sym e) (good_left y (extreme f (z ∷ l)))
  extreme-good {x} {l = y ∷ z ∷ l} (Memᴰ.tail m) = good_trans _ _ _ (good_right y (extreme f (z ∷ l))) (extreme-good m)
  extreme-good {x = x} {l = []} x3 = elim x3 [ ]

  -- each entry of l has one of r that is at least as good
  abbrev pub Under : List ℕ → List ℕ → Type 0
  Under l r = (x : ℕ) → Memᴰ x l → (y : ℕ) × Memᴰ y r × Good y x

  pub extreme-same : (l r : List ℕ) → Under l r → Under r l → extreme f l ≡ extreme f r
  extreme-same [] [] h k = refl
  extreme-same [] (y ∷ r) h k = absurd (Memᴰ.not-nil (k y (Memᴰ.head refl)).1)
  extreme-same (x ∷ l) [] h k = absurd (Memᴰ.not-nil (h x (Memᴰ.head refl)).1)
  extreme-same (x ∷ l) (y ∷ r) h k =
      let a = h (extreme f (x ∷ l)) (extreme-in x l) in
      let b = k (extreme f (y ∷ r)) (extreme-in y r) in
      good_both _ _ (good_trans _ _ _ (extreme-good b.1) b.2) (good_trans _ _ _ (extreme-good a.1) a.2)
