-- How many entries of a list pass a test, and that no entry stands twice where a test counts it once. Assumes nothing.
use mathlib.Core.Bool.{Bool, true, false, not, cond, ◌&&◌, ◌||◌}
use mathlib.Core.List.Memᴰ
use mathlib.Core.List.{List, [], ◌∷◌, ◌++◌, map, flat_map, Memᴰ}
use mathlib.Core.Path.{◌≡◌, refl, sym, ap, subst}
use Prim.Native.Nat.{ℕ, suc, ◌+◌, ◌≤◌, ◌<◌, zero-le}
use native.Mathlib.Omega.{arith}
use lib.Dec.{T, T_not, eqb, eqb_refl}
use lib.ListN.{length}
use Rattle.rules.specs.Lists.{keep, count, once, Distinct}
use Rattle.rules.proofs.Lists.{chosen, keep_out, flat_out}
use Rattle.rules.proofs.Distinct.{distinct_append}

module _ {A : Type 0} where
  count_yes : (f : A → Bool) (x : A) (l : List A) → T (f x) → count f (x ∷ l) ≡ suc (count f l)
  unfolding count
  count_yes f x l t = chosen (suc (count f l)) (count f l) (f x) t

  count-more : (f : A → Bool) (x : A) (l : List A) → count f l ≤ count f (x ∷ l)
  unfolding count
  count-more f x l = go (f x)
    where
      go : (b : Bool) → count f l ≤ cond b (suc (count f l)) (count f l)
      go true = omega arith
      go false = omega arith

  pub count-append : (f : A → Bool) (a b : List A) → count f (a ++ b) ≡ count f a + count f b
  unfolding count
  count-append f [] b = omega arith
  count-append f (x ∷ a) b = go (f x) (count-append f a b)
    where
      go : (c : Bool) → count f (a ++ b) ≡ count f a + count f b → cond c (suc (count f (a ++ b))) (count f (a ++ b)) ≡ cond c (suc (count f a)) (count f a) + count f b
      go true e = omega arith
      go false e = e

  pub count_none : (f : A → Bool) (l : List A) → ((x : A) → Memᴰ x l → T (f x) → ⊥) → count f l ≡ 0
  unfolding count
  count_none f [] h = refl
  count_none f (x ∷ l) h = go (f x) (h x (Memᴰ.head refl)) (count_none f l (λ y m. h y (Memᴰ.tail m)))
    where
      go : (b : Bool) → (T b → ⊥) → count f l ≡ 0 → cond b (suc (count f l)) (count f l) ≡ 0
      go true k e = absurd (k tt)
      go false k e = e

  pub count-every : (l : List A) → count (λ x. true) l ≡ length l
  unfolding count
  count-every [] = refl
  count-every (x ∷ l) = ap suc (count-every l)

  -- of all entries, those that pass and those that don't
  pub count-both : (f : A → Bool) (l : List A) → count f l + count (λ x. not (f x)) l ≡ length l
  unfolding count
  count-both f [] = refl
  count-both f (x ∷ l) = go (f x) (count-both f l)
    where
      go : (b : Bool) → count f l + count (λ y. not (f y)) l ≡ length l
          → cond b (suc (count f l)) (count f l) + cond (not b) (suc (count (λ y. not (f y)) l)) (count (λ y. not (f y)) l) ≡ suc (length l)
      go true e = omega arith
      go false e = omega arith

  pub count_most : (f : A → Bool) (l : List A) → count f l ≤ length l
  count_most f l = omega (arith, count-both f l)

  pub count-keep : (f g : A → Bool) (l : List A) → count f (keep g l) ≡ count (λ x. g x && f x) l
  unfolding count keep
  count-keep f g [] = refl
  count-keep f g (x ∷ l) = go (g x) (f x) refl (count-keep f g l)
    where
      go : (b c : Bool) → f x ≡ c → count f (keep g l) ≡ count (λ x. g x && f x) l
          → count f (cond b (x ∷ keep g l) (keep g l)) ≡ cond (b && c) (suc (count (λ x. g x && f x) l)) (count (λ x. g x && f x) l)
      go true c p e = rw (p, e)
      go false c p e = e

  -- a test that passes less counts less
  pub count_under : (f g : A → Bool) (l : List A) → ((x : A) → Memᴰ x l → T (f x) → T (g x)) → count f l ≤ count g l
  unfolding count
  count_under f g [] h = zero-le
  count_under f g (x ∷ l) h = go (f x) (g x) (h x (Memᴰ.head refl)) (count_under f g l (λ y m. h y (Memᴰ.tail m)))
    where
      go : (b c : Bool) → (T b → T c) → count f l ≤ count g l → cond b (suc (count f l)) (count f l) ≤ cond c (suc (count g l)) (count g l)
      go true true i e = omega arith
      go true false i e = absurd (i tt)
      go false true i e = omega arith
      go false false i e = e

  pub count_same : (f g : A → Bool) (l : List A) → ((x : A) → Memᴰ x l → f x ≡ g x) → count f l ≡ count g l
  count_same f g l h = omega (arith, count_under f g l (λ x m t. subst T (h x m) t), count_under g f l (λ x m t. subst T (sym (h x m)) t))

  pub count-split : (f g : A → Bool) (l : List A) → count (λ x. f x && g x) l + count (λ x. not (f x) && g x) l ≡ count g l
  unfolding count
  count-split f g [] = omega arith
  count-split f g (x ∷ l) = go (f x) (g x) (count-split f g l)
    where
      go : (b c : Bool) → count (λ x. f x && g x) l + count (λ x. not (f x) && g x) l ≡ count g l
          → cond (b && c) (suc (count (λ x. f x && g x) l)) (count (λ x. f x && g x) l) + cond (not b && c) (suc (count (λ x. not (f x) && g x) l)) (count (λ x. not (f x) && g x) l) ≡ cond c (suc (count g l)) (count g l)
      go true true e = omega arith
      go true false e = e
      go false true e = omega arith
      go false false e = e

  pub count-in : (f : A → Bool) {x : A} {l : List A} → Memᴰ x l → T (f x) → 0 < count f l
  count-in f {l = y ∷ l} (Memᴰ.head e) t = omega (arith, count_yes f y l (subst (λ z. T (f z)) e t))
  count-in f {l = y ∷ l} (Memᴰ.tail m) t = omega (arith, count-more f y l, count-in f m t)
  count-in f {l = []} x6 t = elim x6 [ ]

  -- some test that x passes counts one entry at most
  pub count-out : (f : A → Bool) (l : List A) → 0 < count f l → (x : A) × Memᴰ x l × T (f x)
  unfolding count
  count-out f [] h = absurd (omega arith)
  count-out f (x ∷ l) h = go (f x) (λ t. t) (count-out f l) h
    where
      go : (b : Bool) → (T b → T (f x)) → (0 < count f l → (y : A) × Memᴰ y l × T (f y)) → 0 < cond b (suc (count f l)) (count f l) → (y : A) × Memᴰ y (x ∷ l) × T (f y)
      go true t ih k = (x, Memᴰ.head refl, t tt)
      go false t ih k = let r = ih k in (r.0, Memᴰ.tail r.1, r.2)

  abbrev pub Once : A → List A → Type 0
  Once x l = (f : A → Bool) × T (f x) × (count f l ≤ 1)

  once_more : (x y : A) (l : List A) → Once x (y ∷ l) → Once x l
  once_more x y l o = (o.0, o.1, omega (arith, count-more o.0 y l, o.2))

  once-out : (x : A) (l : List A) → Once x (x ∷ l) → Memᴰ x l → ⊥
  once-out x l o m = omega (arith, count_yes o.0 x l o.1, count-in o.0 m o.1, o.2)

  pub distinct-once : (l : List A) → ((x : A) → Memᴰ x l → Once x l) → Distinct l
  distinct-once [] h = tt
  distinct-once (x ∷ l) h = (once-out x l (h x (Memᴰ.head refl)), distinct-once l (λ y m. once_more y x l (h y (Memᴰ.tail m))))

  pub distinct-keep : (f : A → Bool) (l : List A) → Distinct l → Distinct (keep f l)
  unfolding keep
  distinct-keep f [] d = tt
  distinct-keep f (x ∷ l) d = go (f x) (distinct-keep f l d.1)
    where
      go : (b : Bool) → Distinct (keep f l) → Distinct (cond b (x ∷ keep f l) (keep f l))
      go true e = (λ m. d.0 (keep_out f l m).0, e)
      go false e = e

module _ {A B : Type 0} where
  pub count_map : (f : B → Bool) (g : A → B) (l : List A) → count f (map g l) ≡ count (λ x. f (g x)) l
  unfolding count
  count_map f g [] = refl
  count_map f g (x ∷ l) = ap (λ n. cond (f (g x)) (suc n) n) (count_map f g l)

  -- distinct rows that share nothing are distinct together, if an entry with a row that is not empty stands once
  pub distinct-flat : (f : A → List B) (l : List A) → ((x : A) (z : B) → Memᴰ x l → Memᴰ z (f x) → Once x l) → ((x : A) → Memᴰ x l → Distinct (f x))
      → ((x y : A) (z : B) → Memᴰ x l → Memᴰ y l → Memᴰ z (f x) → Memᴰ z (f y) → x ≡ y) → Distinct (flat_map f l)
  unfolding flat_map
  distinct-flat f [] once rows apart = tt
  distinct-flat f (x ∷ l) once rows apart =
      distinct_append (f x) (flat_map f l) (rows x (Memᴰ.head refl))
      (distinct-flat f l (λ y z m n. once_more y x l (once y z (Memᴰ.tail m) n)) (λ y m. rows y (Memᴰ.tail m)) (λ y y' z m m'. apart y y' z (Memᴰ.tail m) (Memᴰ.tail m')))
      (λ z m n.
      let r = flat_out f l n in
      let e = apart x r.0 z (Memᴰ.head refl) (Memᴰ.tail r.1) m r.2 in
      once-out x l (once x z (Memᴰ.head refl) m) (Memᴰ.cast e r.1))

-- entries that pass either of two tests that exclude each other
pub count-or : {A : Type 0} (f g : A → Bool) (l : List A) → ((x : A) → T (f x) → T (g x) → ⊥) → count f l + count g l ≡ count (λ x. f x || g x) l
unfolding count
count-or f g [] h = refl
count-or f g (x ∷ l) h = go (f x) (g x) (h x) (count-or f g l h)
  where
    go : (b c : Bool) → (T b → T c → ⊥) → count f l + count g l ≡ count (λ x. f x || g x) l
        → cond b (suc (count f l)) (count f l) + cond c (suc (count g l)) (count g l) ≡ cond (b || c) (suc (count (λ x. f x || g x) l)) (count (λ x. f x || g x) l)
    go true true k e = absurd (k tt tt)
    go true false k e = omega arith
    go false true k e = omega arith
    go false false k e = e

-- a number that is listed several times is kept once
pub once-distinct : (l : List ℕ) → Distinct (once l)
unfolding once
once-distinct [] = tt
once-distinct (x ∷ l) =
    (λ m. T_not (eqb x x) (keep_out (λ y. not (eqb y x)) (once l) m).1 (eqb_refl x), distinct-keep (λ y. not (eqb y x)) (once l) (once-distinct l))
