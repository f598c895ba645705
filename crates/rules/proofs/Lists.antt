-- Tests and membership. Assumes nothing.
use mathlib.Core.Bool.{Bool, true, false, cond, ◌&&◌, ◌||◌, not, and-eq-true_iff}
use mathlib.Core.List.Memᴰ
use mathlib.Core.List.{List, [], ◌∷◌, ◌++◌, map, flat_map, map-append, append_assoc, append-nil, Memᴰ}
use mathlib.Core.Path.{◌≡◌, refl, sym, ap, ap₂, subst, ◌∙◌}
use mathlib.Core.Logic.{◌⊎◌, inl, inr, ⊎_elim}
use Prim.Native.Nat.{ℕ}
use lib.Dec.{T, eqb, eqb→eq, eqb_refl}
use Rattle.rules.specs.Lists.{any, keep}

pub or_left : (a b : Bool) → T a → T (a || b)
or_left true b t = tt
or_left false b t = elim t [ ]

pub or_right : (a b : Bool) → T b → T (a || b)
or_right true b t = tt
or_right false b t = t

pub or_cases : (a b : Bool) → T (a || b) → T a ⊎ T b
or_cases true b t = inl tt
or_cases false b t = inr t

pub and_left : (a b : Bool) → T (a && b) → T a
and_left true b t = tt
and_left false b t = elim t [ ]

pub and_right : (a b : Bool) → T (a && b) → T b
and_right true b t = t
and_right false b t = elim t [ ]

pub and_both : (a b : Bool) → T a → T b → T (a && b)
and_both true b s t = t
and_both false b s t = elim s [ ]

-- both tests, where they are known by their values
pub both_true : (a b : Bool) → a && b ≡ true → (a ≡ true) × (b ≡ true)
both_true a b e = (and-eq-true_iff a b).0 e

pub ruleset tests = (and_left, and_right, and_both, or_left, or_right)

-- two tests that pass together are equal
pub same_test : (a b : Bool) → (T a → T b) → (T b → T a) → a ≡ b
same_test true true f g = refl
same_test true false f g = absurd (f tt)
same_test false true f g = absurd (g tt)
same_test false false f g = refl

pub eq_test : {m n : ℕ} → m ≡ n → T (eqb m n)
eq_test {m} e = subst (λ k. T (eqb m k)) e (eqb_refl m)

pub passes : (b : Bool) → (T (not b) → ⊥) → T b
passes true h = tt
passes false h = h tt

-- a flag of 1 or 0 is set where its test passes
pub flag-set : (b : Bool) → not (eqb (cond b 1 0) 0) ≡ b
flag-set true = refl
flag-set false = refl

pub or-none : (a b : Bool) → (T a → ⊥) → (T b → ⊥) → T (a || b) → ⊥
or-none a b g h t = ⊎_elim g h (or_cases a b t)

-- a choice by a test that passes, and by one that does not
module _ {A : Type 0} (x y : A) where
  pub chosen : (b : Bool) → T b → cond b x y ≡ x
  chosen true t = refl
  chosen false t = elim t [ ]

  pub not_chosen : (b : Bool) → (T b → ⊥) → cond b x y ≡ y
  not_chosen true f = absurd (f tt)
  not_chosen false f = refl

module _ {A : Type 0} (f : A → Bool) where
  pub any-in : {x : A} {l : List A} → Memᴰ x l → T (f x) → T (any f l)
  unfolding any
  any-in {l = y ∷ l} (Memᴰ.head e) t = or_left (f y) (any f l) (subst (λ z. T (f z)) e t)
  any-in {l = y ∷ l} (Memᴰ.tail m) t = or_right (f y) (any f l) (any-in m t)
  any-in {l = []} x6 t = elim x6 [ ]

  pub any_out : (l : List A) → T (any f l) → (x : A) × Memᴰ x l × T (f x)
  unfolding any
  any_out (y ∷ l) t = go (any_out l) (or_cases (f y) (any f l) t)
    where
      go : (T (any f l) → (x : A) × Memᴰ x l × T (f x)) → T (f y) ⊎ T (any f l) → (x : A) × Memᴰ x (y ∷ l) × T (f x)
      go below (inl s) = (y, Memᴰ.head refl, s)
      go below (inr s) = let r = below s in (r.0, Memᴰ.tail r.1, r.2)
  any_out [] t = elim t [ ]

  pub keep-in : {x : A} {l : List A} → Memᴰ x l → T (f x) → Memᴰ x (keep f l)
  unfolding keep
  keep-in {x} {l = y ∷ l} (Memᴰ.head e) t = go (f y) (subst (λ z. T (f z)) e t)
    where
      go : (b : Bool) → T b → Memᴰ x (cond b (y ∷ keep f l) (keep f l))
      go true s = Memᴰ.head e
      go false s = elim s [ ]
  keep-in {x} {l = y ∷ l} (Memᴰ.tail m) t = go (f y) (keep-in m t)
    where
      go : (b : Bool) → Memᴰ x (keep f l) → Memᴰ x (cond b (y ∷ keep f l) (keep f l))
      go true s = Memᴰ.tail s
      go false s = s
  keep-in {x = x} {l = []} x6 t = elim x6 [ ]

  pub keep_out : {x : A} (l : List A) → Memᴰ x (keep f l) → Memᴰ x l × T (f x)
  unfolding keep
  keep_out [] m = absurd (Memᴰ.not-nil m)
  keep_out {x} (y ∷ l) m = go (f y) (λ t. t) (keep_out l) m
    where
      go : (b : Bool) → (T b → T (f y)) → (Memᴰ x (keep f l) → Memᴰ x l × T (f x)) → Memᴰ x (cond b (y ∷ keep f l) (keep f l)) → Memᴰ x (y ∷ l) × T (f x)
      go false pass below n = (Memᴰ.tail (below n).0, (below n).1)
      go true pass below n = on (Memᴰ.cases_cons n)
        where
          on : (x ≡ y) ⊎ Memᴰ x (keep f l) → Memᴰ x (y ∷ l) × T (f x)
          on (inl e) = (Memᴰ.head e, subst (λ z. T (f z)) (sym e) (pass tt))
          on (inr k) = (Memᴰ.tail (below k).0, (below k).1)

module _ {A B : Type 0} (f : A → List B) where
  pub flat_in : {x : A} {y : B} {l : List A} → Memᴰ x l → Memᴰ y (f x) → Memᴰ y (flat_map f l)
  unfolding flat_map
  flat_in {y} {l = z ∷ l} (Memᴰ.head e) n = Memᴰ.append_left (flat_map f l) (subst (λ w. Memᴰ y (f w)) e n)
  flat_in {l = z ∷ l} (Memᴰ.tail m) n = Memᴰ.append_right (f z) (flat_in m n)
  flat_in {y = y} {l = []} x6 n = elim x6 [ ]

  pub flat_out : {y : B} (l : List A) → Memᴰ y (flat_map f l) → (x : A) × Memᴰ x l × Memᴰ y (f x)
  unfolding flat_map
  flat_out [] n = absurd (Memᴰ.not-nil n)
  flat_out {y} (z ∷ l) n = go (flat_out l) (Memᴰ.append_cases (f z) n)
    where
      go : (Memᴰ y (flat_map f l) → (x : A) × Memᴰ x l × Memᴰ y (f x)) → Memᴰ y (f z) ⊎ Memᴰ y (flat_map f l) → (x : A) × Memᴰ x (z ∷ l) × Memᴰ y (f x)
      go below (inl k) = (z, Memᴰ.head refl, k)
      go below (inr k) = let r = below k in (r.0, Memᴰ.tail r.1, r.2)

  pub flat_append : (a b : List A) → flat_map f (a ++ b) ≡ flat_map f a ++ flat_map f b
  unfolding flat_map
  flat_append [] b = refl
  flat_append (x ∷ a) b = ap (λ l. f x ++ l) (flat_append a b) ∙ sym (append_assoc (f x) (flat_map f a) (flat_map f b))

  pub flat-more : (a : List A) (x : A) → flat_map f (a ++ (x ∷ [])) ≡ flat_map f a ++ f x
  unfolding flat_map
  flat-more a x = flat_append a (x ∷ []) ∙ ap (λ l. flat_map f a ++ l) (append-nil (f x))

-- a number is listed exactly where the test finds it
pub any→mem : (v : ℕ) (l : List ℕ) → T (any (eqb v) l) → Memᴰ v l
any→mem v l t = let r = any_out (eqb v) l t in Memᴰ.cast (eqb→eq v r.0 r.2) r.1

pub mem→any : (v : ℕ) {l : List ℕ} → Memᴰ v l → T (any (eqb v) l)
mem→any v m = any-in (eqb v) m (eqb_refl v)

-- tests that agree on the entries of a list
module _ {A : Type 0} (f g : A → Bool) where
  pub any_same : (l : List A) → ((x : A) → Memᴰ x l → f x ≡ g x) → any f l ≡ any g l
  unfolding any
  any_same [] h = refl
  any_same (x ∷ l) h = let ih = any_same l (λ y m. h y (Memᴰ.tail m)) in rw (h x (Memᴰ.head refl), ih)

  pub keep_same : (l : List A) → ((x : A) → Memᴰ x l → f x ≡ g x) → keep f l ≡ keep g l
  unfolding keep
  keep_same [] h = refl
  keep_same (x ∷ l) h = let ih = keep_same l (λ y m. h y (Memᴰ.tail m)) in rw (h x (Memᴰ.head refl), ih)

module _ {A : Type 0} (f : A → Bool) where
  pub keep_append : (a b : List A) → keep f (a ++ b) ≡ keep f a ++ keep f b
  unfolding keep
  keep_append [] b = refl
  keep_append (x ∷ a) b = go (f x) (keep_append a b)
    where
      go : (c : Bool) → keep f (a ++ b) ≡ keep f a ++ keep f b → cond c (x ∷ keep f (a ++ b)) (keep f (a ++ b)) ≡ cond c (x ∷ keep f a) (keep f a) ++ keep f b
      go true e = ap (λ r. x ∷ r) e
      go false e = e

-- mapped lists
module _ {A B : Type 0} where
  pub map_same : (f g : A → B) (l : List A) → ((x : A) → Memᴰ x l → f x ≡ g x) → map f l ≡ map g l
  map_same f g [] h = refl
  map_same f g (x ∷ l) h = ap₂ ◌∷◌ (h x (Memᴰ.head refl)) (map_same f g l (λ y m. h y (Memᴰ.tail m)))

  pub any-map : (f : B → Bool) (g : A → B) (l : List A) → any f (map g l) ≡ any (λ x. f (g x)) l
  unfolding any
  any-map f g [] = refl
  any-map f g (x ∷ l) = ap (λ r. f (g x) || r) (any-map f g l)

  pub keep-map : (f : B → Bool) (g : A → B) (l : List A) → keep f (map g l) ≡ map g (keep (λ x. f (g x)) l)
  unfolding keep
  keep-map f g [] = refl
  keep-map f g (x ∷ l) = go (f (g x)) (keep-map f g l)
    where
      go : (b : Bool) → keep f (map g l) ≡ map g (keep (λ x. f (g x)) l) → cond b (g x ∷ keep f (map g l)) (keep f (map g l)) ≡ map g (cond b (x ∷ keep (λ x. f (g x)) l) (keep (λ x. f (g x)) l))
      go true e = ap (λ r. g x ∷ r) e
      go false e = e

  pub flat-map : {C : Type 0} (f : B → List C) (g : A → B) (l : List A) → flat_map f (map g l) ≡ flat_map (λ x. f (g x)) l
  unfolding flat_map
  flat-map f g [] = refl
  flat-map f g (x ∷ l) = ap (λ r. f (g x) ++ r) (flat-map f g l)

  -- rows for mapped entries that are mapped rows
  pub flat-mapped : {C D : Type 0} (f : B → List D) (g : A → B) (h : C → D) (k : A → List C) (l : List A) → ((x : A) → Memᴰ x l → f (g x) ≡ map h (k x)) → flat_map f (map g l) ≡ map h (flat_map k l)
  unfolding flat_map
  flat-mapped f g h k [] e = refl
  flat-mapped f g h k (x ∷ l) e = ap₂ ◌++◌ (e x (Memᴰ.head refl)) (flat-mapped f g h k l (λ y m. e y (Memᴰ.tail m))) ∙ sym (map-append h (k x) (flat_map k l))
