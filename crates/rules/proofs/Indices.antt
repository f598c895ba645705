-- The indices of a list, and lists that have one entry for each index. Assumes nothing.
use mathlib.Core.Bool.{Bool, true, false, not}
use mathlib.Core.List.Memᴰ
use mathlib.Core.List.{List, [], ◌∷◌, ◌++◌, map, map-map, Memᴰ}
use mathlib.Core.Path.{◌≡◌, refl, sym, ap, subst, ◌∙◌}
use mathlib.Core.Logic.{◌⊎◌, inl, inr}
use Prim.Native.Nat.{ℕ, zero, suc, ◌+◌, ◌-◌, ◌≤◌, ◌<◌}
use native.Mathlib.Omega.{arith}
use native.Mathlib.Nat.{zero-add, add-zero, suc-add}
use borrow.Author.Tests.{not-true}
use lib.Dec.{T}
use lib.ListN.{length, get_or, take, length-map}
use lib.Seq.{ext_get_or}
use Rattle.rules.specs.Lists.{any, from, indices, Distinct}
use Rattle.rules.proofs.Lists.{any-in, any_out}

module _ {A : Type 0} (d : A) where
  -- the entry at an index is an entry of the list, and every entry has an index
  pub at_mem : (l : List A) (i : ℕ) → i < length l → Memᴰ (get_or l i d) l
  at_mem [] i h = absurd (omega arith)
  at_mem (x ∷ l) zero h = Memᴰ.head refl
  at_mem (x ∷ l) (suc i) h = Memᴰ.tail (at_mem l i (omega arith))

  pub mem-at : {x : A} {l : List A} → Memᴰ x l → (i : ℕ) × (i < length l) × (get_or l i d ≡ x)
  mem-at (Memᴰ.head e) = (zero, omega arith, sym e)
  mem-at (Memᴰ.tail m) = let r = mem-at m in (suc r.0, omega arith, r.2)

-- no entry fails a test, or one does, or none is known to
module _ {A : Type 0} (d : A) (bad : A → Bool) (l : List A) where
  pub none-bad : ((k : ℕ) → k < length l → bad (get_or l k d) ≡ false) → true ≡ not (any bad l)
  none-bad h = none (any bad l) (λ t. let r = any_out bad l t in let i = mem-at d r.1 in subst T (h i.0 i.1) (subst (λ x. T (bad x)) (sym i.2) r.2))
    where
      none : (b : Bool) → (T b → ⊥) → true ≡ not b
      none true f = absurd (f tt)
      none false f = refl

  pub one-bad : (k : ℕ) → k < length l → bad (get_or l k d) ≡ true → false ≡ not (any bad l)
  one-bad k h e = some (any bad l) (any-in bad (at_mem d l k h) (subst T (sym e) tt))
    where
      some : (b : Bool) → T b → false ≡ not b
      some true t = refl
      some false t = elim t [ ]

  pub each-good : not (any bad l) ≡ true → (k : ℕ) → k < length l → bad (get_or l k d) ≡ false
  each-good e k h = go (bad (get_or l k d)) (any-in bad (at_mem d l k h))
    where
      go : (b : Bool) → (T b → T (any bad l)) → b ≡ false
      go true f = absurd (subst T (not-true (any bad l) e) (f tt))
      go false f = refl

module _ {A B : Type 0} (f : A → B) where
  pub map_at : (l : List A) (i : ℕ) (d : A) (e : B) → i < length l → get_or (map f l) i e ≡ f (get_or l i d)
  map_at [] i d e h = absurd (omega arith)
  map_at (x ∷ l) zero d e h = refl
  map_at (x ∷ l) (suc i) d e h = map_at l i d e (omega arith)

-- n numbers from i on
pub from-length : (i n : ℕ) → length (from i n) ≡ n
unfolding from
from-length i zero = refl
from-length i (suc n) = ap suc (from-length (suc i) n)

pub from_at : (i n k d : ℕ) → k < n → get_or (from i n) k d ≡ i + k
unfolding from
from_at i zero k d h = absurd (omega arith)
from_at i (suc n) zero d h = omega arith
from_at i (suc n) (suc k) d h = omega (arith, from_at (suc i) n k d (omega arith))

pub indices-length : (n : ℕ) → length (indices n) ≡ n
unfolding indices
indices-length n = from-length 0 n

pub indices-at : (n i d : ℕ) → i < n → get_or (indices n) i d ≡ i
unfolding indices
indices-at n i d h = omega (arith, from_at 0 n i d h)

-- the indices of n entries are the numbers below n
pub indices-below : (n : ℕ) {i : ℕ} → Memᴰ i (indices n) → i < n
indices-below n m =
    let r = mem-at 0 m in
    let h : r.0 < n = omega (arith, indices-length n, r.1) in
    omega (arith, indices-at n r.0 0 h, r.2)

pub below-indices : (n : ℕ) {i : ℕ} → i < n → Memᴰ i (indices n)
below-indices n {i} h = Memᴰ.cast (sym (indices-at n i 0 h)) (at_mem 0 (indices n) i (omega (arith, indices-length n)))

module _ {A : Type 0} (f : ℕ → A) where
  -- a list made of what each index gives
  pub made-length : (n : ℕ) → length (map f (indices n)) ≡ n
  made-length n = length-map (indices n) f ∙ indices-length n

  pub made_at : (n i : ℕ) (d : A) → i < n → get_or (map f (indices n)) i d ≡ f i
  made_at n i d h = map_at f (indices n) i 0 d (omega (arith, indices-length n)) ∙ ap f (indices-at n i 0 h)

  pub made-same : (l : List A) (d : A) → ((i : ℕ) → i < length l → f i ≡ get_or l i d) → map f (indices (length l)) ≡ l
  made-same l d h =
      ext_get_or d _ _ (made-length (length l)) (λ i k. let k' : i < length l = omega (arith, made-length (length l)) in made_at (length l) i d k' ∙ h i k')

-- every list is made of its entries by index
pub by_index : {A : Type 0} (l : List A) (d : A) → l ≡ map (λ i. get_or l i d) (indices (length l))
by_index l d = sym (made-same (λ i. get_or l i d) l d (λ i h. refl))

-- one field of the entries made by index is a given list
pub column : {A B : Type 0} (field : A → B) (f : ℕ → A) (n : ℕ) (l : List B) (d : B) → length l ≡ n → ((i : ℕ) → field (f i) ≡ get_or l i d) → map field (map f (indices n)) ≡ l
column field f n l d e h = rw (← e) (map-map field f (indices (length l)) ∙ made-same (λ i. field (f i)) l d (λ i k. h i))

-- the numbers still to come: the next one and the others, or none
pub from_next : (i n : ℕ) → i < n → from i (n - i) ≡ i ∷ from (suc i) (n - suc i)
unfolding from
from_next i n h = rw e
  where
    e : n - i ≡ suc (n - suc i)
    e = omega arith

pub from_end : (n : ℕ) → from n (n - n) ≡ []
unfolding from
from_end n = rw e
  where
    e : n - n ≡ 0
    e = omega arith

pub from-append : (i j k : ℕ) → from i (j + k) ≡ from i j ++ from (i + j) k
unfolding from
from-append i zero k = rw (zero-add, add-zero)
from-append i (suc j) k = rw (suc-add j k, across) (ap (λ r. i ∷ r) (from-append (suc i) j k))
  where
    across : i + suc j ≡ suc i + j
    across = omega arith

-- the indices are the numbers below i and those still to come
pub indices-split : (i n : ℕ) → i ≤ n → indices n ≡ indices i ++ from i (n - i)
unfolding indices
indices-split i n h = ap (from 0) whole ∙ rw zero-add at (from-append 0 i (n - i))
  where
    whole : n ≡ i + (n - i)
    whole = omega arith

-- one index more
pub indices-more : (i : ℕ) → indices (i + 1) ≡ indices i ++ (i ∷ [])
unfolding indices from
indices-more i = rw zero-add at (from-append 0 i 1)

module _ {A : Type 0} (d : A) where
  -- no entry stands twice, if none stands among those before it
  pub distinct-if : (l : List A) → ((i : ℕ) → i < length l → Memᴰ (get_or l i d) (take i l) → ⊥) → Distinct l
  distinct-if [] h = tt
  distinct-if (x ∷ l) h = (
    λ m. let r = mem-at d m in h (suc r.0) (omega arith) (Memᴰ.head r.2),
    distinct-if l (λ i k m. h (suc i) (omega arith) (Memᴰ.tail m)),
  )

  -- and the converse
  pub distinct-before : (l : List A) → Distinct l → (i : ℕ) → i < length l → Memᴰ (get_or l i d) (take i l) → ⊥
  distinct-before [] u i h m = omega arith
  distinct-before (x ∷ l) u zero h m = Memᴰ.not-nil m
  distinct-before (x ∷ l) u (suc i) h m = go (Memᴰ.cases_cons m) (distinct-before l u.1 i (omega arith))
    where
      go : (get_or l i d ≡ x) ⊎ Memᴰ (get_or l i d) (take i l) → (Memᴰ (get_or l i d) (take i l) → ⊥) → ⊥
      go (inl e) ih = u.0 (Memᴰ.cast (sym e) (at_mem d l i (omega arith)))
      go (inr k) ih = ih k

  -- entries that are equal stand at one index
  pub distinct-at : (l : List A) → Distinct l → (i j : ℕ) → i < length l → j < length l → get_or l i d ≡ get_or l j d → i ≡ j
  distinct-at [] u i j h k e = absurd (omega arith)
  distinct-at (x ∷ l) u zero zero h k e = refl
  distinct-at (x ∷ l) u zero (suc j) h k e = absurd (u.0 (Memᴰ.cast e (at_mem d l j (omega arith))))
  distinct-at (x ∷ l) u (suc i) zero h k e = absurd (u.0 (Memᴰ.cast (sym e) (at_mem d l i (omega arith))))
  distinct-at (x ∷ l) u (suc i) (suc j) h k e = ap suc (distinct-at l u.1 i j (omega arith) (omega arith) e)

-- numbers that rise by one are distinct
pub from-distinct : (i n : ℕ) → Distinct (from i n)
unfolding from
from-distinct i zero = tt
from-distinct i (suc n) = (λ m. let r = mem-at 0 m in omega (arith, r.1, r.2, from-length (suc i) n, from_at (suc i) n r.0 0 (omega (arith, r.1, from-length (suc i) n))), from-distinct (suc i) n)
