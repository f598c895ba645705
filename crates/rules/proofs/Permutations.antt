-- What a permutation keeps. Assumes nothing.
use mathlib.Core.Bool.{Bool, true, false, cond}
use mathlib.Core.List.Memᴰ
use mathlib.Core.List.Permᴰ
use mathlib.Core.List.{List, [], ◌∷◌, ◌++◌, flat_map, Memᴰ, Permᴰ}
use mathlib.Core.Path.{◌≡◌, refl, sym, ap, ap₂, subst, ◌∙◌}
use Prim.Native.Nat.{ℕ, suc, ◌≤◌}
use native.Mathlib.Omega.{arith}
use lib.Dec.{T}
use lib.ListN.{length, get_or}
use Rattle.rules.specs.Lists.{any, keep, count}
use Rattle.rules.proofs.Lists.{same_test, any-in, any_out}

module _ {A : Type 0} where
  -- an entry moved to the front
  pub to_front : {x : A} {l : List A} → Memᴰ x l → (r : List A) × Permᴰ l (x ∷ r)
  to_front (Memᴰ.head {xs} e) = (xs, Permᴰ.cons (sym e) (Permᴰ.refl xs))
  to_front (Memᴰ.tail {x = y} m) = let k = to_front m in (y ∷ k.0, Permᴰ.trans (Permᴰ.cons refl k.1) (Permᴰ.swap refl refl))

  pub perm-mem : {l r : List A} → Permᴰ l r → (x : A) → Memᴰ x l → Memᴰ x r
  perm-mem Permᴰ.nil x m = m
  perm-mem (Permᴰ.cons e d) x (Memᴰ.head c) = Memᴰ.head (c ∙ e)
  perm-mem (Permᴰ.cons e d) x (Memᴰ.tail m) = Memᴰ.tail (perm-mem d x m)
  perm-mem (Permᴰ.swap e f) x (Memᴰ.head c) = Memᴰ.tail (Memᴰ.head (c ∙ e))
  perm-mem (Permᴰ.swap e f) x (Memᴰ.tail (Memᴰ.head c)) = Memᴰ.head (c ∙ f)
  perm-mem (Permᴰ.swap e f) x (Memᴰ.tail (Memᴰ.tail m)) = Memᴰ.tail (Memᴰ.tail m)
  perm-mem (Permᴰ.trans d c) x m = perm-mem c x (perm-mem d x m)

  pub perm-count : (f : A → Bool) {l r : List A} → Permᴰ l r → count f l ≡ count f r
  unfolding count
  perm-count f Permᴰ.nil = refl
  perm-count f (Permᴰ.cons e d) = ap₂ (λ b n. cond b (suc n) n) (ap f e) (perm-count f d)
  perm-count f (Permᴰ.swap {a} {b} {a'} {b'} {l} e c) = go (f a) (f b) (count f l) ∙ ap₂ (λ x y. cond x (suc (cond y (suc (count f l)) (count f l))) (cond y (suc (count f l)) (count f l))) (ap f c) (ap f e)
    where
      go : (x y : Bool) (n : ℕ) → cond x (suc (cond y (suc n) n)) (cond y (suc n) n) ≡ cond y (suc (cond x (suc n) n)) (cond x (suc n) n)
      go true true n = refl
      go true false n = refl
      go false true n = refl
      go false false n = refl
  perm-count f (Permᴰ.trans d c) = perm-count f d ∙ perm-count f c

  pub perm-length : {l r : List A} → Permᴰ l r → length l ≡ length r
  perm-length Permᴰ.nil = refl
  perm-length (Permᴰ.cons e d) = ap suc (perm-length d)
  perm-length (Permᴰ.swap e f) = refl
  perm-length (Permᴰ.trans d c) = perm-length d ∙ perm-length c

  pub perm-keep : (f : A → Bool) {l r : List A} → Permᴰ l r → Permᴰ (keep f l) (keep f r)
  unfolding keep
  perm-keep f Permᴰ.nil = Permᴰ.nil
  perm-keep f (Permᴰ.cons {a} {b} {l₁} {l₂} e d) = go (f a) (f b) (ap f e) (perm-keep f d)
    where
      go : (x y : Bool) → x ≡ y → Permᴰ (keep f l₁) (keep f l₂) → Permᴰ (cond x (a ∷ keep f l₁) (keep f l₁)) (cond y (b ∷ keep f l₂) (keep f l₂))
      go true true q p = Permᴰ.cons e p
      go true false q p = absurd (subst T q tt)
      go false true q p = absurd (subst T (sym q) tt)
      go false false q p = p
  perm-keep f (Permᴰ.swap {a} {b} {a'} {b'} {l} e c) = rw (← (ap f c), ← (ap f e)) (go (f a) (f b))
    where
      go : (x y : Bool) → Permᴰ (cond x (a ∷ cond y (b ∷ keep f l) (keep f l)) (cond y (b ∷ keep f l) (keep f l))) (cond y (a' ∷ cond x (b' ∷ keep f l) (keep f l)) (cond x (b' ∷ keep f l) (keep f l)))
      go true true = Permᴰ.swap e c
      go true false = Permᴰ.cons e (Permᴰ.refl (keep f l))
      go false true = Permᴰ.cons c (Permᴰ.refl (keep f l))
      go false false = Permᴰ.refl (keep f l)
  perm-keep f (Permᴰ.trans d c) = Permᴰ.trans (perm-keep f d) (perm-keep f c)

  pub keep-length : (f : A → Bool) (l : List A) → length (keep f l) ≡ count f l
  unfolding keep count
  keep-length f [] = refl
  keep-length f (x ∷ l) = go (f x) (keep-length f l)
    where
      go : (b : Bool) → length (keep f l) ≡ count f l → length (cond b (x ∷ keep f l) (keep f l)) ≡ cond b (suc (count f l)) (count f l)
      go true e = ap suc e
      go false e = e

  -- two lists with the same single entry, or none
  pub one_same : (l r : List A) (d : A) → length l ≤ 1 → Permᴰ l r → get_or l 0 d ≡ get_or r 0 d
  one_same l r d h p = go l r h (perm-length p) (perm-mem p)
    where
      go : (l r : List A) → length l ≤ 1 → length l ≡ length r → ((x : A) → Memᴰ x l → Memᴰ x r) → get_or l 0 d ≡ get_or r 0 d
      go [] [] h k i = refl
      go [] (y ∷ r) h k i = absurd (omega arith)
      go (x ∷ []) [] h k i = absurd (omega arith)
      go (x ∷ []) (y ∷ []) h k i = Memᴰ.eq_of_singleton (i x (Memᴰ.head refl))
      go (x ∷ []) (y ∷ z ∷ r) h k i = absurd (omega arith)
      go (x ∷ y ∷ l) r h k i = absurd (omega arith)

  pub any_order : (f : A → Bool) {l r : List A} → Permᴰ l r → any f l ≡ any f r
  any_order f {l} {r} p = same_test _ _ (λ t. let m = any_out f l t in any-in f (perm-mem p m.0 m.1) m.2) (λ t. let m = any_out f r t in any-in f (perm-mem (Permᴰ.symm p) m.0 m.1) m.2)

  swap-append : (a b l : List A) → Permᴰ (a ++ (b ++ l)) (b ++ (a ++ l))
  swap-append [] b l = Permᴰ.refl (b ++ l)
  swap-append (x ∷ a) b l = Permᴰ.trans (Permᴰ.cons refl (swap-append a b l)) (Permᴰ.symm (Permᴰ.middle x b (a ++ l)))

module _ {A B : Type 0} where
  pub perm-flat : (f g : A → List B) → ((x : A) → Permᴰ (f x) (g x)) → (l : List A) → Permᴰ (flat_map f l) (flat_map g l)
  unfolding flat_map
  perm-flat f g h [] = Permᴰ.nil
  perm-flat f g h (x ∷ l) = Permᴰ.trans (Permᴰ.append_right (flat_map f l) (h x)) (Permᴰ.append_left (g x) (perm-flat f g h l))

module _ {A B : Type 0} (f : A → List B) where
  pub flat-order : {l r : List A} → Permᴰ l r → Permᴰ (flat_map f l) (flat_map f r)
  unfolding flat_map
  flat-order Permᴰ.nil = Permᴰ.nil
  flat-order (Permᴰ.cons {a} {l₁ = l} e d) = rw (← e) (Permᴰ.append_left (f a) (flat-order d))
  flat-order (Permᴰ.swap {a} {b} {l = l} e c) = rw (← e, ← c) (swap-append (f a) (f b) (flat_map f l))
  flat-order (Permᴰ.trans d c) = Permᴰ.trans (flat-order d) (flat-order c)
