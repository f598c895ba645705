-- Two lists that have each entry equally often are the same but for their order. Assumes nothing.
use mathlib.Core.Bool.{Bool, true, false, cond}
use mathlib.Core.List.Memᴰ
use mathlib.Core.List.Permᴰ
use mathlib.Core.List.{List, [], ◌∷◌, Permᴰ}
use mathlib.Core.Path.{◌≡◌, refl, ◌∙◌}
use Prim.Native.Nat.{suc}
use native.Mathlib.Omega.{arith}
use lib.Dec.{T}
use Rattle.rules.specs.Lists.{count}
use Rattle.rules.proofs.Counts.{count-in, count-out}
use Rattle.rules.proofs.Permutations.{perm-count, to_front}

module _ {A : Type 0} where
  less_one : (f : A → Bool) (x : A) (l r : List A) → count f (x ∷ l) ≡ count f (x ∷ r) → count f l ≡ count f r
  unfolding count
  less_one f x l r e = go (f x) e
    where
      go : (b : Bool) → cond b (suc (count f l)) (count f l) ≡ cond b (suc (count f r)) (count f r) → count f l ≡ count f r
      go true k = omega arith
      go false k = k

module _ {A : Type 0} (same : A → A → Bool) (sound : (x y : A) → T (same x y) → x ≡ y) (own : (x : A) → T (same x x)) where
  pub often→perm : (l r : List A) → ((x : A) → count (same x) l ≡ count (same x) r) → Permᴰ l r
  unfolding count
  often→perm [] [] h = Permᴰ.nil
  often→perm [] (y ∷ r) h = absurd (omega (arith, h y, count-in (same y) {l = y ∷ r} (Memᴰ.head refl) (own y)))
  often→perm (x ∷ l) r h =
      let k = count-out (same x) r (omega (arith, h x, count-in (same x) {l = x ∷ l} (Memᴰ.head refl) (own x))) in
      let q = to_front (Memᴰ.cast (sound x k.0 k.2) k.1) in
      Permᴰ.trans (Permᴰ.cons refl (often→perm l q.0 (λ y. less_one (same y) x l q.0 (h y ∙ perm-count (same y) q.1)))) (Permᴰ.symm q.1)
