-- Lists in which no entry stands twice. Assumes nothing.
use mathlib.Core.List.Memᴰ
use mathlib.Core.List.{List, [], ◌∷◌, ◌++◌, Memᴰ, Permᴰ}
use mathlib.Core.Path.{refl, sym}
use mathlib.Core.Logic.{⊎_elim}
use Prim.Native.Nat.{◌≤◌, zero-le}
use native.Mathlib.Omega.{arith}
use lib.ListN.{length}
use Rattle.rules.specs.Lists.{Distinct}
use Rattle.rules.proofs.Permutations.{perm-mem, perm-length, to_front}

module _ {A : Type 0} where
  -- distinct entries of a list are no more than its length
  pub pigeon : (l r : List A) → Distinct l → ((x : A) → Memᴰ x l → Memᴰ x r) → length l ≤ length r
  pigeon [] r d h = zero-le
  pigeon (x ∷ l) r d h = let k = pigeon l front.0 d.1 rest in omega (arith, perm-length front.1)
    where
      front : (s : List A) × Permᴰ r (x ∷ s)
      front = to_front (h x (Memᴰ.head refl))

      rest : (y : A) → Memᴰ y l → Memᴰ y front.0
      rest y n = ⊎_elim (λ e. absurd (d.0 (Memᴰ.cast (sym e) n))) (λ k. k) (Memᴰ.cases_cons (perm-mem front.1 y (h y (Memᴰ.tail n))))

  pub distinct_append : (a b : List A) → Distinct a → Distinct b → ((x : A) → Memᴰ x a → Memᴰ x b → ⊥) → Distinct (a ++ b)
  distinct_append [] b d e h = e
  distinct_append (x ∷ a) b d e h =
      ((λ m. ⊎_elim d.0 (h x (Memᴰ.head refl)) (Memᴰ.append_cases a m)), distinct_append a b d.1 e (λ y m n. h y (Memᴰ.tail m) n))
