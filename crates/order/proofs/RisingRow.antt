-- Numbers rise exactly where each is below the next. Assumes nothing.
use mathlib.Core.Bool.{Bool, true, false, ◌&&◌}
use mathlib.Core.List.{List, [], ◌∷◌, map}
use mathlib.Core.Path.{◌≡◌, refl, sym}
use Prim.Native.Nat.{ℕ, zero, suc, ◌+◌, ◌<◌}
use native.Mathlib.Omega.{arith}
use denote.Param.Members.{Mut}
use denote.Ref.{Bor}
use lib.Dec.{ltb}
use Rattle.std.proofs.Common.{add-one}
use lib.ListN.{length, get_or}
use Rattle.std.specs.Fn.{Called, ComputesOnPairs}
use Rattle.std.specs.List.{IsAllAdjacentAnswer}
use Rattle.std.proofs.lemmas.Fn.{always_returns_same}
use Rattle.order.specs.Rising.{rises}

module _ (f : ℕ → ℕ) where
  all : (l : List ℕ) → ((k : ℕ) → k + 1 < length l → ltb (f (get_or l k 0)) (f (get_or l (suc k) 0)) ≡ true) → true ≡ rises (map f l)
  unfolding rises
  all [] h = refl
  all (x ∷ []) h = refl
  all (x ∷ y ∷ l) h = let ih = all (y ∷ l) (λ k i. h (suc k) (omega arith)) in rw (h 0 (omega arith)) ih

  not : (l : List ℕ) (k : ℕ) → k + 1 < length l → ltb (f (get_or l k 0)) (f (get_or l (suc k) 0)) ≡ false → false ≡ rises (map f l)
  unfolding rises
  not [] k h i = absurd (omega arith)
  not (x ∷ []) k h i = absurd (omega arith)
  not (x ∷ y ∷ l) zero h i = rw i refl
  not (x ∷ y ∷ l) (suc k) h i = let ih = not (y ∷ l) k (omega arith) i in go (ltb (f x) (f y)) (rises (map f (y ∷ l))) ih
    where
      go : (b c : Bool) → false ≡ c → false ≡ b && c
      go true c e = e
      go false c e = refl

  -- what a test of neighbours by their keys answers
  pub rises_decided : {F : Type 0} {g : Mut F (Bor ℕ × (Bor ℕ × Unit {0})) Bool} {c : F} (row : List ℕ) (r : Bool)
      → ((e : ℕ → ℕ → Bool) → ComputesOnPairs g e c → IsAllAdjacentAnswer (λ x y b. b ≡ e x y) row r)
      → ((a : Bor ℕ × (Bor ℕ × Unit {0})) (b : Bool) (c' : F) → Called g c a b c' → (b ≡ ltb (f a.0.now) (f a.1.0.now)) × (c' ≡ c))
      → r ≡ rises (map f row)
  rises_decided {g} {c} row r answer calls = go r (answer (λ x y. ltb (f x) (f y)) (always_returns_same g (λ a b. b ≡ ltb (f a.0.now) (f a.1.0.now)) c calls))
    where
      go : (r : Bool) → IsAllAdjacentAnswer (λ x y b. b ≡ ltb (f x) (f y)) row r → r ≡ rises (map f row)
      go true h = all row (λ k i. rw add-one at (sym (h k 0 i)))
      go false h = not row h.0 h.1 (rw add-one at (sym (h.2 0)))
