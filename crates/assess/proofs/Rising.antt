-- Distinct ids rise along their ordered positions. Assumes nothing.
use mathlib.Core.Bool.{true}
use mathlib.Core.List.{List, [], ◌∷◌, map, Memᴰ}
use mathlib.Core.Path.{◌≡◌, refl}
use mathlib.Core.Logic.{⊎_elim}
use Prim.Native.Nat.{ℕ, ◌<◌}
use native.Mathlib.Omega.{arith}
use lib.ListN.{length}
use borrow.Author.Tests.{lt-ltb}
use Rattle.rules.specs.Ordered.{key_at, ordered, Ordered}
use Rattle.rules.specs.Positions.{id_at}
use Rattle.rules.specs.Lists.{Distinct}
use Rattle.rules.proofs.Indices.{distinct-at}
use Rattle.rules.proofs.Ordering.{ordered-holds, ordered-inside}
use Rattle.projection.specs.Projecting.{rises}

module _ (ids : List ℕ) (distinct : Distinct ids) where
  rising : (l : List ℕ) → ((i : ℕ) → Memᴰ i l → i < length ids) → Ordered ids l → rises (map (id_at ids) l) ≡ true
  unfolding rises
  rising [] below o = refl
  rising (i ∷ []) below o = refl
  rising (i ∷ j ∷ l) below o =
      let rest = rising (j ∷ l) (λ k m. below k (Memᴰ.tail m)) o.1 in
      let first : key_at ids i < key_at ids j = ⊎_elim (λ h. h) (λ e. absurd (apart e.0 e.1)) (o.0 j (Memᴰ.head refl)) in
      simp (lt-ltb _ _ first) rest
    where
      apart : key_at ids i ≡ key_at ids j → i < j → ⊥
      apart e h = omega (arith, distinct-at 0 ids distinct i j (below i (Memᴰ.head refl)) (below j (Memᴰ.tail (Memᴰ.head refl))) e)

  pub ids-rise : rises (map (id_at ids) (ordered ids)) ≡ true
  ids-rise = rising (ordered ids) (ordered-inside ids) (ordered-holds ids)
