-- Nodes are marked, one by one. Assumes nothing.
use mathlib.Core.Bool.{Bool, true, false, not, cond}
use mathlib.Core.List.{List, [], ◌∷◌, map}
use mathlib.Core.Path.{◌≡◌, refl, sym, ap, ◌∙◌}
use Prim.Native.Nat.{ℕ, ◌+◌, ◌<◌, ◌≤◌}
use native.Mathlib.Omega.{arith}
use lib.ListN.{length, set}
use mir.Val.{bool_byte}
use Rattle.rules.specs.Lists.{count, from, indices}
use Rattle.rules.proofs.Counts.{count-append, count_under, count-every}
use Rattle.rules.proofs.Indices.{indices-length, indices-more, made-length, made_at}
use Rattle.rules.proofs.Filling.{Filling, filling-none, filling-more}
use Rattle.projection.specs.Marking.{compressed_by}

module _ (compressible incoming head next : List ℕ) where
  abbrev size : ℕ
  size = length compressible

  abbrev test : ℕ → Bool
  test v = compressed_by compressible incoming head next v

  abbrev goal : List ℕ
  goal = map (λ v. cond (test v) 0 1) (indices size)

  goal-length : length goal ≡ size
  goal-length = made-length (λ v. cond (test v) 0 1) size

  -- the nodes before v are marked
  pub record MarkedBelow (marks : List ℕ) (retained v : ℕ) : Type 0 where
    pub inside : v ≤ length compressible
    pub front : Filling (map (λ v. cond (compressed_by compressible incoming head next v) 0 1) (indices (length compressible))) marks v
    pub kept : retained ≡ count (λ v. not (compressed_by compressible incoming head next v)) (indices v)

  module _ (marks : List ℕ) where
    pub marked-none : length marks ≡ length compressible → MarkedBelow marks 0 0
    unfolding count indices from
    marked-none e = record { inside = omega arith; front = filling-none goal marks (e ∙ sym goal-length); kept = refl }

    module _ (retained v : ℕ) (m : MarkedBelow marks retained v) where
      pub marked-length : length marks ≡ length compressible
      marked-length = m.front.size ∙ goal-length

      pub marked-few : retained ≤ v
      marked-few = omega (arith, m.kept, count_under (λ v. not (test v)) (λ v. true) (indices v) (λ x k t. tt), count-every (indices v), indices-length v)

      pub marked_more : v < length marks → (kept : Bool) → kept ≡ not (compressed_by compressible incoming head next v) → MarkedBelow (set marks v (bool_byte kept)) (retained + bool_byte kept) (v + 1)
      unfolding count
      marked_more h kept e = record {
        inside = omega (arith, marked-length);
        front = filling-more goal marks v (bool_byte kept) m.front (omega (arith, marked-length, goal-length)) (made_at (λ v. cond (test v) 0 1) size v 0 (omega (arith, marked-length)) ∙ rw e (marked (test v)));
        kept = omega (arith, m.kept, ap (count (λ v. not (test v))) (indices-more v), count-append (λ v. not (test v)) (indices v) (v ∷ []), counted (test v), ap bool_byte e);
      }
        where
          marked : (b : Bool) → ◌≡◌ {A = ℕ} (cond b 0 1) (bool_byte (not b))
          marked true = refl
          marked false = refl

          counted : (b : Bool) → ◌≡◌ {A = ℕ} (cond (not b) 1 0) (bool_byte (not b))
          counted true = refl
          counted false = refl
