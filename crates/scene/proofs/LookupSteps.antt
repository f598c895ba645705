-- A guess that holds is the position of an id, since ids are all different. Assumes nothing.
use mathlib.Core.Bool.{Bool, true, false}
use mathlib.Core.List.Memᴰ
use mathlib.Core.List.{List}
use mathlib.Core.Path.{◌≡◌, refl, sym, ◌∙◌}
use Prim.Native.Nat.{ℕ, ◌<◌}
use native.Mathlib.Omega.{arith}
use lib.Dec.{T, eqb}
use lib.ListN.{length}
use Rattle.std.specs.Prelude.{Some}
use Rattle.std.specs.Bool.{then_some}
use Rattle.std.proofs.lemmas.Bool.{eqb-true}
use Rattle.rules.specs.Ordered.{key_at, position_of}
use Rattle.rules.specs.Refusals.{accepted, first_refusal, used_earlier, component_tests, rows}
use Rattle.rules.specs.Scene.{ComponentLists}
use Rattle.rules.proofs.Acceptance.{distinct-unused}
use Rattle.rules.proofs.FirstRefusal.{none_each, none-holds}
use Rattle.rules.proofs.Indices.{below-indices, distinct-at}
use Rattle.rules.proofs.Ordering.{first→position}
use Rattle.scene.specs.Lookup.{Different, GuessHolds}

-- the position that has an id is the first one
pub found-there : (ids : List ℕ) (id p : ℕ) → Different ids → p < length ids → key_at ids p ≡ id → Some p ≡ position_of ids id
found-there ids id p different h e =
    sym (first→position ids id p (record { inside = h; has = e; none_earlier = λ q b k. omega (arith, b, different q p (omega (arith, b, h)) h (k ∙ sym e)) }))

-- so is a position whose id is compared, where that is answered
pub guessed : (ids : List ℕ) (id x p : ℕ) → Different ids → p < length ids → x ≡ key_at ids p → GuessHolds ids id (then_some (eqb x id) p)
guessed ids id x p different h e q = go (eqb x id) refl
  where
    go : (b : Bool) → eqb x id ≡ b → then_some b p ≡ Some q → Some q ≡ position_of ids id
    go true t s = sym s ∙ found-there ids id p different h (sym e ∙ eqb-true x id t)
    go false t s = absurd (cc)

-- where the components are accepted, no id repeats
module _ (l : ComponentLists) (e : accepted ≡ first_refusal (rows (component_tests l) (length l.ids))) where
  unused : (i : ℕ) → i < length l.ids → T (used_earlier l.ids i) → ⊥
  unfolding component_tests
  unused i h t = none_each (component_tests l) _ (none-holds (rows (component_tests l) (length l.ids)) (sym e)) i (below-indices (length l.ids) h) _ (Memᴰ.tail (Memᴰ.head refl)) t

  pub accepted-different : Different l.ids
  accepted-different p q h k = distinct-at 0 l.ids (distinct-unused l.ids unused) p q h k
