-- A label shows the smallest and largest path sum of a settled component, and of no other. Assumes nothing.
use mathlib.Core.Bool.{Bool, true, false, cond}
use mathlib.Core.List.{List}
use mathlib.Core.Path.{◌≡◌, subst, ◌∙◌}
use Prim.Native.Nat.{ℕ}
use native.Mathlib.Omega.{arith}
use lib.Dec.{T}
use Rattle.rules.specs.Graph.{Edge, settled, Settled}
use Rattle.rules.specs.Paths.{delay_sum, smallest_sum, largest_sum, Smallest, Largest}
use Rattle.rules.specs.Labels.{unsettled, between, label}
use Rattle.rules.proofs.Lists.{chosen, not_chosen}
use Rattle.rules.proofs.Paths.{settled→, →settled}
use Rattle.rules.proofs.Sums.{smaller, larger}
use Rattle.rules.proofs.Ranges.{path-exists, sum-is-extreme, extreme-is-sum}

module _ (es : List Edge) (low high : ℕ → ℕ) (v : ℕ) where
  -- a settled component has a label with the two sums
  pub settled-label : Settled es v → label es low high v ≡ between (smallest_sum es low v) (largest_sum es high v)
  unfolding label
  settled-label s = chosen (between (smallest_sum es low v) (largest_sum es high v)) unsettled (settled es v) (→settled es v s)

  pub unsettled-label : (Settled es v → ⊥) → label es low high v ≡ unsettled
  unfolding label
  unsettled-label h = not_chosen (between (smallest_sum es low v) (largest_sum es high v)) unsettled (settled es v) (λ t. h (settled→ es v t))

  -- the sums of a label are the smallest and the largest of all paths
  pub label→ : (a b : ℕ) → label es low high v ≡ between a b → Settled es v × Smallest es (delay_sum low) v a × Largest es (delay_sum high) v b
  unfolding label
  label→ a b e = go (settled es v) (settled→ es v) e
    where
      go : (t : Bool) → (T t → Settled es v) → cond t (between (smallest_sum es low v) (largest_sum es high v)) unsettled ≡ between a b → Settled es v × Smallest es (delay_sum low) v a × Largest es (delay_sum high) v b
      go true s e =
          let p : smallest_sum es low v ≡ a = cc in
          let q : largest_sum es high v ≡ b = cc in
          let P = (path-exists es v (s tt)).1 in
          (s tt, subst (Smallest es (delay_sum low) v) p (sum-is-extreme smaller es low P), subst (Largest es (delay_sum high) v) q (sum-is-extreme larger es high P))
      go false s e = let z : ◌≡◌ {A = ℕ} 0 1 = cc in absurd (omega arith)

  pub →label : (a b : ℕ) → Settled es v → Smallest es (delay_sum low) v a → Largest es (delay_sum high) v b → label es low high v ≡ between a b
  →label a b s x y =
      let p : a ≡ smallest_sum es low v = extreme-is-sum smaller es low x in
      let q : b ≡ largest_sum es high v = extreme-is-sum larger es high y in
      settled-label s ∙ cc
