-- A component without incoming edges is settled and has range 0 to 0. Assumes nothing.
use mathlib.Core.List.{List, [], Memᴰ}
use mathlib.Core.Path.{◌≡◌, refl, sym, ap, ◌∙◌}
use Prim.Native.Nat.{ℕ}
use Rattle.rules.specs.Graph.{Edge, ◌⟶◌, Settled}
use Rattle.rules.specs.Paths.{delay_sum, extreme_sum, smallest_sum, largest_sum, PathTo, only, then}
use Rattle.rules.specs.Labels.{between, label}
use Rattle.rules.proofs.Sums.{Choice, smaller, larger}
use Rattle.rules.proofs.Ranges.{settled-from, extreme-attained}
use Rattle.rules.proofs.LabelLaws.{settled-label}

module _ (es : List Edge) (v : ℕ) (none : (u : ℕ) → Memᴰ (u ⟶ v) es → ⊥) where
  -- its one path is the empty row
  start-path : {p : List ℕ} → PathTo es v p → p ≡ []
  start-path (only h) = refl
  start-path (then m s p) = absurd (none _ m)

  start-sum : {f : ℕ → ℕ → ℕ} (C : Choice f) (d : ℕ → ℕ) → extreme_sum f es d v ≡ 0
  unfolding delay_sum
  start-sum C d = let r = extreme-attained C es d (only none) in sym r.2 ∙ ap (delay_sum d) (start-path r.1)

  -- "A settled component without incoming edges has range 0 to 0."
  pub start-range : (low high : ℕ → ℕ) → Settled es v × (smallest_sum es low v ≡ 0) × (largest_sum es high v ≡ 0)
  start-range low high = (settled-from es v (λ u m. absurd (none u m)), start-sum smaller low, start-sum larger high)

  pub start-label : (low high : ℕ → ℕ) → label es low high v ≡ between 0 0
  start-label low high = let r = start-range low high in rw (settled-label es low high v r.0, r.1, r.2)
