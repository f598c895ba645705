-- Depth-first visits: how many nodes they mark, and one row of them after another. Assumes nothing.
use mathlib.Core.Bool.{Bool, true, false, cond}
use mathlib.Core.List.Memᴰ
use mathlib.Core.List.{List, [], ◌∷◌, ◌++◌, append_assoc, Memᴰ}
use mathlib.Core.Logic.{⊎_elim}
use mathlib.Core.Path.{◌≡◌, refl, sym, ap, ◌∙◌}
use Prim.Native.Nat.{ℕ, zero, suc, ◌+◌, ◌<◌, ◌≤◌}
use native.Mathlib.Nat.{suc-mul, mul-le-mul_right}
use native.Mathlib.Omega.{arith}
use borrow.Author.Tests.{eq-eqb}
use lib.Dec.{eqb}
use lib.ListN.{length, get_or, set, length-set, length-append}
use Rattle.rules.specs.Lists.{count}
use Rattle.rules.proofs.Counts.{count_under, count-every}
use Rattle.graph.specs.Visits.{unseen, visits_left, Dfs, done, skip, enter}

-- a node that is marked is one unseen node less
pub unseen-mark : (s : List ℕ) (v : ℕ) → v < length s → get_or s v 0 ≡ 0 → suc (unseen (set s v 1)) ≡ unseen s
unfolding unseen count
unseen-mark [] v h e = absurd (omega arith)
unseen-mark (x ∷ s) zero h e = rw (eq-eqb x 0 e)
unseen-mark (x ∷ s) (suc v) h e = go (eqb x 0) (unseen-mark s v (omega arith) e)
  where
    go : (b : Bool) → suc (unseen (set s v 1)) ≡ unseen s → suc (cond b (suc (unseen (set s v 1))) (unseen (set s v 1))) ≡ cond b (suc (unseen s)) (unseen s)
    go true ih = ap suc ih
    go false ih = ih

pub unseen_most : (s : List ℕ) → unseen s ≤ length s
unfolding unseen
unseen_most s = omega (arith, count_under (λ x. eqb x 0) (λ x. true) s (λ x m t. tt), count-every s)

module _ {next : ℕ → List ℕ} where
  pub dfs-length : {us s s' out : List ℕ} → Dfs next us s s' out → length s' ≡ length s
  dfs-length done = refl
  dfs-length (skip n d) = dfs-length d
  dfs-length (enter {v} {s} l n d₁ d₂) = dfs-length d₂ ∙ dfs-length d₁ ∙ length-set s v 1

  pub dfs-count : {us s s' out : List ℕ} → Dfs next us s s' out → length out + unseen s' ≡ unseen s
  dfs-count (done {s}) = omega arith
  dfs-count (skip n d) = dfs-count d
  dfs-count (enter {v} {s} {below} {out} l n d₁ d₂) = rw (length-append below (v ∷ out)) (omega (arith, dfs-count d₁, dfs-count d₂, unseen-mark s v l n))

  pub dfs-append : {us vs s s₁ s' o₁ o₂ : List ℕ} → Dfs next us s s₁ o₁ → Dfs next vs s₁ s' o₂ → Dfs next (us ++ vs) s s' (o₁ ++ o₂)
  dfs-append done e = e
  dfs-append (skip n d) e = skip n (dfs-append d e)
  dfs-append {o₂} (enter {v} {below} {out} l n d₁ d₂) e = rw (append_assoc below (v ∷ out) o₂) (enter l n d₁ (dfs-append d₂ e))

  -- the nodes listed are nodes
  pub out_below : {us s s' out : List ℕ} → Dfs next us s s' out → (v : ℕ) → Memᴰ v out → v < length s
  out_below done v m = absurd (Memᴰ.not-nil m)
  out_below (skip n d) v m = out_below d v m
  out_below (enter {v = v₀} {s = s} {below = below} l n d₁ d₂) v m =
      ⊎_elim
      (λ b. omega (arith, out_below d₁ v b, length-set s v₀ 1))
      (λ r. ⊎_elim (λ e. rw e l) (λ o. omega (arith, out_below d₂ v o, dfs-length d₁, length-set s v₀ 1)) (Memᴰ.cases_cons r))
      (Memᴰ.append_cases below m)

-- a visit leaves one node fewer unseen, and goes along a chain
pub fewer-nodes : {a b e left : ℕ} → suc a ≡ b → left ≤ e → visits_left a e left < visits_left b e 0
unfolding visits_left
fewer-nodes {a} {e} h l = rw (sym h, suc-mul a (suc e)) (omega (arith, l))

-- a walk visits only where an edge is left of its chain
pub fewer-edges : {a b left : ℕ} (e : ℕ) → a ≤ b → 0 < left → visits_left a e 0 < visits_left b e left
unfolding visits_left
fewer-edges e h l = omega (arith, mul-le-mul_right (suc e) h, l)

-- a call's measure is below t, which is the caller's
pub below-t : {a b t : ℕ} → b ≡ t → a < b → a < t
below-t e h = omega arith
