-- What depth-first visits see: exactly what is reached through nodes not seen before. Assumes nothing.
use mathlib.Core.List.Memᴰ
use mathlib.Core.List.{List, ◌∷◌, Memᴰ}
use mathlib.Core.Logic.{⊎_elim, dite}
use mathlib.Core.Path.{◌≡◌, refl, sym, ap, subst, ◌∙◌}
use Prim.Native.Nat.{ℕ, ◌<◌}
use native.Mathlib.Decide.{ℕ_discrete}
use native.Mathlib.Omega.{arith}
use lib.ListN.{length, get_or, set}
use lib.Seq.{get_or-set_same, get_or-set_other}
use Rattle.graph.specs.Visits.{Dfs, done, skip, enter}

abbrev pub Unseen : List ℕ → ℕ → Type 0
Unseen s v = get_or s v 0 ≡ 0

abbrev pub Seen : List ℕ → ℕ → Type 0
Seen s v = get_or s v 0 ≡ 0 → ⊥

-- a path along E, all of whose nodes are P
pub data PathIn (E : ℕ → ℕ → Type 0) (P : ℕ → Type 0) : ℕ → ℕ → Type 0 where
  last : {u : ℕ} → P u → PathIn E P u u
  on : {u v w : ℕ} → P u → E u v → PathIn E P v w → PathIn E P u w

module _ {E : ℕ → ℕ → Type 0} {P : ℕ → Type 0} where
  pub start_of : {u w : ℕ} → PathIn E P u w → P u
  start_of (last p) = p
  start_of (on p e r) = p

  pub path-map : {Q : ℕ → Type 0} → ((v : ℕ) → P v → Q v) → {u w : ℕ} → PathIn E P u w → PathIn E Q u w
  path-map f (last {u} p) = last (f u p)
  path-map f (on {u} p e r) = on (f u p) e (path-map f r)

-- the marks after one more
module _ (s : List ℕ) (v₀ : ℕ) (l : v₀ < length s) where
  pub mark-seen : (v : ℕ) → v ≡ v₀ → Seen (set s v₀ 1) v
  mark-seen v e h = let z : ◌≡◌ {A = ℕ} 1 0 = sym (get_or-set_same s v₀ 1 0 l) ∙ ap (λ k. get_or (set s v₀ 1) k 0) (sym e) ∙ h in omega arith

  mark-keeps : (v : ℕ) → Seen s v → Seen (set s v₀ 1) v
  mark-keeps v h z = dite (ℕ_discrete v v₀) (λ e. mark-seen v e z) (λ ne. h (sym (get_or-set_other s v₀ v 1 0 ne) ∙ z))

  mark_was : (v : ℕ) → Unseen (set s v₀ 1) v → Unseen s v
  mark_was v z = dite (ℕ_discrete v v₀) (λ e. absurd (mark-seen v e z)) (λ ne. sym (get_or-set_other s v₀ v 1 0 ne) ∙ z)

  mark-other : (v : ℕ) → Unseen s v → (v ≡ v₀ → ⊥) → Unseen (set s v₀ 1) v
  mark-other v z ne = get_or-set_other s v₀ v 1 0 ne ∙ z

-- where a node's edges lead
abbrev pub Next : (ℕ → List ℕ) → ℕ → ℕ → Type 0
Next next u v = Memᴰ v (next u)

module _ {next : ℕ → List ℕ} where
  pub grows : {us s s' out : List ℕ} → Dfs next us s s' out → (v : ℕ) → Seen s v → Seen s' v
  grows done v h = h
  grows (skip n d) v h = grows d v h
  grows (enter {v = v₀} {s = s} l n d₁ d₂) v h = grows d₂ v (grows d₁ v (mark-keeps s v₀ l v h))

  was-unseen : {us s s' out : List ℕ} → Dfs next us s s' out → (v : ℕ) → Unseen s' v → Unseen s v
  was-unseen {s} d v z = dite (ℕ_discrete (get_or s v 0) 0) (λ e. e) (λ ne. absurd (grows d v ne z))

  pub us-seen : {us s s' out : List ℕ} → Dfs next us s s' out → (v : ℕ) → Memᴰ v us → Seen s' v
  us-seen done v m = absurd (Memᴰ.not-nil m)
  us-seen (skip {v = v₀} {s = s} n d) v m = ⊎_elim (λ e. grows d v (λ z. n (ap (λ k. get_or s k 0) (sym e) ∙ z))) (λ m'. us-seen d v m') (Memᴰ.cases_cons m)
  us-seen (enter {v = v₀} {s = s} l n d₁ d₂) v m = ⊎_elim (λ e. grows d₂ v (grows d₁ v (mark-seen s v₀ l v e))) (λ m'. us-seen d₂ v m') (Memᴰ.cases_cons m)

  -- a listed node was unseen and is seen
  pub out-was : {us s s' out : List ℕ} → Dfs next us s s' out → (v : ℕ) → Memᴰ v out → Unseen s v
  out-was done v m = absurd (Memᴰ.not-nil m)
  out-was (skip n d) v m = out-was d v m
  out-was (enter {v = v₀} {s = s} {below = below} l n d₁ d₂) v m =
      ⊎_elim
      (λ b. mark_was s v₀ l v (out-was d₁ v b))
      (λ r. ⊎_elim (λ e. ap (λ k. get_or s k 0) e ∙ n) (λ o. mark_was s v₀ l v (was-unseen d₁ v (out-was d₂ v o))) (Memᴰ.cases_cons r))
      (Memᴰ.append_cases below m)

  pub out-is : {us s s' out : List ℕ} → Dfs next us s s' out → (v : ℕ) → Memᴰ v out → Seen s' v
  out-is done v m = absurd (Memᴰ.not-nil m)
  out-is (skip n d) v m = out-is d v m
  out-is (enter {v = v₀} {s = s} {below = below} l n d₁ d₂) v m =
      ⊎_elim
      (λ b. grows d₂ v (out-is d₁ v b))
      (λ r. ⊎_elim (λ e. grows d₂ v (grows d₁ v (mark-seen s v₀ l v e))) (λ o. out-is d₂ v o) (Memᴰ.cases_cons r))
      (Memᴰ.append_cases below m)

  -- a node that was unseen and is seen is listed
  pub out-all : {us s s' out : List ℕ} → Dfs next us s s' out → (v : ℕ) → Unseen s v → Seen s' v → Memᴰ v out
  out-all done v z h = absurd (h z)
  out-all (skip n d) v z h = out-all d v z h
  out-all (enter {v = v₀} {s = s} {s₁ = s₁} {below = below} {out = out} l n d₁ d₂) v z h =
      dite (ℕ_discrete (get_or s₁ v 0) 0)
      (λ z₁. Memᴰ.append_right below (Memᴰ.tail (out-all d₂ v z₁ h)))
      (λ h₁. dite (ℕ_discrete v v₀) (λ e. Memᴰ.append_right below (Memᴰ.head e)) (λ ne. Memᴰ.append_left (v₀ ∷ out) (out-all d₁ v (mark-other s v₀ l v z ne) h₁)))

  -- what a listed node leads to is seen
  pub closed : {us s s' out : List ℕ} → Dfs next us s s' out → (v w : ℕ) → Memᴰ v out → Memᴰ w (next v) → Seen s' w
  closed done v w m e = absurd (Memᴰ.not-nil m)
  closed (skip n d) v w m e = closed d v w m e
  closed (enter {below = below} l n d₁ d₂) v w m e =
      ⊎_elim
      (λ b. grows d₂ w (closed d₁ v w b e))
      (λ r. ⊎_elim (λ q. grows d₂ w (us-seen d₁ w (subst (λ k. Memᴰ w (next k)) q e))) (λ o. closed d₂ v w o e) (Memᴰ.cases_cons r))
      (Memᴰ.append_cases below m)

  -- a listed node is reached through unseen ones
  pub sound : {us s s' out : List ℕ} → Dfs next us s s' out → (v : ℕ) → Memᴰ v out → (u : ℕ) × Memᴰ u us × PathIn (Next next) (Unseen s) u v
  sound done v m = absurd (Memᴰ.not-nil m)
  sound (skip n d) v m = let r = sound d v m in (r.0, Memᴰ.tail r.1, r.2)
  sound (enter {v = v₀} {s = s} {below = below} l n d₁ d₂) v m =
      ⊎_elim
      (λ b. let r = sound d₁ v b in (v₀, Memᴰ.head refl, on n r.1 (path-map (λ k z. mark_was s v₀ l k z) r.2)))
      (λ t. ⊎_elim (λ e. (v, Memᴰ.head e, last (ap (λ k. get_or s k 0) e ∙ n)))
      (λ o. let r = sound d₂ v o in (r.0, Memᴰ.tail r.1, path-map (λ k z. mark_was s v₀ l k (was-unseen d₁ k z)) r.2))
      (Memᴰ.cases_cons t))
      (Memᴰ.append_cases below m)

  -- and a node that is reached through unseen ones is listed
  onward-out : {us s s' out : List ℕ} → Dfs next us s s' out → {u w : ℕ} → PathIn (Next next) (Unseen s) u w → Memᴰ u out → Memᴰ w out
  onward-out d (last p) m = m
  onward-out d (on {u} {v} p e r) m = onward-out d r (out-all d v (start_of r) (closed d u v m e))

  pub complete : {us s s' out : List ℕ} → Dfs next us s s' out → {u w : ℕ} → Memᴰ u us → PathIn (Next next) (Unseen s) u w → Memᴰ w out
  complete d {u} m p = onward-out d p (out-all d u (start_of p) (us-seen d u m))
