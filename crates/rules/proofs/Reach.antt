-- `reach` is a walk. Assumes nothing.
use mathlib.Core.Bool.{◌&&◌, ◌||◌}
use mathlib.Core.List.Memᴰ
use mathlib.Core.List.{List, [], ◌∷◌, Memᴰ}
use mathlib.Core.Path.{◌≡◌, refl, sym, ap, subst}
use mathlib.Core.Logic.{◌⊎◌, inl, inr}
use Prim.Native.Nat.{ℕ}
use lib.Dec.{T, eqb→eq, eqb_refl}
use Rattle.rules.specs.Graph.{Edge, ◌⟶◌, source_of, sink_of, reach, strongly_connected, Walk, stop, step}
use Rattle.rules.proofs.Lists.{and_left, and_right, and_both, or_left, or_cases, same_test, eq_test, tests}

abbrev pub Within : List Edge → List Edge → Type 0
Within es fs = (e : Edge) → Memᴰ e es → Memᴰ e fs

pub join : {es : List Edge} {u w v : ℕ} → Walk es u w → Walk es w v → Walk es u v
join {es} {v} (stop e) q = subst (λ x. Walk es x v) (sym e) q
join (step m p) q = step m (join p q)

pub wider : {es fs : List Edge} {u v : ℕ} → Within es fs → Walk es u v → Walk fs u v
wider h (stop e) = stop e
wider h (step {u} {w} m p) = step (h (u ⟶ w) m) (wider h p)

more : (e : Edge) {es : List Edge} {u v : ℕ} → Walk es u v → Walk (e ∷ es) u v
more e p = wider (λ f m. Memᴰ.tail m) p

pub reach→walk : (es : List Edge) (u v : ℕ) → T (reach es u v) → Walk es u v
unfolding reach
reach→walk [] u v t = stop (eqb→eq u v t)
reach→walk ((a ⟶ b) ∷ es) u v t = go (λ x y s. more (a ⟶ b) (reach→walk es x y s)) (or_cases (reach es u v) _ t)
  where
    go : ((x y : ℕ) → T (reach es x y) → Walk ((a ⟶ b) ∷ es) x y) → T (reach es u v) ⊎ T (reach es u a && reach es b v) → Walk ((a ⟶ b) ∷ es) u v
    go ih (inl s) = ih u v s
    go ih (inr s) = join (ih u a (search tests)) (step (Memᴰ.head refl) (ih b v (search tests)))

reach-refl : (es : List Edge) (u : ℕ) → T (reach es u u)
unfolding reach
reach-refl [] u = eqb_refl u
reach-refl ((a ⟶ b) ∷ es) u = or_left (reach es u u) _ (reach-refl es u)

module _ (a b : ℕ) (es : List Edge) (ih : (x y : ℕ) → Walk es x y → T (reach es x y)) where
  -- one more step: along the first edge, or along another
  first_step : (u w v : ℕ) → u ⟶ w ≡ a ⟶ b → T (reach ((a ⟶ b) ∷ es) w v) → T (reach ((a ⟶ b) ∷ es) u v)
  unfolding reach
  first_step u w v e t = go (or_cases (reach es w v) _ t)
    where
      to-a : T (reach es u a)
      to-a = subst (λ x. T (reach es x a)) (sym (ap source_of e)) (reach-refl es a)

      go : T (reach es w v) ⊎ T (reach es w a && reach es b v) → T (reach es u v || reach es u a && reach es b v)
      go (inl s) = let from-b = subst (λ x. T (reach es x v)) (ap sink_of e) s in search (tests, to-a)
      go (inr s) = search (tests, to-a)

  later-step : (u w v : ℕ) → Memᴰ (u ⟶ w) es → T (reach ((a ⟶ b) ∷ es) w v) → T (reach ((a ⟶ b) ∷ es) u v)
  unfolding reach
  later-step u w v m t = go (or_cases (reach es w v) _ t)
    where
      pre : (y : ℕ) → T (reach es w y) → T (reach es u y)
      pre y s = ih u y (step m (reach→walk es w y s))

      go : T (reach es w v) ⊎ T (reach es w a && reach es b v) → T (reach es u v || reach es u a && reach es b v)
      go (inl s) = search (tests, pre)
      go (inr s) = search (tests, pre)

  by-walk : {u v : ℕ} → Walk ((a ⟶ b) ∷ es) u v → T (reach ((a ⟶ b) ∷ es) u v)
  by-walk {u} (stop e) = subst (λ x. T (reach ((a ⟶ b) ∷ es) u x)) e (reach-refl ((a ⟶ b) ∷ es) u)
  by-walk (step {u} {w} {v} m p) = go (by-walk p) (Memᴰ.cases_cons m)
    where
      go : T (reach ((a ⟶ b) ∷ es) w v) → (u ⟶ w ≡ a ⟶ b) ⊎ Memᴰ (u ⟶ w) es → T (reach ((a ⟶ b) ∷ es) u v)
      go t (inl e) = first_step u w v e t
      go t (inr n) = later-step u w v n t

pub walk→reach : (es : List Edge) (u v : ℕ) → Walk es u v → T (reach es u v)
unfolding reach
walk→reach [] u v (stop e) = eq_test e
walk→reach [] u v (step m p) = absurd (Memᴰ.not-nil m)
walk→reach ((a ⟶ b) ∷ es) u v p = by-walk a b es (walk→reach es) p

pub reach-wider : (es fs : List Edge) (u v : ℕ) → Within es fs → T (reach es u v) → T (reach fs u v)
reach-wider es fs u v h t = walk→reach fs u v (wider h (reach→walk es u v t))

pub reach-same : (es fs : List Edge) → Within es fs → Within fs es → (u v : ℕ) → reach es u v ≡ reach fs u v
reach-same es fs h k u v = same_test _ _ (reach-wider es fs u v h) (reach-wider fs es u v k)

-- strong connection is a walk each way
pub connected→ : (es : List Edge) (u v : ℕ) → T (strongly_connected es u v) → Walk es u v × Walk es v u
unfolding strongly_connected
connected→ es u v t = (reach→walk es u v (and_left (reach es u v) (reach es v u) t), reach→walk es v u (and_right (reach es u v) (reach es v u) t))

pub →connected : (es : List Edge) (u v : ℕ) → Walk es u v → Walk es v u → T (strongly_connected es u v)
unfolding strongly_connected
→connected es u v p q = and_both (reach es u v) (reach es v u) (walk→reach es u v p) (walk→reach es v u q)
