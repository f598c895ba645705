-- A settled component has a path, and its range is made of one range for each incoming edge from a settled source. Assumes nothing.
use mathlib.Core.Bool.{Bool, true, false, not}
use mathlib.Core.List.Memᴰ
use mathlib.Core.List.{List, [], ◌∷◌, map, Memᴰ}
use mathlib.Core.Path.{◌≡◌, refl, sym, ap, subst}
use mathlib.Core.Logic.{◌⊎◌, inl, inr, ⊎_elim}
use Prim.Native.Nat.{ℕ, zero, suc, ◌+◌, ◌<◌}
use native.Mathlib.Omega.{arith}
use lib.Dec.{T, eqb→eq}
use lib.ListN.{length, length-map}
use Rattle.rules.specs.Lists.{any, Distinct}
use Rattle.rules.specs.Graph.{Edge, ◌⟶◌, sink_of, ends_at, Walk, stop, step, Settled}
use Rattle.rules.specs.Delay.{saturating_add}
use Rattle.rules.specs.Paths.{no_incoming, settled_sources, paths_to, delay_sum, extreme, extreme_sum, PathTo, only, then, IsExtreme}
use Rattle.rules.proofs.Lists.{any_out}
use Rattle.rules.proofs.Distinct.{pigeon}
use Rattle.rules.proofs.Paths.{no_incoming→, settled_back, source_in, source-out, path→listed, listed→path}
use Rattle.rules.proofs.Sums.{Choice, extreme-at, extreme-good, extreme-same, Under}

module _ (es : List Edge) where
  -- v leads to x
  Leads : ℕ → ℕ → Type 0
  Leads v x = (w : ℕ) × Memᴰ (v ⟶ w) es × Walk es w x

  pub into : (v : ℕ) → T (no_incoming es v) ⊎ ((u : ℕ) × Memᴰ (u ⟶ v) es)
  unfolding no_incoming
  into v = go (any (ends_at v) es) (λ t. let r = any_out (ends_at v) es t in at r.0 r.1 r.2)
    where
      at : (e : Edge) → Memᴰ e es → T (ends_at v e) → (u : ℕ) × Memᴰ (u ⟶ v) es
      at (a ⟶ b) m t = (a, Memᴰ.cast (ap (λ x. a ⟶ x) (sym (eqb→eq b v t))) m)

      go : (b : Bool) → (T b → (u : ℕ) × Memᴰ (u ⟶ v) es) → T (not b) ⊎ ((u : ℕ) × Memᴰ (u ⟶ v) es)
      go true f = inr (f tt)
      go false f = inl tt

  -- What holds of a component once it holds of all its sources holds of every settled one. Back from v the components q behind it
  -- are distinct, so there are no more of them than edges
  module _ {ℓ} (P : ℕ → Type ℓ) (from-sources : (v : ℕ) → ((u : ℕ) → Memᴰ (u ⟶ v) es → P u) → P v) where
    back : (k v : ℕ) (q : List ℕ) → Settled es v → Distinct q → ((x : ℕ) → Memᴰ x q → Leads v x) → ((x : ℕ) → Memᴰ x q → Memᴰ x (map sink_of es))
        → length es < k + length q → P v
    unfolding Leads
    back zero v q s d f i h = absurd (omega (arith, pigeon q (map sink_of es) d i, length-map es sink_of))
    back (suc k) v q s d f i h =
        from-sources v (λ u m. back k u (v ∷ q) (settled_back es m s) ((λ n. s v (f v n) (stop refl)), d)
        (λ x n. ⊎_elim (λ e. (v, m, stop (sym e))) (λ n'. let r = f x n' in (v, m, step r.1 r.2)) (Memᴰ.cases_cons n))
        (λ x n. ⊎_elim (λ e. Memᴰ.cast e (Memᴰ.map sink_of m)) (i x) (Memᴰ.cases_cons n))
        (omega arith))

    pub settled-induction : (v : ℕ) → Settled es v → P v
    settled-induction v s = back (suc (length es)) v [] s tt (λ x m. absurd (Memᴰ.not-nil m)) (λ x m. absurd (Memᴰ.not-nil m)) (omega arith)

  last-edge : {u w v : ℕ} → Memᴰ (u ⟶ w) es → Walk es w v → (x : ℕ) × Memᴰ (x ⟶ v) es × Walk es u x
  last-edge {u} m (stop e) = (u, Memᴰ.cast (ap (λ y. u ⟶ y) (sym e)) m, stop refl)
  last-edge m (step n p) = let r = last-edge n p in (r.0, r.1, step m r.2)

  -- settled, if every source is
  pub settled-from : (v : ℕ) → ((u : ℕ) → Memᴰ (u ⟶ v) es → Settled es u) → Settled es v
  settled-from v h u c (step {w} m p) = let r = last-edge m p in h r.0 r.1 u c r.2
  settled-from v h u c (stop e) =
      let r = last-edge c.1 c.2 in
      h r.0 (Memᴰ.cast (ap (λ y. r.0 ⟶ y) (sym e)) r.1) u c r.2

  pub path-exists : (v : ℕ) → Settled es v → (p : List ℕ) × PathTo es v p
  path-exists v s = settled-induction (λ v. Settled es v → (p : List ℕ) × PathTo es v p) (λ v ih s. go v ih s (into v)) v s s
    where
      go : (v : ℕ) → ((u : ℕ) → Memᴰ (u ⟶ v) es → Settled es u → (p : List ℕ) × PathTo es u p) → Settled es v
          → T (no_incoming es v) ⊎ ((u : ℕ) × Memᴰ (u ⟶ v) es) → (p : List ℕ) × PathTo es v p
      go v ih s (inl t) = ([], only (no_incoming→ es v t))
      go v ih s (inr r) =
          let k = settled_back es r.1 s in
          let p = ih r.0 r.1 k in
          (r.0 ∷ p.0, then r.1 k p.1)

module _ {f : ℕ → ℕ → ℕ} (C : Choice f) (es : List Edge) (d : ℕ → ℕ) where
  sum-in : {v : ℕ} {p : List ℕ} → PathTo es v p → Memᴰ (delay_sum d p) (map (delay_sum d) (paths_to es v))
  sum-in P = Memᴰ.map (delay_sum d) (path→listed es P)

  -- no path is better than the best sum, and one has it
  pub extreme-bounds : {v : ℕ} {p : List ℕ} → PathTo es v p → C.Good (extreme_sum f es d v) (delay_sum d p)
  unfolding extreme_sum
  extreme-bounds P = extreme-good C (sum-in P)

  pub extreme-attained : {v : ℕ} {p : List ℕ} → PathTo es v p → (q : List ℕ) × PathTo es v q × (delay_sum d q ≡ extreme_sum f es d v)
  unfolding extreme_sum
  extreme-attained {v} P =
      let r = Memᴰ.of_map (delay_sum d) (paths_to es v) (extreme-at C _ (sum-in P)) in
      (r.0, listed→path es v r.0 r.1, r.2)

  pub extreme-reached : (v : ℕ) → Settled es v → (p : List ℕ) × PathTo es v p × (delay_sum d p ≡ extreme_sum f es d v)
  extreme-reached v s = extreme-attained (path-exists es v s).1

  -- where there is a path, the best sum is the extreme one, and the only one
  pub sum-is-extreme : {v : ℕ} {p : List ℕ} → PathTo es v p → IsExtreme C.Good es (delay_sum d) v (extreme_sum f es d v)
  sum-is-extreme P = let r = extreme-attained P in record { path = r.0; is_path = r.1; has_sum = r.2; bounds = λ p Q. extreme-bounds Q }

  pub extreme-is-sum : {v n : ℕ} → IsExtreme C.Good es (delay_sum d) v n → n ≡ extreme_sum f es d v
  extreme-is-sum {v} {n} x =
      let r = extreme-attained x.is_path in
      C.good_both n (extreme_sum f es d v) (subst (C.Good n) r.2 (x.bounds r.0 r.1)) (subst (C.Good (extreme_sum f es d v)) x.has_sum (extreme-bounds x.is_path))

  -- what an incoming edge from u brings: u's best sum with u's delay
  unfoldable pub through : ℕ → ℕ
  through u = saturating_add (extreme_sum f es d u) (d u)

  down : {v : ℕ} {p : List ℕ} (u : ℕ) → Memᴰ (u ⟶ v) es → PathTo es v p → (y : ℕ) × Memᴰ y (map through (settled_sources es v)) × C.Good y (delay_sum d p)
  unfolding through delay_sum saturating_add
  down u m (only h) = absurd (h u m)
  down u m (then {u = w} {p = p} k s P) =
      (through w, Memᴰ.map through (source_in es k s), C.onto (d w) _ _ (extreme-bounds P))

  up : (v : ℕ) {w : ℕ} → Memᴰ w (settled_sources es v) → Memᴰ (through w) (map (delay_sum d) (paths_to es v))
  unfolding through delay_sum
  up v {w} n =
      let k = source-out es n in
      let r = extreme-reached w k.1 in
      Memᴰ.cast (ap (λ n. saturating_add n (d w)) (sym r.2)) (sum-in (then k.0 k.1 r.1))

  -- the best sum at a component with an edge into it, from those of its settled sources
  pub extreme-step : (v : ℕ) (u : ℕ) → Memᴰ (u ⟶ v) es → extreme_sum f es d v ≡ extreme f (map through (settled_sources es v))
  unfolding extreme_sum
  extreme-step v u m = extreme-same C _ _ below above
    where
      below : Under C (map (delay_sum d) (paths_to es v)) (map through (settled_sources es v))
      below x n =
          let r = Memᴰ.of_map (delay_sum d) (paths_to es v) n in
          subst (λ z. (y : ℕ) × Memᴰ y (map through (settled_sources es v)) × C.Good y z) r.2 (down u m (listed→path es v r.0 r.1))

      above : Under C (map through (settled_sources es v)) (map (delay_sum d) (paths_to es v))
      above x n =
          let r = Memᴰ.of_map through (settled_sources es v) n in
          (x, Memᴰ.cast (sym r.2) (up v r.1), C.good_refl x)
