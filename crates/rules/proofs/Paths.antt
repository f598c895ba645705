-- `settled` and `paths_to` are what the predicates say. Assumes nothing.
use mathlib.Core.Bool.{Bool, true, false, cond}
use mathlib.Core.List.Memᴰ
use mathlib.Core.List.{List, [], ◌∷◌, map, flat_map, Memᴰ}
use mathlib.Core.Path.{◌≡◌, refl, sym, ap, ap₂, subst}
use mathlib.Core.Logic.{◌⊎◌, inl, inr, ⊎_elim}
use Prim.Native.Nat.{ℕ, zero, suc, ◌≤◌, ◌<◌}
use native.Mathlib.Omega.{arith}
use native.Mathlib.Nat.{not-suc-le-zero}
use lib.Dec.{T, T_not, not_T, eqb, eqb→eq, eqb_refl}
use lib.ListN.{length, length-map}
use Rattle.rules.specs.Lists.{any, keep, Distinct}
use Rattle.rules.specs.Graph.{Edge, ◌⟶◌, source_of, ends_at, cycle_reaching, settled, Walk, stop, step, Settled}
use Rattle.rules.specs.Paths.{enters_settled, no_incoming, settled_sources, paths_within, paths_to, PathTo, only, then}
use Rattle.rules.proofs.Lists.{and_left, and_right, tests, any-in, any_out, keep-in, keep_out, flat_in, flat_out}
use Rattle.rules.proofs.Reach.{join, reach→walk, walk→reach}
use Rattle.rules.proofs.Distinct.{pigeon}

module _ (es : List Edge) where
  pub settled→ : (v : ℕ) → T (settled es v) → Settled es v
  unfolding settled
  settled→ v t u c p = T_not (any (cycle_reaching es v) es) t (any-in (cycle_reaching es v) c.1 (search (tests, walk→reach es c.0 u c.2, walk→reach es u v p)))

  pub →settled : (v : ℕ) → Settled es v → T (settled es v)
  unfolding settled
  →settled v s = not_T (any (cycle_reaching es v) es) (λ t. let r = any_out (cycle_reaching es v) es t in go r.0 r.1 r.2)
    where
      go : (e : Edge) → Memᴰ e es → T (cycle_reaching es v e) → ⊥
      go (a ⟶ b) m t = s a (b, m, reach→walk es b a (search tests)) (reach→walk es a v (search tests))

  pub settled_back : {u v : ℕ} → Memᴰ (u ⟶ v) es → Settled es v → Settled es u
  settled_back m s w c p = s w c (join p (step m (stop refl)))

  pub no_incoming→ : (v : ℕ) → T (no_incoming es v) → (u : ℕ) → Memᴰ (u ⟶ v) es → ⊥
  unfolding no_incoming
  no_incoming→ v t u m = T_not (any (ends_at v) es) t (any-in (ends_at v) m (eqb_refl v))

  pub →no_incoming : (v : ℕ) → ((u : ℕ) → Memᴰ (u ⟶ v) es → ⊥) → T (no_incoming es v)
  unfolding no_incoming
  →no_incoming v h = not_T (any (ends_at v) es) (λ t. let r = any_out (ends_at v) es t in go r.0 r.1 r.2)
    where
      go : (e : Edge) → Memᴰ e es → T (ends_at v e) → ⊥
      go (a ⟶ b) m t = h a (Memᴰ.cast (ap (λ x. a ⟶ x) (sym (eqb→eq b v t))) m)

  -- the settled sources of the edges into v
  pub source_in : {u v : ℕ} → Memᴰ (u ⟶ v) es → Settled es u → Memᴰ u (settled_sources es v)
  unfolding settled_sources
  source_in {u} {v} m s = Memᴰ.map source_of (keep-in (enters_settled es v) m (search (tests, eqb_refl v, →settled u s)))

  pub source-out : {u v : ℕ} → Memᴰ u (settled_sources es v) → Memᴰ (u ⟶ v) es × Settled es u
  unfolding settled_sources
  source-out {u} {v} n = let r = Memᴰ.of_map source_of (keep (enters_settled es v) es) n in go r.0 (keep_out (enters_settled es v) es r.1) r.2
    where
      go : (e : Edge) → Memᴰ e es × T (enters_settled es v e) → source_of e ≡ u → Memᴰ (u ⟶ v) es × Settled es u
      go (a ⟶ b) k d = (
        Memᴰ.cast (ap₂ ◌⟶◌ (sym d) (sym (eqb→eq b v (and_left (eqb b v) (settled es a) k.1)))) k.0,
        subst (Settled es) d (settled→ a (and_right (eqb b v) (settled es a) k.1)),
      )

  abbrev onward : ℕ → ℕ → List (List ℕ)
  onward k u = map (λ p. u ∷ p) (paths_within k es u)

  -- a path is listed, where its length allows
  pub path→within : (k : ℕ) {v : ℕ} {p : List ℕ} → PathTo es v p → length p < k → Memᴰ p (paths_within k es v)
  unfolding paths_within
  path→within zero P h = absurd (not-suc-le-zero h)
  path→within (suc k) (only {v} n) h = Memᴰ.append_left _ (go (no_incoming es v) (→no_incoming v n))
    where
      go : (b : Bool) → T b → Memᴰ {A = List ℕ} [] (cond b ([] ∷ []) [])
      go true t = Memᴰ.head refl
      go false t = elim t [ ]
  path→within (suc k) (then {v} {u} m s P) h =
      Memᴰ.append_right (cond (no_incoming es v) ([] ∷ []) []) (flat_in (onward k) (source_in m s) (Memᴰ.map (λ p. u ∷ p) (path→within k P (omega arith))))

  -- and nothing else is
  pub within→path : (k v : ℕ) (p : List ℕ) → Memᴰ p (paths_within k es v) → PathTo es v p
  unfolding paths_within
  within→path zero v p m = absurd (Memᴰ.not-nil m)
  within→path (suc k) v p m = go (λ u q. within→path k u q) (Memᴰ.append_cases (cond (no_incoming es v) ([] ∷ []) []) m)
    where
      start : (b : Bool) → (T b → T (no_incoming es v)) → Memᴰ p (cond b ([] ∷ []) []) → PathTo es v p
      start true t n = subst (PathTo es v) (sym (Memᴰ.eq_of_singleton n)) (only (no_incoming→ v (t tt)))
      start false t n = absurd (Memᴰ.not-nil n)

      go : ((u : ℕ) (q : List ℕ) → Memᴰ q (paths_within k es u) → PathTo es u q)
          → Memᴰ p (cond (no_incoming es v) ([] ∷ []) []) ⊎ Memᴰ p (flat_map (onward k) (settled_sources es v)) → PathTo es v p
      go ih (inl n) = start (no_incoming es v) (λ t. t) n
      go ih (inr n) =
          let r = flat_out (onward k) (settled_sources es v) n in
          let q = Memᴰ.of_map (λ p. r.0 ∷ p) (paths_within k es r.0) r.2 in
          let s = source-out r.1 in
          subst (PathTo es v) q.2 (then s.0 s.1 (ih r.0 q.0 q.1))

  -- from a component before v an edge and a walk lead to v
  pub before : {v : ℕ} {p : List ℕ} → PathTo es v p → (x : ℕ) → Memᴰ x p → (w : ℕ) × Memᴰ (x ⟶ w) es × Walk es w v
  before (only n) x m = absurd (Memᴰ.not-nil m)
  before (then {v} {u} {p} k s P) x m = go (before P x) (Memᴰ.cases_cons m)
    where
      go : (Memᴰ x p → (w : ℕ) × Memᴰ (x ⟶ w) es × Walk es w u) → (x ≡ u) ⊎ Memᴰ x p → (w : ℕ) × Memᴰ (x ⟶ w) es × Walk es w v
      go ih (inl e) = (v, Memᴰ.cast (ap (λ y. y ⟶ v) e) k, stop refl)
      go ih (inr n) = let r = ih n in (r.0, r.1, join r.2 (step k (stop refl)))

  all_settled : {v : ℕ} {p : List ℕ} → PathTo es v p → (x : ℕ) → Memᴰ x p → Settled es x
  all_settled (only n) x m = absurd (Memᴰ.not-nil m)
  all_settled (then k s P) x m = ⊎_elim (λ e. subst (Settled es) (sym e) s) (all_settled P x) (Memᴰ.cases_cons m)

  -- no component stands twice in a path
  pub path-distinct : {v : ℕ} {p : List ℕ} → PathTo es v p → Distinct (v ∷ p)
  path-distinct {v} P = ((λ m. all_settled P v m v (before P v m) (stop refl)), rest P)
    where
      rest : {v : ℕ} {p : List ℕ} → PathTo es v p → Distinct p
      rest (only n) = tt
      rest (then {u} k s P) = (λ m. s u (before P u m) (stop refl), rest P)

  pub path_short : {v : ℕ} {p : List ℕ} → PathTo es v p → length p ≤ length es
  path_short {p} P = rw length-map at (pigeon p (map source_of es) (path-distinct P).1 (λ x m. Memᴰ.map source_of (before P x m).1))

  pub path→listed : {v : ℕ} {p : List ℕ} → PathTo es v p → Memᴰ p (paths_to es v)
  unfolding paths_to
  path→listed P = let h = path_short P in path→within (suc (length es)) P (omega arith)

  pub listed→path : (v : ℕ) (p : List ℕ) → Memᴰ p (paths_to es v) → PathTo es v p
  unfolding paths_to
  listed→path v p m = within→path (suc (length es)) v p m
