-- The walk of one chain: it ends at a retained component, and it meets no component twice but that the last may be the first. Assumes nothing.
use mathlib.Core.Bool.{Bool, true, false, cond}
use mathlib.Core.List.Memᴰ
use mathlib.Core.List.{List, [], ◌∷◌, ◌++◌, map, Memᴰ}
use mathlib.Core.Path.{◌≡◌, refl, sym, ap, ap₂, subst, ◌∙◌}
use mathlib.Core.Logic.{◌⊎◌, inl, inr, ⊎_elim}
use Prim.Native.Nat.{ℕ, zero, suc, ◌+◌, ◌≤◌}
use native.Mathlib.Omega.{arith}
use lib.Dec.{T, eqb→eq}
use lib.ListN.{length, length-append, length-map}
use Rattle.rules.specs.Lists.{keep, Distinct}
use Rattle.rules.specs.Graph.{Edge, ◌⟶◌, source_of, sink_of, starts_at, ends_at, in_count, out_count}
use Rattle.rules.specs.Scene.{Component}
use Rattle.rules.specs.Projection.{compressed, next, chain, chain_from, before_last, last_of}
use Rattle.rules.proofs.Lists.{tests, keep-in, keep_out, eq_test}
use Rattle.rules.proofs.Indices.{at_mem}
use Rattle.rules.proofs.Permutations.{keep-length}
use Rattle.rules.proofs.Distinct.{pigeon}

-- Rows by their last

pub before-appended : (l : List ℕ) (x : ℕ) → before_last (l ++ (x ∷ [])) ≡ l
unfolding before_last
before-appended [] x = refl
before-appended (y ∷ []) x = refl
before-appended (y ∷ z ∷ l) x = ap (λ r. y ∷ r) (before-appended (z ∷ l) x)

pub last-appended : (l : List ℕ) (x : ℕ) → last_of (l ++ (x ∷ [])) ≡ x
unfolding last_of
last-appended [] x = refl
last-appended (y ∷ []) x = refl
last-appended (y ∷ z ∷ l) x = last-appended (z ∷ l) x

-- every two neighbours of a row are joined by an edge
pub data Joined (es : List Edge) : List ℕ → Type 0 where
  alone : {v : ℕ} → Joined es (v ∷ [])
  along : {u v : ℕ} {l : List ℕ} → Memᴰ (u ⟶ v) es → Joined es (v ∷ l) → Joined es (u ∷ v ∷ l)

joined-into : {es : List Edge} {u : ℕ} {l : List ℕ} → Joined es (u ∷ l) → (y : ℕ) → Memᴰ y l → Memᴰ y (map sink_of es)
joined-into alone y m = absurd (Memᴰ.not-nil m)
joined-into (along k j) y m = ⊎_elim (λ p. Memᴰ.cast p (Memᴰ.map sink_of k)) (joined-into j y) (Memᴰ.cases_cons m)

-- Single edges

single : {A : Type 0} (l : List A) (x y : A) → length l ≡ 1 → Memᴰ x l → Memᴰ y l → x ≡ y
single [] x y h m n = absurd (Memᴰ.not-nil m)
single (z ∷ []) x y h m n = Memᴰ.eq_of_singleton m ∙ sym (Memᴰ.eq_of_singleton n)
single (z ∷ w ∷ l) x y h m n = absurd (omega arith)

module _ (es : List Edge) where
  -- two edges into a component with one incoming edge are the same
  pub one-into : (v : ℕ) → in_count es v ≡ 1 → (e f : Edge) → Memᴰ e es → Memᴰ f es → sink_of e ≡ v → sink_of f ≡ v → e ≡ f
  unfolding in_count
  one-into v h e f m n p q =
      single (keep (ends_at v) es) e f (keep-length (ends_at v) es ∙ h) (keep-in (ends_at v) m (eq_test p)) (keep-in (ends_at v) n (eq_test q))

  -- an edge leads from a component with one outgoing edge to the next
  pub next_edge : (v : ℕ) → out_count es v ≡ 1 → Memᴰ (v ⟶ next es v) es
  unfolding next out_count
  next_edge v h = let r = Memᴰ.of_map sink_of (keep (starts_at v) es) (at_mem v (map sink_of (keep (starts_at v) es)) 0 (omega (arith, one))) in at r.0 (keep_out (starts_at v) es r.1) r.2
    where
      one : length (map sink_of (keep (starts_at v) es)) ≡ 1
      one = length-map (keep (starts_at v) es) sink_of ∙ keep-length (starts_at v) es ∙ h

      at : (e : Edge) → Memᴰ e es × T (starts_at v e) → sink_of e ≡ next es v → Memᴰ (v ⟶ next es v) es
      at (a ⟶ b) k e = Memᴰ.cast (ap₂ ◌⟶◌ (sym (eqb→eq a v k.1)) (sym e)) k.0

-- The walk, through components that have one incoming and one outgoing edge

module _ (es : List Edge) (through : ℕ → Bool) where
  -- within k steps from v the walk goes through the components of the row and comes to w
  data Goes : ℕ → ℕ → List ℕ → ℕ → Type 0 where
    spent : {v : ℕ} → Goes zero v [] v
    rests : {k v : ℕ} → (T (through v) → ⊥) → Goes (suc k) v [] v
    goes : {k v w : ℕ} {l : List ℕ} → T (through v) → Goes k (next es v) l w → Goes (suc k) v (v ∷ l) w

  walked : (k v : ℕ) → (l : List ℕ) × (w : ℕ) × Goes k v l w × (chain k es through v ≡ l ++ (w ∷ []))
  unfolding chain
  walked zero v = ([], v, spent, refl)
  walked (suc k) v = at (through v) (λ t. t) (λ t. t) (walked k (next es v))
    where
      at : (b : Bool) → (T b → T (through v)) → (T (through v) → T b) → ((l : List ℕ) × (w : ℕ) × Goes k (next es v) l w × (chain k es through (next es v) ≡ l ++ (w ∷ [])))
          → (l : List ℕ) × (w : ℕ) × Goes (suc k) v l w × (cond b (v ∷ chain k es through (next es v)) (v ∷ []) ≡ l ++ (w ∷ []))
      at true f g r = (v ∷ r.0, r.1, goes (f tt) r.2, ap (λ l. v ∷ l) r.3)
      at false f g r = ([], v, rests g, refl)

  -- f leads to z, and i components lie between
  data Met (f : Edge) : ℕ → ℕ → Type 0 where
    first : {z : ℕ} → sink_of f ≡ z → Met f z 0
    further : {y z i : ℕ} → Met f y i → T (through y) → next es y ≡ z → Met f z (suc i)

  all-through : {k v w : ℕ} {l : List ℕ} → Goes k v l w → (y : ℕ) → Memᴰ y l → T (through y)
  all-through spent y m = absurd (Memᴰ.not-nil m)
  all-through (rests h) y m = absurd (Memᴰ.not-nil m)
  all-through (goes t g) y m = ⊎_elim (λ e. subst (λ x. T (through x)) (sym e) t) (all-through g y) (Memᴰ.cases_cons m)

  enters : {k v w : ℕ} {l : List ℕ} → Goes k v l w → (y : ℕ) → Memᴰ y l → T (through v)
  enters spent y m = absurd (Memᴰ.not-nil m)
  enters (rests h) y m = absurd (Memᴰ.not-nil m)
  enters (goes t g) y m = t

  -- where the walk stops early, it has gone all its steps
  used : {k v w : ℕ} {l : List ℕ} → Goes k v l w → T (through w) → length l ≡ k
  used spent t = refl
  used (rests h) t = absurd (h t)
  used (goes s g) t = ap suc (used g t)

  all-met : {f : Edge} {k v w i : ℕ} {l : List ℕ} → Goes k v l w → Met f v i → (y : ℕ) → Memᴰ y l → (j : ℕ) × Met f y j × (i ≤ j)
  all-met spent c y m = absurd (Memᴰ.not-nil m)
  all-met (rests h) c y m = absurd (Memᴰ.not-nil m)
  all-met {f} {i} (goes {v} {l = l} t g) c y m = at (all-met g (further c t refl) y) (Memᴰ.cases_cons m)
    where
      at : (Memᴰ y l → (j : ℕ) × Met f y j × (suc i ≤ j)) → (y ≡ v) ⊎ Memᴰ y l → (j : ℕ) × Met f y j × (i ≤ j)
      at ih (inl e) = (i, subst (λ x. Met f x i) (sym e) c, omega arith)
      at ih (inr n) = let r = ih n in (r.0, r.1, omega (arith, r.2))

  module _ (one_in : (v : ℕ) → T (through v) → in_count es v ≡ 1) (one_out : (v : ℕ) → T (through v) → out_count es v ≡ 1) where
    all-joined : {k v w : ℕ} {l : List ℕ} → Goes k v l w → (u : ℕ) → Memᴰ (u ⟶ v) es → Joined es (u ∷ (l ++ (w ∷ [])))
    all-joined spent u m = along m alone
    all-joined (rests h) u m = along m alone
    all-joined (goes {v} t g) u m = along m (all-joined g v (next_edge es v (one_out v t)))

    -- no edge that a walk begins with enters z beside one that leaves a component gone through
    begins : {f : Edge} {z : ℕ} (y : ℕ) → Memᴰ f es → (T (through (source_of f)) → ⊥) → T (through z) → sink_of f ≡ z → T (through y) → next es y ≡ z → ⊥
    begins {f} {z} y m kept t p s q = kept (subst (λ x. T (through x)) (ap source_of (one-into es z (one_in z t) (y ⟶ next es y) f (next_edge es y (one_out y s)) m q p)) s)

    -- a component gone through says which edge the walk began with, and how far it has come
    met-once : {f g : Edge} → Memᴰ f es → Memᴰ g es → (T (through (source_of f)) → ⊥) → (T (through (source_of g)) → ⊥) → {z i j : ℕ} → T (through z) → Met f z i → Met g z j → (f ≡ g) × (i ≡ j)
    met-once {f} {g} m n a b {z} t (first p) (first q) = (one-into es z (one_in z t) f g m n p q, refl)
    met-once m n a b t (first p) (further {y} c s q) = absurd (begins y m a t p s q)
    met-once m n a b t (further {y} c s q) (first p) = absurd (begins y n b t p s q)
    met-once {f} {g} m n a b {z} t (further {y} c s q) (further {y = y'} {i = j} c' s' q') =
        let e = ap source_of (one-into es z (one_in z t) (y ⟶ next es y) (y' ⟶ next es y') (next_edge es y (one_out y s)) (next_edge es y' (one_out y' s')) q q') in
        let r = met-once m n a b s c (subst (λ x. Met g x j) (sym e) c') in
        (r.0, ap suc r.1)

    all_once : {f : Edge} {k v w i : ℕ} {l : List ℕ} → Memᴰ f es → (T (through (source_of f)) → ⊥) → Goes k v l w → Met f v i → Distinct l
    all_once m kept spent c = tt
    all_once m kept (rests h) c = tt
    all_once m kept (goes {v} t g) c =
        (λ n. let r = all-met g (further c t refl) v n in omega (arith, (met-once m m kept kept t c r.1).1, r.2), all_once m kept g (further c t refl))

module _ (cs : List Component) (es : List Edge) where
  -- the components strictly between the ends of a chain
  unfoldable pub inner : Edge → List ℕ
  inner e = before_last (chain (length es) es (compressed cs es) (sink_of e))

  pub compressed-in : (v : ℕ) → T (compressed cs es v) → in_count es v ≡ 1
  unfolding compressed
  compressed-in v t = eqb→eq (in_count es v) 1 (search tests)

  pub compressed-out : (v : ℕ) → T (compressed cs es v) → out_count es v ≡ 1
  unfolding compressed
  compressed-out v t = eqb→eq (out_count es v) 1 (search tests)

  goes-between : (e : Edge) → Goes es (compressed cs es) (length es) (sink_of e) (inner e) (last_of (chain_from cs es e)) × (chain_from cs es e ≡ source_of e ∷ (inner e ++ (last_of (chain_from cs es e) ∷ [])))
  unfolding chain_from inner
  goes-between e = at (walked es (compressed cs es) (length es) (sink_of e))
    where
      at : ((l : List ℕ) × (w : ℕ) × Goes es (compressed cs es) (length es) (sink_of e) l w × (chain (length es) es (compressed cs es) (sink_of e) ≡ l ++ (w ∷ [])))
          → Goes es (compressed cs es) (length es) (sink_of e) (inner e) (last_of (chain_from cs es e)) × (chain_from cs es e ≡ source_of e ∷ (inner e ++ (last_of (chain_from cs es e) ∷ [])))
      at r = rw (r.3, before-appended r.0 r.1, last-appended (source_of e ∷ r.0) r.1) (r.2, refl)

  pub chain-parts : (e : Edge) → chain_from cs es e ≡ source_of e ∷ (inner e ++ (last_of (chain_from cs es e) ∷ []))
  chain-parts e = (goes-between e).1

  pub chain_length : (e : Edge) → length (chain_from cs es e) ≡ 2 + length (inner e)
  chain_length e = omega (arith, ap length (chain-parts e), length-append (inner e) (last_of (chain_from cs es e) ∷ []))

  pub chain-before : (e : Edge) → before_last (chain_from cs es e) ≡ source_of e ∷ inner e
  chain-before e = ap before_last (chain-parts e) ∙ before-appended (source_of e ∷ inner e) (last_of (chain_from cs es e))

  -- the components strictly between the ends are compressed
  pub chain-inner : (e : Edge) (y : ℕ) → Memᴰ y (inner e) → T (compressed cs es y)
  chain-inner e = all-through es (compressed cs es) (goes-between e).0

  -- where there are any, the first edge ends at a compressed component
  pub chain-enters : (e : Edge) (y : ℕ) → Memᴰ y (inner e) → T (compressed cs es (sink_of e))
  chain-enters e = enters es (compressed cs es) (goes-between e).0

  -- every two neighbours of a chain are joined by an edge
  pub chain-edges : (e : Edge) → Memᴰ e es → Joined es (chain_from cs es e)
  chain-edges (a ⟶ b) m = rw (chain-parts (a ⟶ b)) (all-joined es (compressed cs es) compressed-in compressed-out (goes-between (a ⟶ b)).0 a m)

  -- an edge ends at each component after the first
  pub chain-into : (e : Edge) → Memᴰ e es → (y : ℕ) → Memᴰ y (inner e ++ (last_of (chain_from cs es e) ∷ [])) → Memᴰ y (map sink_of es)
  chain-into e m = joined-into (subst (Joined es) (chain-parts e) (chain-edges e m))

  pub inner-once : (e : Edge) → Memᴰ e es → (T (compressed cs es (source_of e)) → ⊥) → Distinct (inner e)
  inner-once e m kept = all_once es (compressed cs es) compressed-in compressed-out m kept (goes-between e).0 (first refl)

  -- no component stands twice before the last
  pub chain-once : (e : Edge) → Memᴰ e es → (T (compressed cs es (source_of e)) → ⊥) → Distinct (before_last (chain_from cs es e))
  chain-once e m kept = rw (chain-before e) (λ n. kept (chain-inner e (source_of e) n), inner-once e m kept)

  -- chains with a component in common between their ends begin with the same edge
  pub chain-apart : (e f : Edge) → Memᴰ e es → Memᴰ f es → (T (compressed cs es (source_of e)) → ⊥) → (T (compressed cs es (source_of f)) → ⊥)
      → (y : ℕ) → Memᴰ y (inner e) → Memᴰ y (inner f) → e ≡ f
  chain-apart e f m n a b y i j =
      (met-once es (compressed cs es) compressed-in compressed-out m n a b (chain-inner e y i) (all-met es (compressed cs es) (goes-between e).0 (first refl) y i).1 (all-met es (compressed cs es) (goes-between f).0 (first refl) y j).1).0

  -- the walk does not stop for lack of steps: the last component is retained
  pub chain-ends : (e : Edge) → Memᴰ e es → (T (compressed cs es (source_of e)) → ⊥) → T (compressed cs es (last_of (chain_from cs es e))) → ⊥
  chain-ends e m kept t =
      omega (arith, used es (compressed cs es) (goes-between e).0 t, pigeon (source_of e ∷ inner e) (map source_of es) (subst Distinct (chain-before e) (chain-once e m kept)) leaves, length-map es source_of)
    where
      leaves : (y : ℕ) → Memᴰ y (source_of e ∷ inner e) → Memᴰ y (map source_of es)
      leaves y n =
          ⊎_elim (λ p. Memᴰ.cast p (Memᴰ.map source_of m)) (λ k. Memᴰ.map source_of (next_edge es y (compressed-out y (chain-inner e y k)))) (Memᴰ.cases_cons n)
