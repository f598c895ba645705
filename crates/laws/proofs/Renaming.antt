-- Nodes under other names, no two the same: every notion of the named edges at a named node is that of the edges at the node. Assumes nothing.
use mathlib.Core.Bool.{Bool, true, false, not, cond, ◌&&◌}
use mathlib.Core.List.{List, [], ◌∷◌, ◌++◌, map, map-map, map-append, flat_map, Memᴰ}
use mathlib.Core.Path.{◌≡◌, refl, sym, ap, ap₂, ◌∙◌}
use Prim.Native.Nat.{ℕ, zero, suc, ◌<◌, min, max}
use lib.Dec.{eqb, eqb→eq}
use lib.ListN.{length, length-map}
use Rattle.rules.specs.Lists.{keep}
use Rattle.rules.specs.Graph.{Edge, ◌⟶◌, source_of, sink_of, starts_at, ends_at, in_count, out_count, reach, cycle_reaching, settled, strongly_connected}
use Rattle.rules.specs.Positions.{named, Inside}
use Rattle.rules.specs.Paths.{no_incoming, enters_settled, settled_sources, paths_within, paths_to, delay_sum, extreme, extreme_sum, smallest_sum, largest_sum}
use Rattle.rules.specs.Delay.{saturating_add}
use Rattle.rules.specs.Scene.{Component, row_at}
use Rattle.rules.specs.Labels.{label}
use Rattle.rules.specs.Reasons.{unequal_reconvergent_delay, unequal_at, unequal_reason}
use Rattle.rules.specs.Projection.{compressible_kind, compressed}
use Rattle.rules.proofs.Lists.{same_test, eq_test, any_same, any-map, keep_same, keep-map, map_same, flat-mapped}
use Rattle.rules.proofs.Paths.{source-out, before, listed→path}
use Rattle.rules.proofs.Counts.{count_same, count_map}

module _ (name : ℕ → ℕ) (n : ℕ) (injective : (i j : ℕ) → i < n → j < n → name i ≡ name j → i ≡ j) where
  pub same-named : (u v : ℕ) → u < n → v < n → eqb (name u) (name v) ≡ eqb u v
  same-named u v h k = same_test _ _ (λ t. eq_test (injective u v h k (eqb→eq (name u) (name v) t))) (λ t. eq_test (ap name (eqb→eq u v t)))

  pub reach-named : (es : List Edge) → Inside n es → (u v : ℕ) → u < n → v < n → reach (map (named name) es) (name u) (name v) ≡ reach es u v
  unfolding reach
  reach-named [] inside u v h k = same-named u v h k
  reach-named ((a ⟶ b) ∷ es) inside u v h k =
      let ends = inside (a ⟶ b) (Memᴰ.head refl) in
      let ih = reach-named es (λ e m. inside e (Memᴰ.tail m)) in
      rw (ih u v h k, ih u a h ends.0, ih b v ends.1 k)

  -- the sum of a row, by delays that agree below n
  pub sum-named : (d d' : ℕ → ℕ) → ((i : ℕ) → i < n → d (name i) ≡ d' i) → (p : List ℕ) → ((x : ℕ) → Memᴰ x p → x < n) → delay_sum d (map name p) ≡ delay_sum d' p
  unfolding delay_sum
  sum-named d d' same [] below = refl
  sum-named d d' same (u ∷ p) below = ap₂ saturating_add (sum-named d d' same p (λ x m. below x (Memᴰ.tail m))) (same u (below u (Memᴰ.head refl)))

  module _ (es : List Edge) (inside : Inside n es) where
    pub connected-named : (u v : ℕ) → u < n → v < n → strongly_connected (map (named name) es) (name u) (name v) ≡ strongly_connected es u v
    unfolding strongly_connected
    connected-named u v h k = ap₂ ◌&&◌ (reach-named es inside u v h k) (reach-named es inside v u k h)

    pub settled-named : (v : ℕ) → v < n → settled (map (named name) es) (name v) ≡ settled es v
    unfolding settled
    settled-named v h = ap not (any-map (cycle_reaching (map (named name) es) (name v)) (named name) es ∙ any_same _ (cycle_reaching es v) es (λ e m.
        ap₂ ◌&&◌ (reach-named es inside (sink_of e) (source_of e) (inside e m).1 (inside e m).0) (reach-named es inside (source_of e) v (inside e m).0 h)))

    none_named : (v : ℕ) → v < n → no_incoming (map (named name) es) (name v) ≡ no_incoming es v
    unfolding no_incoming
    none_named v h = ap not (any-map (ends_at (name v)) (named name) es ∙ any_same _ (ends_at v) es (λ e m. same-named (sink_of e) v (inside e m).1 h))

    sources-named : (v : ℕ) → v < n → settled_sources (map (named name) es) (name v) ≡ map name (settled_sources es v)
    unfolding settled_sources
    sources-named v h =
        ap (map source_of) (keep-map (enters_settled (map (named name) es) (name v)) (named name) es ∙ ap (map (named name)) (keep_same _ (enters_settled es v) es enters))
        ∙ map-map source_of (named name) kept ∙ sym (map-map name source_of kept)
      where
        kept : List Edge
        kept = keep (enters_settled es v) es

        enters : (e : Edge) → Memᴰ e es → enters_settled (map (named name) es) (name v) (named name e) ≡ enters_settled es v e
        enters e m = ap₂ ◌&&◌ (same-named (sink_of e) v (inside e m).1 h) (settled-named (source_of e) (inside e m).0)

    within-named : (k v : ℕ) → v < n → paths_within k (map (named name) es) (name v) ≡ map (map name) (paths_within k es v)
    unfolding paths_within
    within-named zero v h = refl
    within-named (suc k) v h = ap₂ ◌++◌ (first (no_incoming (map (named name) es) (name v)) (no_incoming es v) (none_named v h)) (rest (within-named k)) ∙ sym (map-append (map name) (cond (no_incoming es v) ([] ∷ []) []) _)
      where
        first : (b c : Bool) → b ≡ c → cond b ([] ∷ []) [] ≡ map (map name) (cond c ([] ∷ []) [])
        first b true e = rw e
        first b false e = rw e

        rest : ((u : ℕ) → u < n → paths_within k (map (named name) es) (name u) ≡ map (map name) (paths_within k es u))
            → flat_map (λ u. map (λ p. u ∷ p) (paths_within k (map (named name) es) u)) (settled_sources (map (named name) es) (name v)) ≡ map (map name) (flat_map (λ u. map (λ p. u ∷ p) (paths_within k es u)) (settled_sources es v))
        rest ih =
            ap (flat_map (λ u. map (λ p. u ∷ p) (paths_within k (map (named name) es) u))) (sources-named v h)
            ∙ flat-mapped _ name (map name) (λ u. map (λ p. u ∷ p) (paths_within k es u)) (settled_sources es v) (λ u m.
            ap (map (λ p. name u ∷ p)) (ih u (inside (u ⟶ v) (source-out es m).0).0)
            ∙ map-map (λ p. name u ∷ p) (map name) (paths_within k es u) ∙ sym (map-map (map name) (λ p. u ∷ p) (paths_within k es u)))

    -- all paths, in the same order
    pub paths-named : (v : ℕ) → v < n → paths_to (map (named name) es) (name v) ≡ map (map name) (paths_to es v)
    unfolding paths_to
    paths-named v h = ap (λ k. paths_within (suc k) (map (named name) es) (name v)) (length-map es (named name)) ∙ within-named (suc (length es)) v h

    pub in-named : (v : ℕ) → v < n → in_count (map (named name) es) (name v) ≡ in_count es v
    unfolding in_count
    in-named v h = count_map (ends_at (name v)) (named name) es ∙ count_same _ (ends_at v) es (λ e m. same-named (sink_of e) v (inside e m).1 h)

    pub out-named : (v : ℕ) → v < n → out_count (map (named name) es) (name v) ≡ out_count es v
    unfolding out_count
    out-named v h = count_map (starts_at (name v)) (named name) es ∙ count_same _ (starts_at v) es (λ e m. same-named (source_of e) v (inside e m).0 h)

    -- the nodes of a path are below n
    path-below : (v : ℕ) (p : List ℕ) → Memᴰ p (paths_to es v) → (x : ℕ) → Memᴰ x p → x < n
    path-below v p m x k = (inside _ (before es (listed→path es v p m) x k).1).0

    -- the smallest and the largest sum, by delays that agree below n
    pub sums-named : (d d' : ℕ → ℕ) → ((i : ℕ) → i < n → d (name i) ≡ d' i) → (f : ℕ → ℕ → ℕ) (v : ℕ) → v < n → extreme_sum f (map (named name) es) d (name v) ≡ extreme_sum f es d' v
    unfolding extreme_sum
    sums-named d d' same f v h =
        ap (extreme f) (ap (map (delay_sum d)) (paths-named v h) ∙ map-map (delay_sum d) (map name) (paths_to es v)
        ∙ map_same _ (delay_sum d') (paths_to es v) (λ p m. sum-named d d' same p (path-below v p m)))

    module _ (low low' high high' : ℕ → ℕ) (lows : (i : ℕ) → i < n → low (name i) ≡ low' i) (highs : (i : ℕ) → i < n → high (name i) ≡ high' i) (v : ℕ) (h : v < n) where
      pub label-named : label (map (named name) es) low high (name v) ≡ label es low' high' v
      unfolding label
      label-named = cc (settled-named v h, sums-named low low' lows min v h, sums-named high high' highs max v h)

      pub unequal-at-named : unequal_at (map (named name) es) low high (name v) ≡ unequal_at es low' high' v
      unfolding unequal_at
      unequal-at-named = cc (in-named v h, sums-named low low' lows min v h, sums-named high high' highs max v h)

      pub unequal-reason-named : unequal_reason (map (named name) es) low high (name v) ≡ unequal_reconvergent_delay (name v) (smallest_sum es low' v) (largest_sum es high' v)
      unfolding unequal_reason
      unequal-reason-named = cc (sums-named low low' lows min v h, sums-named high high' highs max v h)

    pub compressed-named : (cs : List Component) (v : ℕ) → v < n
        → compressed cs (map (named name) es) (name v) ≡ (compressible_kind (row_at cs (name v)).node && (eqb (in_count es v) 1 && eqb (out_count es v) 1))
    unfolding compressed
    compressed-named cs v h = rw (in-named v h, out-named v h)
