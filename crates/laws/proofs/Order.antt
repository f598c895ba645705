-- What the order of the edges does not change: reach, settled, sums, labels, reasons, scope and pattern. Assumes nothing.
use mathlib.Core.List.Memᴰ
use mathlib.Core.List.Permᴰ
use mathlib.Core.List.{List, map, Permᴰ}
use mathlib.Core.Path.{◌≡◌, sym, fun_ext}
use Prim.Native.Nat.{ℕ}
use Rattle.rules.specs.Graph.{Edge, starts_at, ends_at, reach, settled, strongly_connected, in_count, out_count, Settled}
use Rattle.rules.specs.Paths.{paths_to, delay_sum, extreme_sum, PathTo, only, then}
use Rattle.rules.specs.Scene.{Component, delay_at, rising_ids}
use Rattle.rules.specs.Reasons.{feedback, unequal_at, unequal_reason, unequal_reasons_by, unequal_reasons, temporal_reasons, reasons, scope, pattern}
use Rattle.rules.specs.Labels.{label, labels}
use Rattle.rules.proofs.Lists.{same_test}
use Rattle.rules.proofs.Permutations.{perm-mem, perm-count}
use Rattle.rules.proofs.Reach.{Within, wider, reach-same}
use Rattle.rules.proofs.Paths.{settled→, →settled, path→listed, listed→path}
use Rattle.rules.proofs.Sums.{Choice, Under, extreme-same, smaller, larger}

module _ (es fs : List Edge) (h : Within es fs) (k : Within fs es) where
  settled-wider : (v : ℕ) → Settled fs v → Settled es v
  settled-wider v s u c p = s u (c.0, h _ c.1, wider h c.2) (wider h p)

module _ (es fs : List Edge) (h : Within es fs) (k : Within fs es) where
  pub path-same : {v : ℕ} {p : List ℕ} → PathTo es v p → PathTo fs v p
  path-same (only n) = only (λ u m. n u (k _ m))
  path-same (then {u} m s P) = then (h _ m) (settled-wider fs es k h u s) (path-same P)

module _ (es fs : List Edge) (h : Within es fs) (k : Within fs es) where
  sums-under : {f : ℕ → ℕ → ℕ} (C : Choice f) (d : ℕ → ℕ) (v : ℕ) → Under C (map (delay_sum d) (paths_to es v)) (map (delay_sum d) (paths_to fs v))
  sums-under C d v x m =
      let r = Memᴰ.of_map (delay_sum d) (paths_to es v) m in
      (x, Memᴰ.cast (sym r.2) (Memᴰ.map (delay_sum d) (path→listed fs (path-same es fs h k (listed→path es v r.0 r.1)))), C.good_refl x)

-- equal as functions, so that whatever is made of them is equal
module _ {es fs : List Edge} (p : Permᴰ es fs) where
  there : Within es fs
  there = perm-mem p

  back : Within fs es
  back = perm-mem (Permᴰ.symm p)

  pub reach-order : reach es ≡ reach fs
  reach-order = fun_ext (λ u. fun_ext (λ v. reach-same es fs there back u v))

  pub settled-order : settled es ≡ settled fs
  settled-order = fun_ext (λ v. same_test _ _ (λ t. →settled fs v (settled-wider fs es back there v (settled→ es v t))) (λ t. →settled es v (settled-wider es fs there back v (settled→ fs v t))))

  pub extreme-order : {f : ℕ → ℕ → ℕ} (C : Choice f) → extreme_sum f es ≡ extreme_sum f fs
  unfolding extreme_sum
  extreme-order C = fun_ext (λ d. fun_ext (λ v. extreme-same C _ _ (sums-under es fs there back C d v) (sums-under fs es back there C d v)))

  pub in_order_lem : in_count es ≡ in_count fs
  unfolding in_count
  in_order_lem = fun_ext (λ v. perm-count (ends_at v) p)

  pub out-order : out_count es ≡ out_count fs
  unfolding out_count
  out-order = fun_ext (λ v. perm-count (starts_at v) p)

  pub component-order : strongly_connected es ≡ strongly_connected fs
  unfolding strongly_connected
  component-order = fun_ext (λ u. fun_ext (λ v. cc reach-order))

  pub label-order : label es ≡ label fs
  unfolding label
  label-order = fun_ext (λ low. fun_ext (λ high. fun_ext (λ v. cc (settled-order, extreme-order smaller, extreme-order larger))))

  unequal_reason-order : unequal_reason es ≡ unequal_reason fs
  unfolding unequal_reason
  unequal_reason-order = fun_ext (λ low. fun_ext (λ high. fun_ext (λ v. cc (extreme-order smaller, extreme-order larger))))

  unequal_at-order : unequal_at es ≡ unequal_at fs
  unfolding unequal_at
  unequal_at-order = fun_ext (λ low. fun_ext (λ high. fun_ext (λ v. cc (extreme-order smaller, extreme-order larger, in_order_lem))))

  pub unequal-by-order : (low high : ℕ → ℕ) (vs : List ℕ) → unequal_reasons_by es low high vs ≡ unequal_reasons_by fs low high vs
  unfolding unequal_reasons_by
  unequal-by-order low high vs = cc (unequal_reason-order, unequal_at-order)

  module _ (cs : List Component) where
    pub feedback-order : feedback cs es ≡ feedback cs fs
    unfolding feedback
    feedback-order = rw component-order

    temporal-order : temporal_reasons cs es ≡ temporal_reasons cs fs
    unfolding temporal_reasons
    temporal-order = cc feedback-order

    unequal-order : unequal_reasons cs es ≡ unequal_reasons cs fs
    unfolding unequal_reasons
    unequal-order = unequal-by-order (delay_at cs) (delay_at cs) (rising_ids cs)

    pub reasons-order : reasons cs es ≡ reasons cs fs
    unfolding reasons
    reasons-order = cc (temporal-order, unequal-order)

    pub scope-order : scope cs es ≡ scope cs fs
    unfolding scope
    scope-order = cc (temporal-order, unequal-order)

    pub pattern-order : pattern cs es ≡ pattern cs fs
    unfolding pattern
    pattern-order = cc feedback-order

    pub labels-order : labels cs es ≡ labels cs fs
    unfolding labels
    labels-order = cc label-order
