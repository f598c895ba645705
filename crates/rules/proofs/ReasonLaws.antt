-- The listed Feedback ids and unequal-delay reasons are those of the plain notions. Assumes nothing.
use mathlib.Core.Bool.{Bool, true, false, not, cond, ◌&&◌, ◌||◌}
use mathlib.Core.List.Memᴰ
use mathlib.Core.List.Permᴰ
use mathlib.Core.List.{List, [], ◌∷◌, map, Memᴰ}
use mathlib.Core.Path.{◌≡◌, refl, sym, subst, ◌∙◌}
use mathlib.Core.Logic.{◌⊎◌, inl, inr, ⊎_elim}
use Prim.Native.Nat.{ℕ, ◌≤◌}
use native.Mathlib.Omega.{arith}
use lib.Dec.{T, T_not, not_T, eqb, eqb→eq, leb, leb→le, le→leb}
use Rattle.rules.specs.Lists.{any, keep}
use Rattle.rules.specs.Kinds.{repeater_code, comparator_code, piston_code}
use Rattle.rules.specs.Scene.{Component, id_of, row_of, delay_at, rising_ids}
use Rattle.rules.specs.Graph.{Edge, in_count, strongly_connected}
use Rattle.rules.specs.Paths.{paths_to, delay_sum, extreme, extreme_sum, smallest_sum, largest_sum, PathTo}
use Rattle.rules.specs.Reasons.{passive, other_in, in_feedback, feedback, Reason, unequal_reconvergent_delay, stateful_or_mechanical_device, locked_repeater, reason_kind, feedback_reason, own_reason, unequal_at, unequal_reason, unequal_reasons_by, unequal_reasons, temporal_reasons, reasons, OnFeedback, UnequalDelay}
use Rattle.rules.proofs.Lists.{any-in, any_out, keep-in, keep_out, flat_out, eq_test, and_left, and_right, and_both}
use Rattle.rules.proofs.Permutations.{perm-mem}
use Rattle.rules.proofs.Reach.{connected→, →connected}
use Rattle.rules.proofs.Paths.{listed→path}
use Rattle.rules.proofs.Sums.{smaller, larger}
use Rattle.rules.proofs.Ranges.{sum-is-extreme, extreme-is-sum}
use Rattle.rules.proofs.Sorting.{rising-ids-perm}

-- a component has no reason by itself, or one, which is no unequal delay
pub own-cases : (c : Component) → (own_reason c ≡ []) ⊎ ((r : Reason) × (own_reason c ≡ r ∷ []) × (1 ≤ reason_kind r))
unfolding own_reason
own-cases c = go (eqb c.kind comparator_code || eqb c.kind piston_code) (eqb c.kind repeater_code && eqb c.locked 1)
  where
    device : Reason
    device = stateful_or_mechanical_device c.id c.kind

    locked : Reason
    locked = locked_repeater c.id

    go : (a b : Bool) → (cond a (device ∷ []) (cond b (locked ∷ []) []) ≡ []) ⊎ ((r : Reason) × (cond a (device ∷ []) (cond b (locked ∷ []) []) ≡ r ∷ []) × (1 ≤ reason_kind r))
    go true b = inr (device, refl, omega arith)
    go false true = inr (locked, refl, omega arith)
    go false false = inl refl

module _ (cs : List Component) (es : List Edge) where
  -- a component passes the Feedback test exactly if it is on feedback
  pub feedback→ : (c : Component) → T (in_feedback cs (strongly_connected es) c) → OnFeedback cs es c
  unfolding in_feedback
  feedback→ c t =
      let a = and_left (not (passive (row_of c).node)) (any (other_in (strongly_connected es) c.id) cs) t in
      let r = any_out (other_in (strongly_connected es) c.id) cs (and_right (not (passive (row_of c).node)) _ t) in
      let d = r.0 in
      let n = and_left (not (eqb d.id c.id)) (strongly_connected es c.id d.id) r.2 in
      let s = and_right (not (eqb d.id c.id)) (strongly_connected es c.id d.id) r.2 in
      record {
        active = T_not (passive (row_of c).node) a;
        other = d;
        listed = r.1;
        different = λ e. T_not (eqb d.id c.id) n (eq_test e);
        there = (connected→ es c.id d.id s).0;
        back = (connected→ es c.id d.id s).1;
      }

  pub →feedback : (c : Component) → OnFeedback cs es c → T (in_feedback cs (strongly_connected es) c)
  unfolding in_feedback
  →feedback c o =
      and_both (not (passive (row_of c).node)) _ (not_T (passive (row_of c).node) o.active)
      (any-in (other_in (strongly_connected es) c.id) o.listed
      (and_both (not (eqb o.other.id c.id)) _ (not_T (eqb o.other.id c.id) (λ t. o.different (eqb→eq o.other.id c.id t)))
      (→connected es c.id o.other.id o.there o.back)))

  -- list 4 has the id of each component on feedback, and no other
  pub listed-feedback→ : (v : ℕ) → Memᴰ v (feedback cs es) → (c : Component) × Memᴰ c cs × OnFeedback cs es c × (c.id ≡ v)
  unfolding feedback
  listed-feedback→ v m =
      let test = in_feedback cs (strongly_connected es) in
      let r = Memᴰ.of_map id_of (keep test cs) m in
      let k = keep_out test cs r.1 in
      (r.0, k.0, feedback→ r.0 k.1, r.2)

  pub →listed-feedback : (c : Component) → Memᴰ c cs → OnFeedback cs es c → Memᴰ c.id (feedback cs es)
  unfolding feedback
  →listed-feedback c m o = Memᴰ.map id_of (keep-in (in_feedback cs (strongly_connected es)) m (→feedback c o))

  own-kind : (c : Component) (r : Reason) → Memᴰ r (own_reason c) → 1 ≤ reason_kind r
  own-kind c r m = ⊎_elim
      (λ e. absurd (Memᴰ.not-nil (subst (Memᴰ r) e m)))
      (λ k. subst (λ x. 1 ≤ reason_kind x) (sym (Memᴰ.eq_of_singleton (subst (Memᴰ r) k.1 m))) k.2)
      (own-cases c)

  loop-kind : (l : List ℕ) (r : Reason) → Memᴰ r (feedback_reason l) → 1 ≤ reason_kind r
  unfolding feedback_reason
  loop-kind [] r m = absurd (Memᴰ.not-nil m)
  loop-kind (x ∷ l) r m = subst (λ y. 1 ≤ reason_kind y) (sym (Memᴰ.eq_of_singleton m)) (omega arith)

  temporal-kind : (r : Reason) → Memᴰ r (temporal_reasons cs es) → 1 ≤ reason_kind r
  unfolding temporal_reasons
  temporal-kind r m =
      ⊎_elim (loop-kind (feedback cs es) r) (λ n. let k = flat_out own_reason cs n in own-kind k.0 r k.2) (Memᴰ.append_cases (feedback_reason (feedback cs es)) m)

  some-path : (low high : ℕ → ℕ) (v : ℕ) → (smallest_sum es low v ≡ largest_sum es high v → ⊥) → (p : List ℕ) × PathTo es v p
  unfolding extreme_sum extreme
  some-path low high v h = go (paths_to es v) refl
    where
      go : (l : List (List ℕ)) → paths_to es v ≡ l → (p : List ℕ) × PathTo es v p
      go [] e = absurd (h (rw e))
      go (p ∷ l) e = (p, listed→path es v p (subst (Memᴰ p) (sym e) (Memᴰ.head refl)))

  module _ (d e : ℕ → ℕ) (v : ℕ) where
    abbrev low : ℕ
    low = smallest_sum es d v

    abbrev high : ℕ
    high = largest_sum es e v

    unequal-here→ : Memᴰ v (rising_ids cs) → T (unequal_at es d e v) → UnequalDelay cs es (delay_sum d) (delay_sum e) v low high
    unfolding unequal_at
    unequal-here→ m t =
        let h : low ≡ high → ⊥ = λ q. T_not (eqb low high) (and_right (leb 2 (in_count es v)) (not (eqb low high)) t) (eq_test q) in
        let p = some-path d e v h in
        record {
          component = perm-mem (Permᴰ.symm (rising-ids-perm cs)) v m;
          incoming = leb→le 2 (in_count es v) (and_left (leb 2 (in_count es v)) (not (eqb low high)) t);
          smallest = sum-is-extreme smaller es d p.1;
          largest = sum-is-extreme larger es e p.1;
          differ = h;
        }

    →unequal-here : (a b : ℕ) → UnequalDelay cs es (delay_sum d) (delay_sum e) v a b → T (unequal_at es d e v) × (unequal_reason es d e v ≡ unequal_reconvergent_delay v a b)
    unfolding unequal_at unequal_reason
    →unequal-here a b u =
        let p : a ≡ low = extreme-is-sum smaller es d u.smallest in
        let q : b ≡ high = extreme-is-sum larger es e u.largest in
        (and_both (leb 2 (in_count es v)) _ (le→leb 2 (in_count es v) u.incoming) (not_T (eqb low high) (λ t. u.differ (p ∙ eqb→eq low high t ∙ sym q))), cc)

  -- an unequal-delay reason is listed exactly where the delays are unequal, with the two sums
  pub unequal→ : (v a b : ℕ) → Memᴰ (unequal_reconvergent_delay v a b) (reasons cs es) → UnequalDelay cs es (delay_sum (delay_at cs)) (delay_sum (delay_at cs)) v a b
  unfolding reasons unequal_reasons unequal_reasons_by unequal_reason
  unequal→ v a b m = go (Memᴰ.append_cases (temporal_reasons cs es) m)
    where
      d : ℕ → ℕ
      d = delay_at cs

      at : (u : ℕ) → Memᴰ u (keep (unequal_at es d d) (rising_ids cs)) → unequal_reason es d d u ≡ unequal_reconvergent_delay v a b → UnequalDelay cs es (delay_sum d) (delay_sum d) v a b
      at u n e =
          let k = keep_out (unequal_at es d d) (rising_ids cs) n in
          let p : u ≡ v = cc in
          let q : smallest_sum es d u ≡ a = cc in
          let r : largest_sum es d u ≡ b = cc in
          subst (λ w. UnequalDelay cs es (delay_sum d) (delay_sum d) w a b) p
          (subst (λ x. UnequalDelay cs es (delay_sum d) (delay_sum d) u x b) q
          (subst (λ y. UnequalDelay cs es (delay_sum d) (delay_sum d) u (smallest_sum es d u) y) r (unequal-here→ d d u k.0 k.1)))

      go : Memᴰ (unequal_reconvergent_delay v a b) (temporal_reasons cs es) ⊎ Memᴰ (unequal_reconvergent_delay v a b) (map (unequal_reason es d d) (keep (unequal_at es d d) (rising_ids cs)))
          → UnequalDelay cs es (delay_sum d) (delay_sum d) v a b
      go (inl n) = absurd (omega (arith, temporal-kind (unequal_reconvergent_delay v a b) n))
      go (inr n) = let r = Memᴰ.of_map (unequal_reason es d d) (keep (unequal_at es d d) (rising_ids cs)) n in at r.0 r.1 r.2

  pub →unequal : (v a b : ℕ) → UnequalDelay cs es (delay_sum (delay_at cs)) (delay_sum (delay_at cs)) v a b → Memᴰ (unequal_reconvergent_delay v a b) (reasons cs es)
  unfolding reasons unequal_reasons unequal_reasons_by
  →unequal v a b u =
      let d = delay_at cs in
      let k = →unequal-here d d v a b u in
      Memᴰ.append_right (temporal_reasons cs es)
      (Memᴰ.cast (sym k.1) (Memᴰ.map (unequal_reason es d d) (keep-in (unequal_at es d d) (perm-mem (rising-ids-perm cs) v u.component) k.0)))
