-- What the taken nodes tell of a node with no edge left. Assumes nothing.
use mathlib.Core.Path.{◌≡◌, refl, sym, ap, ap₂, subst, ◌∙◌}
use mathlib.Core.Bool.{Bool, ◌&&◌}
use mathlib.Core.Logic.{⊎_elim, dite}
use mathlib.Core.List.Memᴰ
use mathlib.Core.List.{List, [], ◌∷◌, ◌++◌, map, Memᴰ}
use Prim.Native.Nat.{ℕ, suc, ◌<◌, ◌≤◌}
use native.Mathlib.Omega.{arith}
use native.Mathlib.Decide.{ℕ_discrete}
use lib.ListN.{take}
use lib.Seq.{take-suc, get_or-take, length-take-le}
use lib.Dec.{T, eqb, eqb→eq, eqb_refl}
use borrow.Author.Tests.{eq-eqb}
use Rattle.rules.specs.Lists.{any, keep, count, indices}
use Rattle.rules.specs.Ordered.{key_at}
use Rattle.rules.specs.Graph.{Edge, ◌⟶◌, source_of, starts_at, ends_at, in_count, Settled}
use Rattle.rules.specs.Paths.{settled_sources, delay_sum, extreme, extreme_sum, PathTo, only, then}
use Rattle.rules.proofs.Lists.{and_left, and_right, and_both, any→mem, mem→any, keep-in, keep_out, eq_test}
use Rattle.rules.proofs.Counts.{count-append, count-in, count-out}
use Rattle.rules.proofs.Indices.{at_mem, indices-below, below-indices}
use Rattle.rules.proofs.Paths.{no_incoming→, source_in, source-out}
use Rattle.rules.proofs.Sums.{Choice, extreme-same, Under}
use Rattle.rules.proofs.Ranges.{into, settled-from, extreme-reached, extreme-step, through}
use Rattle.reconvergence.specs.Worklist.{brought, sum_over, ready, leaves, Relaxing, Taking}
use Rattle.reconvergence.proofs.Counting.{one-true, count-cons, count-take, count-all, keep-none, below-only}

-- an edge from x to v
abbrev joins : ℕ → ℕ → Edge → Bool
joins x v e = ends_at v e && starts_at x e

joined : (x v : ℕ) (e : Edge) → T (joins x v e) → e ≡ (x ⟶ v)
joined x v (a ⟶ b) t = ap₂ ◌⟶◌ (eqb→eq a x (and_right (eqb b v) (eqb a x) t)) (eqb→eq b v (and_left (eqb b v) (eqb a x) t))

joins-self : (x v : ℕ) → T (joins x v (x ⟶ v))
joins-self x v = and_both (eqb v v) (eqb x x) (eqb_refl v) (eqb_refl x)

-- a node with no edge into it has the one path, of sum 0
module _ {f : ℕ → ℕ → ℕ} (C : Choice f) (es : List Edge) (d : ℕ → ℕ) (v : ℕ) (none : (u : ℕ) → Memᴰ (u ⟶ v) es → ⊥) where
  alone : {p : List ℕ} → PathTo es v p → delay_sum d p ≡ 0
  unfolding delay_sum
  alone (only h) = refl
  alone (then {u} m s P) = absurd (none u m)

  sum-alone : extreme_sum f es d v ≡ 0
  sum-alone = let r = extreme-reached C es d v (settled-from es v (λ u m. absurd (none u m))) in sym r.2 ∙ alone r.1

-- passed are the edges that leave us, and us are settled
module _ (es passed : List Edge) (us : List ℕ) (taken : (p : Edge → Bool) → count p passed ≡ count (leaves p us) es) (proper : (u : ℕ) → Memᴰ u us → Settled es u) where
  passed-in : (x v : ℕ) → Memᴰ (x ⟶ v) es → Memᴰ x us → Memᴰ (x ⟶ v) passed
  passed-in x v m h =
      let r = count-out (joins x v) passed (omega (arith, taken (joins x v), count-in (leaves (joins x v) us) m (and_both (joins x v (x ⟶ v)) (any (eqb x) us) (joins-self x v) (mem→any x h)))) in
      Memᴰ.cast (sym (joined x v r.0 r.2)) r.1

  passed-out : (x v : ℕ) → Memᴰ (x ⟶ v) passed → Memᴰ (x ⟶ v) es × Memᴰ x us
  passed-out x v m =
      let r = count-out (leaves (joins x v) us) es (omega (arith, taken (joins x v), count-in (joins x v) m (joins-self x v))) in
      let e = joined x v r.0 (and_left (joins x v r.0) (any (eqb (source_of r.0)) us) r.2) in
      (Memᴰ.cast (sym e) r.1, subst (λ z. Memᴰ (source_of z) us) e (any→mem (source_of r.0) us (and_right (joins x v r.0) (any (eqb (source_of r.0)) us) r.2)))

  -- the sums over the passed edges are those over the settled sources, once all settled sources are taken
  module _ {f : ℕ → ℕ → ℕ} (C : Choice f) (d : ℕ → ℕ) (v : ℕ) (all : (x : ℕ) → Memᴰ (x ⟶ v) es → Settled es x → Memᴰ x us) where
    below : Under C (map (brought f es d) (keep (ends_at v) passed)) (map (through C es d) (settled_sources es v))
    unfolding brought through
    below y m = let r = Memᴰ.of_map (brought f es d) (keep (ends_at v) passed) m in go r.0 (keep_out (ends_at v) passed r.1) r.2
      where
        go : (e : Edge) → Memᴰ e passed × T (ends_at v e) → brought f es d e ≡ y → (z : ℕ) × Memᴰ z (map (through C es d) (settled_sources es v)) × C.Good z y
        go (a ⟶ b) k q =
            let r = passed-out a v (Memᴰ.cast (ap (λ w. a ⟶ w) (sym (eqb→eq b v k.1))) k.0) in
            (through C es d a, Memᴰ.map (through C es d) (source_in es r.0 (proper a r.1)), subst (C.Good (through C es d a)) q (C.good_refl _))

    above : Under C (map (through C es d) (settled_sources es v)) (map (brought f es d) (keep (ends_at v) passed))
    unfolding brought through
    above y m =
        let r = Memᴰ.of_map (through C es d) (settled_sources es v) m in
        let s = source-out es r.1 in
        let k = passed-in r.0 v s.0 (all r.0 s.0 s.1) in
        (brought f es d (r.0 ⟶ v), Memᴰ.map (brought f es d) (keep-in (ends_at v) k (eqb_refl v)), subst (C.Good (brought f es d (r.0 ⟶ v))) r.2 (C.good_refl _))

    pub sums : sum_over f es d passed v ≡ extreme_sum f es d v
    unfolding sum_over extreme
    sums = ⊎_elim
        (λ t. let none = no_incoming→ es v t in rw (keep-none (ends_at v) passed (empty none)) (sym (sum-alone C es d v none)))
        (λ r. extreme-same C _ _ below above ∙ sym (extreme-step C es d v r.0 r.1))
        (into es v)
      where
        at-v : (e : Edge) → Memᴰ e passed → T (ends_at v e) → (u : ℕ) × Memᴰ (u ⟶ v) passed
        at-v (a ⟶ b) m t = (a, Memᴰ.cast (ap (λ w. a ⟶ w) (sym (eqb→eq b v t))) m)

        empty : ((u : ℕ) → Memᴰ (u ⟶ v) es → ⊥) → count (ends_at v) passed ≡ 0
        empty none = dite (ℕ_discrete (count (ends_at v) passed) 0) (λ e. e)
            (λ e. let r = count-out (ends_at v) passed (omega (arith, e)) in let s = at-v r.0 r.1 r.2 in absurd (none s.0 (passed-out s.0 v s.1).0))

module _ {es : List Edge} {low high : ℕ → ℕ} {n : ℕ} {incoming left smallest largest queue : List ℕ} {c : ℕ} {passed : List Edge} (S : Relaxing es low high n incoming left smallest largest queue c passed) where
  -- no node stands twice
  once : (x i : ℕ) → i ≤ c → count (eqb x) (take i queue) ≤ 1
  once x i h = omega (arith, count-take (eqb x) queue i c h, S.waiting (eqb x), below-only (ready left (eqb x)) n x (λ v t. sym (eqb→eq x v (and_left (eqb x v) (eqb (key_at left v) 0) t))))

  module _ (i : ℕ) (h : i < c) where
    pub front : take (suc i) queue ≡ take i queue ++ (key_at queue i ∷ [])
    front = take-suc queue i 0 (omega (arith, S.places, S.room))

    -- the node at a place in use has no edge left, and stands at no place before
    pub ready_at : (key_at queue i < n) × (key_at left (key_at queue i) ≡ 0)
    ready_at =
        let u : ℕ = key_at queue i in
        let m = Memᴰ.cast (sym (get_or-take c queue i 0 h)) (at_mem 0 (take c queue) i (omega (arith, length-take-le c queue (omega (arith, S.places, S.room))))) in
        let r = count-out (ready left (eqb u)) (indices n) (omega (arith, S.waiting (eqb u), count-in (eqb u) m (eqb_refl u))) in
        let e : u ≡ r.0 = eqb→eq u r.0 (and_left (eqb u r.0) (eqb (key_at left r.0) 0) r.2) in
        (omega (arith, indices-below n r.1), ap (key_at left) e ∙ eqb→eq (key_at left r.0) 0 (and_right (eqb u r.0) (eqb (key_at left r.0) 0) r.2))

    pub new-at : Memᴰ (key_at queue i) (take i queue) → ⊥
    new-at m =
        let u : ℕ = key_at queue i in
        omega (arith, once u (suc i) (omega arith), ap (count (eqb u)) front, count-append (eqb u) (take i queue) (u ∷ []), count-cons (eqb u) u [], one-true (eq-eqb u u refl), count-in (eqb u) m (eqb_refl u))

  -- a node with no edge left is at a place in use
  pub waits : (v : ℕ) → v < n → key_at left v ≡ 0 → Memᴰ v (take c queue)
  waits v h e =
      let r = count-out (eqb v) (take c queue) (omega (arith, S.waiting (eqb v), count-in (ready left (eqb v)) (below-indices n h) (and_both (eqb v v) (eqb (key_at left v) 0) (eqb_refl v) (eq_test e)))) in
      Memᴰ.cast (eqb→eq v r.0 r.2) r.1

module _ {es : List Edge} {low high : ℕ → ℕ} {n : ℕ} {incoming left smallest largest queue : List ℕ} {i c : ℕ} (P : Taking es low high n incoming left smallest largest queue i c) (v : ℕ) (h : v < n) (e : key_at left v ≡ 0) where
  -- all sources of a node with no edge left are taken
  all-taken : (x : ℕ) → Memᴰ (x ⟶ v) es → Memᴰ x (take i queue)
  unfolding in_count
  all-taken x m =
      any→mem x (take i queue) (and_right (eqb v v) (any (eqb x) (take i queue)) (count-all (leaves (ends_at v) (take i queue)) (ends_at v) es
      (λ d t. and_left (ends_at v d) (any (eqb (source_of d)) (take i queue)) t)
      (omega (arith, P.taken (ends_at v), P.state.remains v h)) m (eqb_refl v)))

  -- so it is settled, and its sums are whole
  pub settled_at : Settled es v
  settled_at = settled-from es v (λ x m. P.proper x (all-taken x m))

  pub sum-at : {f : ℕ → ℕ → ℕ} (C : Choice f) (d : ℕ → ℕ) → sum_over f es d P.passed v ≡ extreme_sum f es d v
  sum-at C d = sums es P.passed (take i queue) P.taken P.proper C d v (λ x m s. all-taken x m)
