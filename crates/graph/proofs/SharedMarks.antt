-- From the groups to the marks. Assumes nothing.
use mathlib.Core.Bool.{cond, not, ◌&&◌}
use mathlib.Core.List.{List, ◌++◌}
use mathlib.Core.Logic.{◌⊎◌, ⊎_elim, dite}
use mathlib.Core.Path.{◌≡◌, sym, ap, subst, ◌∙◌}
use Prim.Native.Nat.{ℕ, ◌<◌, ◌≤◌}
use native.Mathlib.Decide.{ℕ_discrete}
use native.Mathlib.Omega.{arith}
use lib.Dec.{T, T_not, not_T, eqb, eqb→eq}
use lib.ListN.{length, get_or, take}
use lib.Seq.{ext_get_or, take_at}
use Rattle.rules.specs.Lists.{indices}
use Rattle.rules.specs.Graph.{Edge, shares_component, shared_marks}
use Rattle.rules.proofs.Lists.{and_left, and_right, and_both, eq_test, chosen, not_chosen, any-in, any_out, any_same}
use Rattle.rules.proofs.Indices.{indices-below, below-indices, made-length, made_at}
use Rattle.graph.specs.Groups.{Rooted, Grouped, shares_group, group_marks}

abbrev Marked : List ℕ → ℕ → Type 0
Marked l v = get_or l v 0 ≡ 1

-- each entry is 0 or 1
abbrev Bits : List ℕ → Type 0
Bits l = (v : ℕ) → (get_or l v 0 ≡ 0) ⊎ Marked l v

-- a different node has the group of v
abbrev Shares : List ℕ → ℕ → Type 0
Shares group v = (w : ℕ) × (w < length group) × (w ≡ v → ⊥) × (get_or group v 0 ≡ get_or group w 0)

shares-test : (group : List ℕ) (v : ℕ) → Shares group v → T (shares_group group v)
unfolding shares_group
shares-test group v s =
    any-in (λ w. not (eqb w v) && eqb (get_or group v 0) (get_or group w 0)) (below-indices (length group) s.1)
    (and_both (not (eqb s.0 v)) (eqb (get_or group v 0) (get_or group s.0 0)) (not_T (eqb s.0 v) (λ t. s.2 (eqb→eq s.0 v t))) (eq_test s.3))

test-shares : (group : List ℕ) (v : ℕ) → T (shares_group group v) → Shares group v
unfolding shares_group
test-shares group v t =
    let r = any_out (λ w. not (eqb w v) && eqb (get_or group v 0) (get_or group w 0)) (indices (length group)) t in
    let w : ℕ = r.0 in
    let other = and_left (not (eqb w v)) (eqb (get_or group v 0) (get_or group w 0)) r.2 in
    let same = and_right (not (eqb w v)) (eqb (get_or group v 0) (get_or group w 0)) r.2 in
    (w, indices-below (length group) r.1, λ e. T_not (eqb w v) other (eq_test e), eqb→eq _ _ same)

-- the nodes before u are dealt with
pub record Marking (group marks : List ℕ) (u : ℕ) : Type 0 where
  pub size : length marks ≡ length group
  pub bits : Bits marks
  pub only : (v : ℕ) → Marked marks v → Shares group v
  pub every : (w : ℕ) → w < u → (get_or group w 0 ≡ w → ⊥) → Marked marks w × Marked marks (get_or group w 0)

module _ (n : ℕ) (group marks : List ℕ) (u : ℕ) (r : Rooted n group) (was : Marking group marks u) where
  -- every node is dealt with
  module _ (over : length group ≤ u) where
    -- a node that shares its group is marked, as it is not the root, or as another's root
    shared-marked : (v : ℕ) → v < length group → Shares group v → Marked marks v
    shared-marked v vn s = dite (ℕ_discrete (get_or group v 0) v)
        (λ e. subst (Marked marks) (sym s.3 ∙ e) (was.every s.0 (omega (arith, s.1)) (λ q. s.2 (sym q ∙ sym s.3 ∙ e))).1)
        (λ ne. (was.every v (omega arith) ne).0)

    mark_of : (v : ℕ) → v < length group → get_or marks v 0 ≡ cond (shares_group group v) 1 0
    mark_of v vn = ⊎_elim
        (λ z. z ∙ sym (not_chosen 1 0 (shares_group group v) (λ t. let q : ◌≡◌ {A = ℕ} 0 1 = sym z ∙ shared-marked v vn (test-shares group v t) in omega arith)))
        (λ m. m ∙ sym (chosen 1 0 (shares_group group v) (shares-test group v (was.only v m))))
        (was.bits v)

    pub marking-end : marks ≡ group_marks group
    unfolding group_marks
    marking-end = ext_get_or 0 marks _ (was.size ∙ sym (made-length (λ v. cond (shares_group group v) 1 0) (length group)))
        (λ v h. let vn : v < length group = omega (arith, was.size) in mark_of v vn ∙ sym (made_at (λ v. cond (shares_group group v) 1 0) (length group) v 0 vn))

-- groups by strong connection give the rules' marks
module _ (es : List Edge) (n : ℕ) (group : List ℕ) (g : Grouped es n group) where
  same-shares : (v : ℕ) → v < n → shares_group group v ≡ shares_component es n v
  unfolding shares_group shares_component
  same-shares v vn = rw g.rooted.size (any_same _ _ (indices n) (λ w m. ap (λ b. not (eqb w v) && b) (g.same v w vn (indices-below n m))))

  pub shared-marks : group_marks group ≡ shared_marks es n
  unfolding group_marks shared_marks
  shared-marks = rw g.rooted.size (ext_get_or 0 _ _ (made-length {A = ℕ} (λ v. cond (shares_group group v) 1 0) n ∙ sym (made-length {A = ℕ} (λ v. cond (shares_component es n v) 1 0) n))
      (λ v h. let vn : v < n = omega (arith, made-length {A = ℕ} (λ v. cond (shares_group group v) 1 0) n) in
      made_at (λ v. cond (shares_group group v) 1 0) n v 0 vn ∙ ap (λ b. cond b 1 0) (same-shares v vn) ∙ sym (made_at (λ v. cond (shares_component es n v) 1 0) n v 0 vn)))

-- the groups at the front of a longer list
module _ {es : List Edge} {n : ℕ} {group : List ℕ} (g : Grouped es n group) (rest : List ℕ) where
  front : take n (group ++ rest) ≡ group
  front = take_at group rest n g.rooted.size

  pub front-marks : group_marks (take n (group ++ rest)) ≡ shared_marks es n
  front-marks = ap group_marks front ∙ shared-marks es n group g
