-- The first id that repeats, found among neighbours of the ordered positions. Assumes nothing.
use mathlib.Core.Bool.{Bool, true, false, cond}
use mathlib.Core.List.{List}
use mathlib.Core.Path.{◌≡◌, sym, ap, subst, ◌∙◌}
use mathlib.Core.Logic.{◌⊎◌, inl, inr, ⊎_elim}
use Prim.Native.Nat.{ℕ, suc, ◌+◌, ◌<◌, ◌≤◌, min}
use native.Mathlib.Omega.{arith}
use lib.Dec.{T, eqb, eqb→eq}
use lib.ListN.{length, get_or}
use Rattle.rules.specs.Ordered.{key_at, ordered}
use Rattle.rules.specs.Refusals.{used_earlier}
use Rattle.rules.proofs.Lists.{eq_test}
use Rattle.rules.proofs.Sums.{order}
use Rattle.rules.proofs.Ordering.{used→neighbour, neighbour→used}
use Rattle.scene.specs.Steps.{FirstRepeat}

-- the smaller of two positions, where two ids are equal
module _ (a b q first : ℕ) where
  abbrev pub earlier : ℕ
  earlier = cond (eqb a b) (min q first) first

module _ (ids : List ℕ) where
  abbrev at : ℕ → ℕ
  at k = get_or (ordered ids) k 0

  -- what is known once the first k pairs of neighbours are compared
  pub record RepeatBelow (k first : ℕ) : Type 0 where
    pub inside : first ≤ length ids
    pub least : (j : ℕ) → j < k → key_at ids (at j) ≡ key_at ids (at (suc j)) → first ≤ at (suc j)
    pub repeats : first < length ids → T (used_earlier ids first)

  pub repeat-more : (k first : ℕ) → suc k < length ids → RepeatBelow k first → RepeatBelow (k + 1) (earlier (key_at ids (at k)) (key_at ids (at (suc k))) (at (suc k)) first)
  repeat-more k first h r = go (eqb a b) (λ t. eqb→eq a b t) (λ e. eq_test e)
    where
      a : ℕ
      a = key_at ids (at k)

      b : ℕ
      b = key_at ids (at (suc k))

      next : ℕ
      next = at (suc k)

      place : (j : ℕ) → j < k + 1 → (j < k) ⊎ (j ≡ k)
      place j l = ⊎_elim (λ g. inr (omega arith)) (λ g. inl g) (order k j)

      go : (t : Bool) → (T t → a ≡ b) → (a ≡ b → T t) → RepeatBelow (k + 1) (cond t (min next first) first)
      go true f g = record {
        inside = omega (arith, r.inside);
        least = λ j l e. ⊎_elim (λ m. omega (arith, r.least j m e)) (λ m. let n : at (suc j) ≡ next = ap (λ x. at (suc x)) m in omega (arith, n)) (place j l);
        repeats = λ l. smaller l (order first next);
      }
        where
          smaller : min next first < length ids → (first ≤ next) ⊎ (next < first) → T (used_earlier ids (min next first))
          smaller l (inl m) = let e : first ≡ min next first = omega arith in subst (λ x. T (used_earlier ids x)) e (r.repeats (omega arith))
          smaller l (inr m) = let e : next ≡ min next first = omega arith in subst (λ x. T (used_earlier ids x)) e (neighbour→used ids k (omega arith) (f tt))
      go false f g = record {
        inside = r.inside;
        least = λ j l e. ⊎_elim (λ m. r.least j m e) (λ m. absurd (g (ap (λ x. key_at ids (at x)) (sym m) ∙ e ∙ ap (λ x. key_at ids (at (suc x))) m))) (place j l);
        repeats = r.repeats;
      }

  pub repeat-end : (k first : ℕ) → length ids ≤ suc k → RepeatBelow k first → FirstRepeat ids first
  repeat-end k first h r = record {
    inside = r.inside;
    none_before = λ i l t.
        let u = used→neighbour ids i (omega (arith, r.inside)) t in
        let e : key_at ids (at u.0) ≡ key_at ids (at (suc u.0)) = u.3 ∙ ap (key_at ids) (sym u.2) in
        omega (arith, r.least u.0 (omega (arith, u.1)) e, u.2);
    repeats = r.repeats;
  }
