-- Where every component is settled, none shares its strongly connected component with another, and nothing is listed. Assumes nothing.
use mathlib.Core.Bool.{Bool, true, false, not, cond}
use mathlib.Core.List.{List, [], map}
use mathlib.Core.Path.{◌≡◌, refl, sym, ap, ◌∙◌}
use Prim.Native.Nat.{ℕ, ◌<◌}
use native.Mathlib.Omega.{arith}
use borrow.Author.Tests.{eq-eqb}
use lib.Dec.{T, T_not, eqb}
use lib.ListN.{length, get_or, take, replicate, length-replicate, get_or-replicate}
use lib.Seq.{ext_get_or, length-take-le}
use Rattle.std.specs.List.{list_any}
use Rattle.std.proofs.lemmas.List.Folds.{list_any_at}
use Rattle.rules.specs.Graph.{Edge, edges_between, settled, shares_component, shared_marks, Walk, stop, step, Settled}
use Rattle.rules.specs.Lists.{indices}
use Rattle.rules.specs.Kinds.{kind_row}
use Rattle.rules.specs.Reasons.{passive}
use Rattle.rules.proofs.Lists.{not_chosen, and_right, eq_test}
use Rattle.rules.proofs.Counts.{count_none}
use Rattle.rules.proofs.Indices.{made_at, indices-below}
use Rattle.rules.proofs.Paths.{settled→}
use Rattle.rules.proofs.Reach.{join}
use Rattle.rules.proofs.SharedComponents.{shares→, marks-length, marks-at}
use Rattle.reconvergence.specs.Fits.{settled_marks}
use Rattle.reconvergence.proofs.Counting.{keep-none}
use Rattle.reasons.specs.Listing.{is_listed, listed_ids, shared_ids, Flagged}

-- a settled node shares its strongly connected component with no other: the walk there and back would be a cycle
settled-alone : (es : List Edge) (n v : ℕ) → Settled es v → T (shares_component es n v) → ⊥
settled-alone es n v s t = let o = shares→ es n v t in go o.other o.different o.there o.back
  where
    go : (w : ℕ) → (w ≡ v → ⊥) → Walk es v w → Walk es w v → ⊥
    go w d (stop e) back = d (sym e)
    go w d (step {w = x} m p) back = s v (x, m, join p back) (stop refl)

module _ (ids kinds starts stops settles marks : List ℕ) (F : Flagged starts stops (length ids) settles marks) (none : list_any (λ y. eqb y 0) (take (length ids) settles) ≡ false) where
  abbrev es : List Edge
  es = edges_between starts stops

  abbrev n : ℕ
  n = length ids

  -- no flag is 0, so every component is settled
  flag-at : (v : ℕ) → v < n → get_or (take n settles) v 0 ≡ cond (settled es v) 1 0
  unfolding settled_marks
  flag-at v h = ap (λ l. get_or l v 0) F.flags ∙ made_at (λ v. cond (settled es v) 1 0) n v 0 h

  each-settled : (v : ℕ) → v < n → Settled es v
  each-settled v h = settled→ es v (go (settled es v) (flag-at v h))
    where
      go : (b : Bool) → get_or (take n settles) v 0 ≡ cond b 1 0 → T b
      go true e = tt
      go false e =
          let found : list_any (λ y. eqb y 0) (take n settles) ≡ true = list_any_at (λ y. eqb y 0) (take n settles) v 0 (omega (arith, length-take-le n settles F.flags_room)) (eq-eqb (get_or (take n settles) v 0) 0 e) in
          cc

  pub all-unmarked : take n marks ≡ shared_marks es n
  all-unmarked =
      F.unmarked
      ∙ ext_get_or 0 (replicate n 0) (shared_marks es n) (length-replicate {A = ℕ} n 0 ∙ sym (marks-length es n))
      (λ v k. let h : v < n = omega (arith, length-replicate {A = ℕ} n 0) in get_or-replicate n v 0 0 h ∙ sym (marks-at es n v h ∙ not_chosen 1 0 (shares_component es n v) (settled-alone es n v (each-settled v h))))

  pub none-listed : shared_ids ids kinds starts stops ≡ []
  unfolding shared_ids listed_ids
  none-listed = rw (← all-unmarked, F.unmarked) (ap (map (λ i. get_or ids i 0)) (keep-none (is_listed kinds (replicate n 0)) (indices n) (count_none (is_listed kinds (replicate n 0)) (indices n) (λ v m t. unmarked v (indices-below n m) (and_right (not (passive (kind_row (get_or kinds v 0)).node)) (not (eqb (get_or (replicate n 0) v 0) 0)) t)))))
    where
      unmarked : (v : ℕ) → v < n → T (not (eqb (get_or (replicate n 0) v 0) 0)) → ⊥
      unmarked v h t = T_not (eqb (get_or (replicate n 0) v 0) 0) t (eq_test (get_or-replicate n v 0 0 h))
