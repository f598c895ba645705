-- One edge more is relaxed. Assumes nothing.
use mathlib.Core.Path.{◌≡◌, refl, sym, ap, ◌∙◌}
use mathlib.Core.Logic.{dite}
use mathlib.Core.Bool.{Bool, true, false, cond, ◌&&◌}
use mathlib.Core.List.{List, [], ◌∷◌}
use Prim.Native.Nat.{ℕ, ◌+◌, ◌-◌, ◌<◌, ◌≤◌, min, max}
use native.Mathlib.Omega.{arith}
use native.Mathlib.Decide.{ℕ_discrete}
use native.Mathlib.Nat.{add-zero}
use native.Mathlib.Numerals.{add-one}
use lib.ListN.{length, take, set, length-set}
use lib.Seq.{get_or-set_same, get_or-set_other, take-suc-set, take-set-le, length-take-le}
use lib.Dec.{eqb}
use borrow.Author.Tests.{eq-eqb, ne_eqb, eqb-true, eqb-false}
use Rattle.rules.specs.Lists.{keep, count, indices}
use Rattle.rules.specs.Ordered.{key_at}
use Rattle.rules.specs.declared.delay.DelayRange.{DelayRange}
use Rattle.rules.specs.Graph.{Edge, ◌⟶◌, ends_at, in_count}
use Rattle.rules.specs.Paths.{extreme}
use Rattle.rules.proofs.Counts.{count-append, count-every, count_same}
use Rattle.reconvergence.specs.Worklist.{brought, sum_over, ready, least, Relaxing, Relaxed}
use Rattle.reconvergence.proofs.Counting.{one, one-true, one-false, and-true, and-false, count-cons, count-nil, keep-yes, keep-no, keep-none, keep_some, below_one, below-lt}

-- the sums over the passed edges, with one more that ends at v
module _ (f : ℕ → ℕ → ℕ) (es : List Edge) (d : ℕ → ℕ) (u v : ℕ) (passed : List Edge) where
  here : keep (ends_at v) ((u ⟶ v) ∷ passed) ≡ (u ⟶ v) ∷ keep (ends_at v) passed
  here = keep-yes (ends_at v) (u ⟶ v) passed (eq-eqb v v refl)

  over_first : count (ends_at v) passed ≡ 0 → sum_over f es d ((u ⟶ v) ∷ passed) v ≡ brought f es d (u ⟶ v)
  unfolding sum_over extreme
  over_first h = rw (here, keep-none (ends_at v) passed h)

  over-later : 0 < count (ends_at v) passed → sum_over f es d ((u ⟶ v) ∷ passed) v ≡ f (brought f es d (u ⟶ v)) (sum_over f es d passed v)
  unfolding sum_over extreme
  over-later h = let r = keep_some (ends_at v) passed h in rw (here, r.2)

  over-other : (w : ℕ) → (w ≡ v → ⊥) → sum_over f es d ((u ⟶ v) ∷ passed) w ≡ sum_over f es d passed w
  unfolding sum_over
  over-other w h = rw (keep-no (ends_at w) (u ⟶ v) passed (ne_eqb v w (λ e. h (sym e))))

  over-none : count (ends_at v) passed ≡ 0 → sum_over f es d passed v ≡ 0
  unfolding sum_over extreme
  over-none h = rw (keep-none (ends_at v) passed h)

-- one more as it is weighed against the sum so far
module _ (es : List Edge) (d : ℕ → ℕ) (u v : ℕ) (passed : List Edge) where
  least-step : (left all old a : ℕ) → left + count (ends_at v) passed ≡ all → old ≡ sum_over min es d passed v → a ≡ brought min es d (u ⟶ v)
      → least (eqb left all) old a ≡ sum_over min es d ((u ⟶ v) ∷ passed) v
  least-step left all old a h o e =
      dite (ℕ_discrete (count (ends_at v) passed) 0)
      (λ z. rw (eq-eqb left all (omega arith)) (e ∙ sym (over_first min es d u v passed z)))
      (λ z. rw (ne_eqb left all (λ q. z (omega arith)), o, e) (sym (over-later min es d u v passed (omega (arith, z)))))

  most-step : (old a : ℕ) → old ≡ sum_over max es d passed v → a ≡ brought max es d (u ⟶ v) → max a old ≡ sum_over max es d ((u ⟶ v) ∷ passed) v
  most-step old a o e =
      dite (ℕ_discrete (count (ends_at v) passed) 0)
      (λ z. omega (arith, over-none max es d u v passed z, over_first max es d u v passed z))
      (λ z. rw (o, e) (sym (over-later max es d u v passed (omega (arith, z)))))

-- what a store changes
stored : (l : List ℕ) (v x : ℕ) → v < length l → (P : ℕ → ℕ → Type 0) → P v x → ((w : ℕ) → (w ≡ v → ⊥) → P w (key_at l w)) → (w : ℕ) → P w (key_at (set l v x) w)
stored l v x h P here other w =
    dite (ℕ_discrete w v) (λ e. rw (e, get_or-set_same l v x 0 h) here)
    (λ e. rw (get_or-set_other l v w x 0 e) (other w e))

module _ {es : List Edge} {low high : ℕ → ℕ} {n : ℕ} {incoming left smallest largest queue : List ℕ} {c : ℕ} {passed : List Edge} (S : Relaxing es low high n incoming left smallest largest queue c passed) where
  -- a node with an edge left has a place to come
  pub place-left : (v : ℕ) → v < n → 0 < key_at left v → c < n
  place-left v h l =
      omega (
        arith,
        S.places,
        S.room,
        S.waiting (λ x. true),
        count-every (take c queue),
        length-take-le c queue (omega (arith, S.places, S.room)),
        below-lt (ready left (λ x. true)) n v h (ne_eqb (key_at left v) 0 (λ e. omega arith)),
      )

  module _ (u v : ℕ) (h : v < n) (l : 0 < key_at left v) where
    less : List ℕ
    less = set left v (key_at left v - 1)

    less-same : key_at less v ≡ key_at left v - 1
    unfolding less
    less-same = get_or-set_same left v (key_at left v - 1) 0 (omega (arith, S.lefts))

    less_other : (w : ℕ) → (w ≡ v → ⊥) → key_at less w ≡ key_at left w
    unfolding less
    less_other w e = get_or-set_other left v w (key_at left v - 1) 0 e

    left_at : (w : ℕ) → w < n → key_at less w + count (ends_at w) ((u ⟶ v) ∷ passed) ≡ in_count es w
    left_at w k =
        dite (ℕ_discrete w v)
        (λ e. omega (arith, ap (key_at less) e, less-same, ap (key_at left) e, S.remains w k, count-cons (ends_at w) (u ⟶ v) passed, one-true (eq-eqb v w (sym e))))
        (λ e. omega (arith, less_other w e, S.remains w k, count-cons (ends_at w) (u ⟶ v) passed, one-false (ne_eqb v w (λ q. e (sym q)))))

    -- v is put in the next place, whether it is counted or not
    placed : List ℕ
    placed = set queue c v

    placed-front : take c placed ≡ take c queue
    unfolding placed
    placed-front = take-set-le c queue c v (omega arith)

    waiting-at : (b : Bool) → eqb (key_at left v) 1 ≡ b → (p : ℕ → Bool) → count p (take (c + cond b 1 0) placed) ≡ count (ready less p) (indices n)
    unfolding placed
    waiting-at true e p =
        let z : key_at left v ≡ 1 = eqb-true (key_at left v) 1 e in
        let r = place-left v h l in
        let now : key_at less v ≡ 0 = less-same ∙ omega arith in
        omega (
          arith,
          ap (λ (k : ℕ). count p (take k (set queue c v))) (add-one c),
          ap (count p) (take-suc-set queue c v (omega (arith, S.places))),
          count-append p (take c queue) (v ∷ []),
          count-cons p v [],
          count-nil p,
          S.waiting p,
          below_one (ready left p) (ready less p) n v h (and-false (p v) (eqb (key_at left v) 0) (ne_eqb (key_at left v) 0 (λ q. omega arith)))
              (λ w k q. ap (λ (x : ℕ). p w && eqb x 0) (less_other w q)),
          ap one (and-true (p v) (eqb (key_at less v) 0) (eq-eqb (key_at less v) 0 now)),
        )
    waiting-at false e p =
        let z = eqb-false (key_at left v) 1 e in
        ap (λ (k : ℕ). count p (take k placed)) (add-zero c)
        ∙ ap (count p) placed-front
        ∙ S.waiting p
        ∙ count_same (ready left p) (ready less p) (indices n) (λ w m. dite (ℕ_discrete w v)
        (λ q. and-false (p w) (eqb (key_at left w) 0) (ne_eqb (key_at left w) 0 (λ r. omega (arith, ap (key_at left) q)))
        ∙ sym (and-false (p w) (eqb (key_at less w) 0) (ne_eqb (key_at less w) 0 (λ r. z (omega (arith, ap (key_at less) q, less-same))))))
        (λ q. ap (λ (x : ℕ). p w && eqb x 0) (sym (less_other w q))))

    rooms : (b : Bool) → c + cond b 1 0 ≤ n
    rooms true = omega (arith, place-left v h l)
    rooms false = omega (arith, S.room)

    module _ (sum : DelayRange) (a : sum.minimum_redstone_ticks ≡ brought min es low (u ⟶ v)) (b : sum.maximum_redstone_ticks ≡ brought max es high (u ⟶ v)) where
      more : Relaxing es low high n incoming (set left v (key_at left v - 1))
          (set smallest v (least (eqb (key_at left v) (key_at incoming v)) (key_at smallest v) sum.minimum_redstone_ticks))
          (set largest v (max sum.maximum_redstone_ticks (key_at largest v)))
          (set queue c v) (c + cond (eqb (key_at left v) 1) 1 0) ((u ⟶ v) ∷ passed)
      unfolding less placed
      more = record {
        incomings = S.incomings;
        lefts = omega (arith, length-set left v (key_at left v - 1), S.lefts);
        smallests = omega (arith, length-set smallest v (least (eqb (key_at left v) (key_at incoming v)) (key_at smallest v) sum.minimum_redstone_ticks), S.smallests);
        largests = omega (arith, length-set largest v (max sum.maximum_redstone_ticks (key_at largest v)), S.largests);
        places = omega (arith, length-set queue c v, S.places);
        room = rooms (eqb (key_at left v) 1);
        counted = S.counted;
        remains = left_at;
        least = λ w k. stored smallest v _ (omega (arith, S.smallests)) (λ w x. w < n → x ≡ sum_over min es low ((u ⟶ v) ∷ passed) w)
            (λ _. least-step es low u v passed _ _ _ _ (S.remains v h ∙ sym (S.counted v h)) (S.least v h) a)
            (λ w q k. S.least w k ∙ sym (over-other min es low u v passed w q)) w k;
        most = λ w k. stored largest v _ (omega (arith, S.largests)) (λ w x. w < n → x ≡ sum_over max es high ((u ⟶ v) ∷ passed) w)
            (λ _. most-step es high u v passed _ _ (S.most v h) b)
            (λ w q k. S.most w k ∙ sym (over-other max es high u v passed w q)) w k;
        waiting = waiting-at (eqb (key_at left v) 1) refl;
      }

      pub relax-more : {left' smallest' largest' queue' : List ℕ} {c' : ℕ} → Relaxed incoming left smallest largest queue c v sum left' smallest' largest' queue' c'
          → Relaxing es low high n incoming left' smallest' largest' queue' c' ((u ⟶ v) ∷ passed)
      relax-more r = rw (r.less, r.small, r.large, r.placed, r.count) more
