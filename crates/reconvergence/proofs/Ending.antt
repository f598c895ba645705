-- What the lists tell once every node that comes to have no edge left is taken. Assumes nothing.
use mathlib.Core.Path.{◌≡◌, sym, ap, subst, ◌∙◌}
use mathlib.Core.Bool.{cond}
use mathlib.Core.List.Memᴰ
use mathlib.Core.List.{List, map, ◌++◌, Memᴰ}
use Prim.Native.Nat.{ℕ, ◌<◌, ◌≤◌}
use native.Mathlib.Omega.{arith}
use lib.ListN.{length, take, drop, length-take, take-append-drop}
use lib.Seq.{get_or-take, length-take-le}
use lib.Dec.{T, eqb, eqb→eq}
use Rattle.rules.specs.Lists.{any, keep, indices, written}
use Rattle.rules.specs.Ordered.{key_at}
use Rattle.rules.specs.Graph.{Edge, ◌⟶◌, ends_at, in_count, edges_between, settled, Settled}
use Rattle.rules.specs.Paths.{extreme_sum, smallest_sum, largest_sum}
use Rattle.rules.specs.Reasons.{unequal_at}
use Rattle.rules.proofs.Lists.{and_both, eq_test, mem→any, same_test, keep_same, map_same}
use Rattle.rules.proofs.Counts.{count_under}
use Rattle.rules.proofs.Indices.{mem-at, indices-below, made_at, made-same, made-length}
use Rattle.rules.proofs.Written.{written-parts}
use Rattle.rules.proofs.Paths.{settled→, →settled}
use Rattle.rules.proofs.Sums.{Choice, smaller, larger}
use Rattle.rules.proofs.Ranges.{settled-induction}
use Rattle.graph.specs.Adjacency.{Below}
use Rattle.graph.specs.Groups.{Between}
use Rattle.graph.proofs.Neighbours.{edge-low}
use Rattle.reconvergence.specs.Fits.{settled_marks}
use Rattle.reconvergence.specs.Worklist.{sum_over, leaves, Taking}
use Rattle.reconvergence.specs.Pass.{done_marks, differs_at, Summed, Answered}
use Rattle.reconvergence.proofs.Sources.{sums, waits, settled_at}

module _ {es : List Edge} {low high : ℕ → ℕ} {n : ℕ} {incoming left smallest largest queue : List ℕ} {c : ℕ} (P : Taking es low high n incoming left smallest largest queue c c) (bound : (x v : ℕ) → Memᴰ (x ⟶ v) es → x < n) where
  nothing_left : (v : ℕ) → Settled es v → v < n → key_at left v ≡ 0
  unfolding in_count
  nothing_left v s = settled-induction es (λ v. v < n → key_at left v ≡ 0) step v s
    where
      step : (v : ℕ) → ((u : ℕ) → Memᴰ (u ⟶ v) es → u < n → key_at left u ≡ 0) → v < n → key_at left v ≡ 0
      step v ih h = omega (arith, P.taken (ends_at v), P.state.remains v h, count_under (ends_at v) (leaves (ends_at v) (take c queue)) es go)
        where
          go : (e : Edge) → Memᴰ e es → T (ends_at v e) → T (leaves (ends_at v) (take c queue) e)
          go (a ⟶ b) m t =
              let k = Memᴰ.cast (ap (λ w. a ⟶ w) (sym (eqb→eq b v t))) m in
              let l = bound a b m in
              and_both (eqb b v) (any (eqb a) (take c queue)) t (mem→any a (waits P.state a l (ih a k l)))

  -- a node is settled exactly where no edge is left
  settled-flag : (v : ℕ) → v < n → settled es v ≡ eqb (key_at left v) 0
  settled-flag v h = same_test _ _ (λ t. eq_test (nothing_left v (settled→ es v t) h)) (λ t. →settled es v (settled_at P v h (eqb→eq (key_at left v) 0 t)))

  all-sums : {f : ℕ → ℕ → ℕ} (C : Choice f) (d : ℕ → ℕ) (v : ℕ) → sum_over f es d P.passed v ≡ extreme_sum f es d v
  all-sums C d v = sums es P.passed (take c queue) P.taken P.proper C d v (λ x m s. waits P.state x (bound x v m) (nothing_left x s (bound x v m)))

  pub summed : Summed es low high n incoming left smallest largest
  unfolding done_marks settled_marks
  summed = record {
    counted = P.state.counted;
    done = rw (length-take-le n left P.state.lefts) (map_same _ _ (indices n) (λ v m. let h = indices-below n m in rw (get_or-take n left v 0 h) (ap (λ b. cond b 1 0) (sym (settled-flag v h)))));
    smallests = front-made (smallest_sum es low) smallest n P.state.smallests (λ v h. P.state.least v h ∙ all-sums smaller low v);
    largests = front-made (largest_sum es high) largest n P.state.largests (λ v h. P.state.most v h ∙ all-sums larger high v);
    incomings = P.state.incomings;
    lefts = P.state.lefts;
  }
    where
      front-made : (f : ℕ → ℕ) (xs : List ℕ) (n : ℕ) → n ≤ length xs → ((v : ℕ) → v < n → key_at xs v ≡ f v) → take n xs ≡ map f (indices n)
      front-made f xs n r e =
          let l : length (take n xs) ≡ n = length-take-le n xs r in
          sym (rw l at (made-same f (take n xs) 0 (λ v h. let k : v < n = omega (arith, h, l) in sym (get_or-take n xs v 0 k ∙ e v k))))

-- values at the front of a list, which keeps its rest
front-written : (old new values : List ℕ) (n : ℕ) → take n new ≡ values → length values ≡ n → drop n new ≡ drop n old → new ≡ written old values
front-written old new values n e l d = sym (take-append-drop n new) ∙ rw (e, d, ← l) (sym (written-parts old values))

module _ {es : List Edge} {low high : ℕ → ℕ} {n : ℕ} {incoming left smallest largest : List ℕ} (S : Summed es low high n incoming left smallest largest) (order : List ℕ) (inside : Below n order) where
  sums-in : (f : ℕ → ℕ) (xs : List ℕ) → take n xs ≡ map f (indices n) → Below (length xs) order
  sums-in f xs e k h = omega (arith, inside k h, length-take n xs, ap length e, made-length f n)

  pub list-fits : (unequal : List ℕ) → length order ≤ length unequal → Below (length incoming) order × Below (length smallest) order × Below (length largest) order × (length order ≤ length unequal)
  list-fits unequal room = (λ k h. omega (arith, inside k h, S.incomings), sums-in _ _ S.smallests, sums-in _ _ S.largests, room)

  sum_at : (f : ℕ → ℕ) (xs : List ℕ) → take n xs ≡ map f (indices n) → (v : ℕ) → v < n → key_at xs v ≡ f v
  sum_at f xs e v h = sym (get_or-take n xs v 0 h) ∙ ap (λ l. key_at l v) e ∙ made_at f n v 0 h

  same_at : (v : ℕ) → v < n → differs_at incoming smallest largest v ≡ unequal_at es low high v
  unfolding unequal_at
  same_at v h =
      let a : key_at smallest v ≡ smallest_sum es low v = sum_at _ _ S.smallests v h in
      let b : key_at largest v ≡ largest_sum es high v = sum_at _ _ S.largests v h in
      rw (S.counted v h, a, b)

  same-list : keep (differs_at incoming smallest largest) order ≡ keep (unequal_at es low high) order
  same-list = keep_same _ _ order (λ v m. let r = mem-at 0 m in same_at v (subst (λ k. k < n) r.2 (inside r.0 r.1)))

  marks-size : length (settled_marks es n) ≡ n
  unfolding settled_marks
  marks-size = made-length _ n

  pub answered : {marks marks' smallest₀ largest₀ unequal unequal' : List ℕ} {c : ℕ} → marks' ≡ done_marks (take n left) ++ drop n marks
      → drop n smallest ≡ drop n smallest₀ → drop n largest ≡ drop n largest₀
      → unequal' ≡ written unequal (keep (differs_at incoming smallest largest) order) → c ≡ length (keep (differs_at incoming smallest largest) order)
      → Answered es low high n order marks smallest₀ largest₀ unequal marks' smallest largest unequal' c
  answered {marks} {marks'} {smallest₀} {largest₀} {unequal} m a b w l = record {
    settles = m ∙ rw S.done (ap (λ k. settled_marks es n ++ drop k marks) (sym marks-size) ∙ sym (written-parts marks (settled_marks es n)));
    smallests = front-written smallest₀ smallest _ n S.smallests (made-length _ n) a;
    largests = front-written largest₀ largest _ n S.largests (made-length _ n) b;
    lists = w ∙ ap (written unequal) same-list;
    counts = l ∙ ap length same-list;
  }

pub summed-edges : {sources sinks incoming left smallest largest queue : List ℕ} {low high : ℕ → ℕ} {n c : ℕ} → Between sources sinks n → Taking (edges_between sources sinks) low high n incoming left smallest largest queue c c
    → Summed (edges_between sources sinks) low high n incoming left smallest largest
summed-edges {sources} {sinks} {n} edges P = summed P (edge-low sources sinks n edges)
