-- A node is taken: the edges that leave it are relaxed one by one. Assumes nothing.
use mathlib.Core.Path.{◌≡◌, refl, sym, ap, subst, ◌∙◌}
use mathlib.Core.Bool.{Bool, true, false, cond, ◌&&◌, ◌||◌, and-true, and-false}
use mathlib.Core.Logic.{⊎_elim}
use mathlib.Core.List.Memᴰ
use mathlib.Core.List.{List, [], ◌∷◌, ◌++◌, map, Memᴰ}
use Prim.Native.Nat.{ℕ, suc, ◌+◌, ◌<◌, ◌≤◌, min, max}
use native.Mathlib.Omega.{arith}
use native.Mathlib.Numerals.{add-one}
use lib.ListN.{length, get_or, take}
use lib.Seq.{get_or-take, take-set-le}
use lib.Dec.{eqb, eqb→eq}
use borrow.Author.Tests.{eq-eqb, eqb-true}
use Rattle.rules.specs.Lists.{any, keep, count, indices}
use Rattle.rules.specs.Ordered.{key_at}
use Rattle.rules.specs.Delay.{add_range}
use Rattle.rules.specs.declared.delay.DelayRange.{DelayRange}
use Rattle.rules.specs.Graph.{Edge, ◌⟶◌, source_of, starts_at, ends_at, in_count, edges_between, Settled}
use Rattle.rules.proofs.Lists.{and_left, and_right, any→mem}
use Rattle.rules.proofs.Counts.{count-keep, count_map, count-or, count_same, count_under}
use Rattle.rules.proofs.Indices.{made-same}
use Rattle.rules.proofs.Sums.{smaller, larger}
use Rattle.laws.proofs.PositionEdges.{edges_between-at, edges_between-length}
use Rattle.graph.specs.Adjacency.{leaving, ends, Rises, Indexed}
use Rattle.graph.proofs.Chains.{passed-more, passed-all}
use Rattle.reconvergence.specs.Worklist.{brought, leaves, range_at, Relaxing, Relaxed, Taking, TimedGraph}
use Rattle.reconvergence.proofs.Counting.{one, one-true, count-cons, count-nil, any_last}
use Rattle.reconvergence.proofs.Relaxations.{place-left, relax-more}
use Rattle.reconvergence.proofs.Sources.{front, ready_at, new-at, settled_at, sum-at}

abbrev out : ℕ → List ℕ → List Edge
out u vs = map (λ v. u ⟶ v) vs

-- the edges by index
by_place : (sources sinks : List ℕ) → length sinks ≡ length sources → edges_between sources sinks ≡ map (λ k. get_or sources k 0 ⟶ get_or sinks k 0) (indices (length sources))
by_place sources sinks pairs =
    let size : length (edges_between sources sinks) ≡ length sources = edges_between-length sources sinks (sym pairs) in
    sym (rw size at (made-same (λ k. get_or sources k 0 ⟶ get_or sinks k 0) (edges_between sources sinks) (0 ⟶ 0) (λ k h. sym (edges_between-at sources sinks k (0 ⟶ 0) (omega arith) (omega arith)))))

-- the edges along a node's chain are those that start at the node
chain-edges : (p : Edge → Bool) (sources sinks head next : List ℕ) (u : ℕ) → Indexed sources head next → length sinks ≡ length sources → u < length head
    → count p (out u (ends next sinks (get_or head u 0))) ≡ count (λ e. p e && starts_at u e) (edges_between sources sinks)
unfolding ends leaving
chain-edges p sources sinks head next u I pairs l =
    rw (I.lists u l, by_place sources sinks pairs) (
    count_map p (λ v. u ⟶ v) (map (λ k. get_or sinks k 0) kept) ∙ count_map (λ v. p (u ⟶ v)) (λ k. get_or sinks k 0) kept
    ∙ count-keep (λ k. p (u ⟶ get_or sinks k 0)) (λ k. eqb (get_or sources k 0) u) (indices (length sources))
    ∙ count_same _ _ (indices (length sources)) (λ k m. same k (eqb (get_or sources k 0) u) refl)
    ∙ sym (count_map (λ e. p e && starts_at u e) (λ k. get_or sources k 0 ⟶ get_or sinks k 0) (indices (length sources)))
    )
  where
    kept : List ℕ
    kept = keep (λ k. eqb (get_or sources k 0) u) (indices (length sources))

    same : (k : ℕ) (b : Bool) → eqb (get_or sources k 0) u ≡ b → (b && p (u ⟶ get_or sinks k 0)) ≡ (p (get_or sources k 0 ⟶ get_or sinks k 0) && b)
    same k true e = ap (λ (s : ℕ). p (s ⟶ get_or sinks k 0)) (sym (eqb-true _ _ e)) ∙ sym (and-true (p (get_or sources k 0 ⟶ get_or sinks k 0)))
    same k false e = sym (and-false (p (get_or sources k 0 ⟶ get_or sinks k 0)))

-- an edge has a link, which is as long as the list of the edges
pub linked-more : (sources sinks head next low high : List ℕ) (e : ℕ) → TimedGraph sources sinks head (take (length sources) next) low high → e < length sinks
    → (e < length (take (length sources) next)) × (get_or (take (length sources) next) e 0 ≡ get_or next e 0)
linked-more sources sinks head next low high e G h = (omega (arith, G.edges.pairs, G.indexed.links), get_or-take (length sources) next e 0 (omega (arith, G.edges.pairs)))

-- one node more
leaves-more : (p : Edge → Bool) (us : List ℕ) (u : ℕ) (es : List Edge) → (Memᴰ u us → ⊥) → count (leaves p (us ++ (u ∷ []))) es ≡ count (leaves p us) es + count (λ e. p e && starts_at u e) es
leaves-more p us u es new =
    count_same _ _ es (λ e m. split (p e) (source_of e) us)
    ∙ sym (count-or (leaves p us) (λ e. p e && starts_at u e) es (λ e s t. new (subst (λ x. Memᴰ x us) (eqb→eq (source_of e) u (and_right (p e) (starts_at u e) t)) (any→mem (source_of e) us (and_right (p e) (any (eqb (source_of e)) us) s)))))
  where
    split : (b : Bool) (x : ℕ) (us : List ℕ) → (b && any (eqb x) (us ++ (u ∷ []))) ≡ ((b && any (eqb x) us) || (b && eqb x u))
    split true x us = any_last x us u
    split false x us = refl

-- while the edges that leave u are relaxed, those from e on are to come
pub record Leaving (es : List Edge) (low high : ℕ → ℕ) (n : ℕ) (next sinks incoming queue₀ : List ℕ) (i u : ℕ) (left smallest largest queue : List ℕ) (c e : ℕ) : Type 0 where
  pub passed : List Edge
  pub state : Relaxing es low high n incoming left smallest largest queue c passed
  pub after : i < c
  pub kept : take (suc i) queue ≡ take (suc i) queue₀
  pub proper : (x : ℕ) → Memᴰ x (take (suc i) queue₀) → Settled es x
  pub split : (p : Edge → Bool) → count p passed + count p (out u (ends next sinks e)) ≡ count (leaves p (take (suc i) queue₀)) es

-- what every edge that leaves u brings
pub record Brings (es : List Edge) (low high : ℕ → ℕ) (u : ℕ) (sum : DelayRange) : Type 0 where
  pub least : (v : ℕ) → sum.minimum_redstone_ticks ≡ brought min es low (u ⟶ v)
  pub most : (v : ℕ) → sum.maximum_redstone_ticks ≡ brought max es high (u ⟶ v)

module _ {sources sinks head next low high incoming left smallest largest queue : List ℕ} {i c : ℕ} (G : TimedGraph sources sinks head next low high)
    (P : Taking (edges_between sources sinks) (key_at low) (key_at high) (length low) incoming left smallest largest queue i c) (h : i < c) where
  abbrev es : List Edge
  es = edges_between sources sinks

  pub node_in : key_at queue i < length low
  node_in = (ready_at P.state i h).0

  none_left : key_at left (key_at queue i) ≡ 0
  none_left = (ready_at P.state i h).1

  pub leaving-start : {e : ℕ} → e ≡ get_or head (key_at queue i) 0 → Leaving es (key_at low) (key_at high) (length low) next sinks incoming queue i (key_at queue i) left smallest largest queue c e
  leaving-start {e} first = record {
    passed = P.passed;
    state = P.state;
    after = h;
    kept = refl;
    proper = λ x m. ⊎_elim (P.proper x) (λ s. subst (Settled es) (sym (Memᴰ.eq_of_singleton s)) (settled_at P (key_at queue i) node_in none_left))
        (Memᴰ.append_cases (take i queue) (subst (Memᴰ x) (front P.state i h) m));
    split = λ p. omega (
      arith,
      P.taken p,
      ap (λ (us : List ℕ). count (leaves p us) es) (front P.state i h),
      leaves-more p (take i queue) (key_at queue i) es (new-at P.state i h),
      ap (λ (k : ℕ). count p (out (key_at queue i) (ends next sinks k))) first,
      chain-edges p sources sinks head next (key_at queue i) G.indexed G.edges.pairs (omega (arith, G.heads, node_in)),
    );
  }

  -- the node's own sums with its delays
  pub brings : (sum : DelayRange) → sum ≡ add_range (range_at smallest largest (key_at queue i)) (range_at low high (key_at queue i)) → Brings es (key_at low) (key_at high) (key_at queue i) sum
  unfolding brought
  brings sum e =
      let a = P.state.least (key_at queue i) node_in ∙ sum-at P (key_at queue i) node_in none_left smaller (key_at low) in
      let b = P.state.most (key_at queue i) node_in ∙ sum-at P (key_at queue i) node_in none_left larger (key_at high) in
      record { least = λ v. rw (e, a); most = λ v. rw (e, b) }

module _ {es : List Edge} {low high : ℕ → ℕ} {n : ℕ} {next sinks incoming queue₀ : List ℕ} {i u : ℕ} {left smallest largest queue : List ℕ} {c e : ℕ}
    (M : Leaving es low high n next sinks incoming queue₀ i u left smallest largest queue c e) where
  module _ (up : Rises next) (l : e < length next) (b : get_or sinks e 0 < n) where
    ahead : (p : Edge → Bool) → count p (out u (ends next sinks e)) ≡ one (p (u ⟶ get_or sinks e 0)) + count p (out u (ends next sinks (get_or next e 0)))
    ahead p = ap (λ (vs : List ℕ). count p (out u vs)) (sym (passed-more next sinks [] e e refl up l)) ∙ count-cons p (u ⟶ get_or sinks e 0) _

    -- the edge to come is still counted at its sink
    pub some_left : 0 < key_at left (get_or sinks e 0)
    unfolding in_count
    some_left =
        let v : ℕ = get_or sinks e 0 in
        omega (
          arith,
          M.state.remains v b,
          M.split (ends_at v),
          ahead (ends_at v),
          one-true (eq-eqb v v refl),
          count_under (leaves (ends_at v) (take (suc i) queue₀)) (ends_at v) es (λ d m t. and_left (ends_at v d) (any (eqb (source_of d)) (take (suc i) queue₀)) t),
        )

    pub some-room : c < n
    some-room = place-left M.state (get_or sinks e 0) b some_left

    pub leaving-more : {sum : DelayRange} → Brings es low high u sum → {left' smallest' largest' queue' : List ℕ} {c' : ℕ} → Relaxed incoming left smallest largest queue c (get_or sinks e 0) sum left' smallest' largest' queue' c'
        → Leaving es low high n next sinks incoming queue₀ i u left' smallest' largest' queue' c' (get_or next e 0)
    leaving-more {sum} B r = record {
      passed = (u ⟶ get_or sinks e 0) ∷ M.passed;
      state = relax-more M.state u (get_or sinks e 0) b some_left sum (B.least _) (B.most _) r;
      after = rw r.count (more (eqb (key_at left (get_or sinks e 0)) 1));
      kept = rw r.placed (take-set-le (suc i) queue c (get_or sinks e 0) M.after ∙ M.kept);
      proper = M.proper;
      split = λ p. omega (arith, M.split p, ahead p, count-cons p (u ⟶ get_or sinks e 0) M.passed);
    }
      where
        more : (t : Bool) → i < c + cond t 1 0
        more t = omega (arith, M.after)

  pub leaving-end : length next ≤ e → Taking es low high n incoming left smallest largest queue (i + 1) c
  leaving-end l = rw add-one (record {
    passed = M.passed;
    state = M.state;
    within = omega (arith, M.after);
    taken = λ p. rw M.kept (omega (arith, M.split p, ap (λ (vs : List ℕ). count p (out u vs)) (sym (passed-all next sinks [] e e refl l)), count-nil p));
    proper = λ x m. M.proper x (subst (Memᴰ x) M.kept m);
  })
