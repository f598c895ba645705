-- The loop over the order of the visits, and the groups that it ends with. Assumes nothing.
use mathlib.Core.List.{List, ◌∷◌, [], ◌++◌, Memᴰ}
use mathlib.Core.Path.{◌≡◌, refl, sym, ap, subst, ◌∙◌}
use Prim.Native.Nat.{ℕ, suc, ◌+◌, ◌-◌, ◌<◌, ◌≤◌}
use native.Mathlib.Nat.{zero-add}
use native.Mathlib.Omega.{arith}
use lib.Dec.{eqb→eq}
use lib.ListN.{length, get_or, take, drop, get_or-append}
use lib.Seq.{split_at, drop-cons, drop-length, length-take-le, get_or-take, get_or-append_seam}
use Rattle.std.proofs.lemmas.List.{length-append}
use Rattle.rules.specs.Lists.{indices}
use Rattle.rules.specs.Graph.{Edge, edges_between}
use Rattle.rules.proofs.Indices.{at_mem, below-indices}
use Rattle.rules.proofs.Lists.{same_test, eq_test}
use Rattle.rules.proofs.Reach.{connected→, →connected}
use Rattle.rules.proofs.Written.{written_at, written-length}
use Rattle.graph.specs.Adjacency.{Indexed, Below, neighbours}
use Rattle.graph.specs.Visits.{Dfs, Linked, Visited, Open, Collected, paint}
use Rattle.graph.specs.Groups.{Between, Grouped, Rooted}
use Rattle.graph.proofs.Visits.{dfs-length, out_below}
use Rattle.graph.proofs.GroupSteps.{length-paint}
use Rattle.graph.proofs.Seen.{Unseen, Seen}
use Rattle.graph.proofs.Neighbours.{Leads, leads, turn, edge-low, edge-high, walk-high}
use Rattle.graph.proofs.Kosaraju.{Mutual, mutual-sym, mutual-trans, BothWays, Halfway, halfway-none, halfway-old, halfway-new, all-out}

-- out lists the nodes below n as depth-first visits along es left them
pub record LeftInOrder (es : List Edge) (n : ℕ) (out : List ℕ) : Type 0 where
  pub next : ℕ → List ℕ
  pub leads : Leads es n next
  pub s₀ : List ℕ
  pub s₁ : List ℕ
  pub dfs : Dfs next (indices n) s₀ s₁ out
  pub blank : (v : ℕ) → Unseen s₀ v
  pub inside : (v : ℕ) → Memᴰ v out → v < n

-- what linked edges are to be, for the visits
pub linked_of : {sources head next : List ℕ} (sinks marks : List ℕ) {n : ℕ} → Below n sinks → length sinks ≡ length sources → length head ≡ n → Indexed sources head next → length marks ≡ n → Linked head next sinks marks
linked_of sinks marks inside pairs heads index nodes = record {
  nodes = nodes ∙ sym heads;
  pairs = pairs ∙ sym index.links;
  rises = index.rises;
  inside = λ k h. rw heads (inside k h);
}

-- the edges are linked anew by their sinks, and i nodes of the order are left
pub record Sweeping (sources sinks head next order s g : List ℕ) (i : ℕ) : Type 0 where
  pub edges : Between sources sinks (length head)
  pub index : Indexed sinks head next
  pub out : List ℕ
  pub first : LeftInOrder (edges_between sources sinks) (length head) out
  pub placed : (j : ℕ) → j < length out → get_or order j 0 ≡ get_or out j 0
  pub room : length out ≤ length order
  pub left : i ≤ length out
  pub half : Halfway (edges_between sources sinks) (length head) (drop i out) s g
  pub marks : length s ≡ length head
  pub groups : length g ≡ length head

-- the same, where the nodes that are left stand at the front of an order
pub record SweepingLeft (sources sinks head next left s g : List ℕ) : Type 0 where
  pub order : List ℕ
  pub front : (k : ℕ) → k < length left → get_or left k 0 ≡ get_or order k 0
  pub sweeping : Sweeping sources sinks head next order s g (length left)

-- the first pass is done, and nothing taken yet
module _ (sources sinks head₁ next₁ head next : List ℕ) (edges : Between sources sinks (length head)) (heads : length head₁ ≡ length head) (index₁ : Indexed sources head₁ next₁) (index : Indexed sinks head next) where
  pub sweep-start : (s₀ order₀ s₁ order s g : List ℕ) (r : ℕ) → Visited head₁ next₁ sinks (indices (length head₁)) s₀ order₀ 0 s₁ order r → ((v : ℕ) → Unseen s₀ v) → length s₀ ≡ length head → ((v : ℕ) → Unseen s v) → length s ≡ length head → length g ≡ length head
      → Sweeping sources sinks head next order s g r
  sweep-start s₀ order₀ s₁ order s g r v blank₀ size₀ blank size room = record {
    edges = edges;
    index = index;
    out = v.out;
    first = record {
      next = neighbours head₁ next₁ sinks;
      leads = subst (λ k. Leads (edges_between sources sinks) k (neighbours head₁ next₁ sinks)) heads (leads sources sinks head₁ next₁ edges.pairs index₁);
      s₀ = s₀;
      s₁ = s₁;
      dfs = subst (λ k. Dfs (neighbours head₁ next₁ sinks) (indices k) s₀ s₁ v.out) heads v.dfs;
      blank = blank₀;
      inside = λ w m. omega (arith, out_below v.dfs w m);
    };
    placed = λ j h. rw v.written (written_at order₀ v.out j 0 h);
    room = rw v.written (written-length order₀ v.out);
    left = omega (arith, v.result);
    half = rw (v.result, zero-add (length v.out), drop-length v.out) (halfway-none (edges_between sources sinks) (length head) s g blank);
    marks = size;
    groups = room;
  }

module _ {sources sinks head next order s g : List ℕ} (i : ℕ) (w : Sweeping sources sinks head next order s g i) where
  pub sweep-open : Open head next sources s g
  sweep-open = record { linked = linked_of sources s w.edges.low (sym w.edges.pairs) refl w.index w.marks; room = w.groups }

  both_ways : BothWays (edges_between sources sinks) (edges_between sinks sources) (length head) w.first.next (neighbours head next sources)
  both_ways = record {
    forward = w.first.leads;
    backward = leads sinks sources head next (sym w.edges.pairs) w.index;
    turned = λ u v m. turn sources sinks m;
    returned = λ u v m. turn sinks sources m;
    low = edge-low sources sinks (length head) w.edges;
    high = edge-high sources sinks (length head) w.edges;
  }

  all : (v : ℕ) → v < length head → Memᴰ v w.out
  all = let f = w.first in all-out f.next (length head) (indices (length head)) f.s₀ f.s₁ w.out f.dfs f.blank (λ v l. below-indices (length head) l)

  -- the next node to take
  module _ (pos : 0 < i) where
    below_out : i - 1 < length w.out
    below_out = omega (arith, w.left)

    pub sweep-place : i - 1 < length order
    sweep-place = omega (arith, w.left, w.room)

    out-node : get_or w.out (i - 1) 0 < length head
    out-node = w.first.inside (get_or w.out (i - 1) 0) (at_mem 0 w.out (i - 1) below_out)

    pub sweep-node : get_or order (i - 1) 0 < length head
    sweep-node = rw (w.placed (i - 1) below_out) out-node

    was : Halfway (edges_between sources sinks) (length head) (drop (suc (i - 1)) w.out) s g
    was = subst (λ k. Halfway (edges_between sources sinks) (length head) (drop k w.out) s g) (let q : i ≡ suc (i - 1) = omega arith in q) w.half

    again : (s' g' : List ℕ) → length s' ≡ length head → length g' ≡ length head → Halfway (edges_between sources sinks) (length head) (get_or w.out (i - 1) 0 ∷ drop (suc (i - 1)) w.out) s' g' → Sweeping sources sinks head next order s' g' (i - 1)
    again s' g' marks groups h = record {
      edges = w.edges;
      index = w.index;
      out = w.out;
      first = w.first;
      placed = w.placed;
      room = w.room;
      left = omega (arith, w.left);
      half = rw (drop-cons w.out (i - 1) 0 below_out) h;
      marks = marks;
      groups = groups;
    }

    pub sweep-old : Seen s (get_or order (i - 1) 0) → Sweeping sources sinks head next order s g (i - 1)
    sweep-old h = again s g w.marks w.groups (halfway-old _ (length head) (get_or w.out (i - 1) 0) (drop (suc (i - 1)) w.out) s g (subst (Seen s) (w.placed (i - 1) below_out) h) was)

    pub sweep-new : Unseen s (get_or order (i - 1) 0) → {s' g' : List ℕ} → Collected head next sources (get_or order (i - 1) 0 ∷ []) s g (get_or order (i - 1) 0) s' g' → Sweeping sources sinks head next order s' g' (i - 1)
    sweep-new z {s'} c =
        let same = w.placed (i - 1) below_out in
        let r : ℕ = get_or w.out (i - 1) 0 in
        let f = w.first in
        rw (c.painted, same) (again s' (paint r c.out g) (dfs-length c.dfs ∙ w.marks) (length-paint r c.out g ∙ w.groups)
        (halfway-new _ _ (length head) f.next (neighbours head next sources) both_ways f.s₀ (indices (length head)) f.s₁ w.out f.dfs all
        (take (i - 1) w.out) (drop (suc (i - 1)) w.out) r (split_at w.out (i - 1) 0 below_out) out-node s g s' c.out was (rw same at z) (rw same at c.dfs) w.groups))

  -- every node is taken
  module _ (none : i ≡ 0) where
    seen : (x : ℕ) → x < length head → Seen s x
    seen x xn = w.half.listed x (rw none (all x xn))

    own : (x : ℕ) → x < length head → Mutual (edges_between sources sinks) x (get_or g x 0)
    own x xn = w.half.own x xn (seen x xn)

    inside : (x : ℕ) → x < length head → get_or g x 0 < length head
    inside x xn = walk-high sources sinks (length head) w.edges (own x xn).0 xn

    sweep-rooted : Rooted (length head) g
    sweep-rooted = record {
      size = w.groups;
      inside = λ x h. inside x (omega (arith, w.groups));
      root = λ x xn. (w.half.whole x (get_or g x 0) xn (inside x xn) (seen x xn) (own x xn)).1;
    }

    pub sweep-end : Grouped (edges_between sources sinks) (length head) g
    sweep-end = record {
      rooted = sweep-rooted;
      same = λ x y xn yn. same_test _ _
          (λ t. let m = mutual-trans (own x xn) (mutual-sym (subst (Mutual _ y) (sym (eqb→eq _ _ t)) (own y yn))) in →connected _ x y m.0 m.1)
          (λ t. eq_test (sym (w.half.whole x y xn yn (seen x xn) (connected→ _ x y t)).1));
    }

-- the last of the nodes that are left is taken
module _ {sources sinks head next left s g : List ℕ} (w : SweepingLeft sources sinks head next left s g) (rest : List ℕ) (x : ℕ) (last : left ≡ rest ++ (x ∷ [])) where
  size : length left ≡ length rest + 1
  size = omega (arith, ap length last, length-append rest (x ∷ []))

  taken : get_or w.order (length left - 1) 0 ≡ x
  taken = sym (w.front (length left - 1) (omega (arith, size))) ∙ ap (λ k. get_or left k 0) (let n : length left - 1 ≡ length rest = omega (arith, size) in n) ∙ ap (λ l. get_or l (length rest) 0) last ∙ get_or-append_seam rest x [] 0

  front : (k : ℕ) → k < length rest → get_or rest k 0 ≡ get_or w.order k 0
  front k h = sym (get_or-append rest (x ∷ []) 0 k h) ∙ ap (λ l. get_or l k 0) (sym last) ∙ w.front k (omega (arith, size))

  left-over : {s' g' : List ℕ} → Sweeping sources sinks head next w.order s' g' (length left - 1) → SweepingLeft sources sinks head next rest s' g'
  left-over {s'} {g'} v = record {
    order = w.order;
    front = front;
    sweeping = subst (Sweeping sources sinks head next w.order s' g') (let n : length left - 1 ≡ length rest = omega (arith, size) in n) v;
  }

  some : 0 < length left
  some = omega (arith, size)

  pub left-node : x < length head
  left-node = subst (λ k. k < length head) taken (sweep-node (length left) w.sweeping some)

  pub left-open : Open head next sources s g
  left-open = sweep-open (length left) w.sweeping

  pub left-old : Seen s x → SweepingLeft sources sinks head next rest s g
  left-old h = left-over (sweep-old (length left) w.sweeping some (subst (Seen s) (sym taken) h))

  pub left-new : Unseen s x → {s' g' : List ℕ} → Collected head next sources (x ∷ []) s g x s' g' → SweepingLeft sources sinks head next rest s' g'
  left-new h {s'} {g'} c = left-over (sweep-new (length left) w.sweeping some (subst (Unseen s) (sym taken) h) (subst (λ k. Collected head next sources (k ∷ []) s g k s' g') (sym taken) c))

-- there is room for the nodes that were visited
pub visited-room : {head next sinks us s order s' order' : List ℕ} {r : ℕ} → Visited head next sinks us s order 0 s' order' r → r ≤ length order'
visited-room {order} v = let n = written-length order v.out in rw v.written (omega (arith, v.result, n))

-- the order of the visits is left at first
pub all-left : {sources sinks head next order s g : List ℕ} {r : ℕ} → r ≤ length order → Sweeping sources sinks head next order s g r → SweepingLeft sources sinks head next (take r order) s g
all-left {sources} {sinks} {head} {next} {order} {s} {g} {r} h v = record {
  order = order;
  front = λ k b. get_or-take r order k 0 (omega (arith, length-take-le r order h));
  sweeping = subst (Sweeping sources sinks head next order s g) (sym (length-take-le r order h)) v;
}
