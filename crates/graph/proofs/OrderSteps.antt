-- What a visit and a walk make of the order written so far. Assumes nothing.
use mathlib.Core.List.{List, [], ◌∷◌, ◌++◌}
use mathlib.Core.Path.{◌≡◌, refl, sym, subst, ◌∙◌}
use Prim.Native.Nat.{ℕ, suc, ◌+◌, ◌<◌, ◌≤◌}
use native.Mathlib.Nat.{add-zero}
use native.Mathlib.Omega.{arith}
use lib.ListN.{length, get_or, set, length-set, length-append}
use Rattle.rules.specs.Lists.{from, indices}
use Rattle.rules.proofs.Indices.{indices-more}
use Rattle.rules.proofs.Written.{from-none, from_more, from-twice}
use Rattle.graph.specs.Adjacency.{ends, neighbours}
use Rattle.graph.specs.Visits.{unseen, done, skip, enter, Ready, Visited}
use Rattle.graph.proofs.Chains.{Passed, passed-more, passed-all}
use Rattle.graph.proofs.Visits.{unseen-mark, dfs-length, dfs-count, dfs-append}

pub visited-none : (head next sinks s order : List ℕ) (count : ℕ) → Visited head next sinks [] s order count s order count
visited-none head next sinks s order count = record { out = []; dfs = done; result = sym (add-zero count); written = sym (from-none order count) }

pub visited-append : {head next sinks us vs s order s₁ order₁ s₂ order₂ : List ℕ} {count c r : ℕ} → count ≤ length order → Visited head next sinks us s order count s₁ order₁ c → Visited head next sinks vs s₁ order₁ c s₂ order₂ r → Visited head next sinks (us ++ vs) s order count s₂ order₂ r
visited-append {order} {count} h v w = record {
  out = v.out ++ w.out;
  dfs = dfs-append v.dfs w.dfs;
  result = omega (arith, v.result, w.result, length-append v.out w.out);
  written = w.written ∙ rw (v.written, v.result) (from-twice order v.out w.out count h);
}

module _ {head next sinks s order : List ℕ} {count : ℕ} (now : Ready head next sinks s order count) where
  -- a node that was seen
  pub visit-old : (u : ℕ) → (get_or s u 0 ≡ 0 → ⊥) → Visited head next sinks (u ∷ []) s order count s order count
  visit-old u h = record { out = []; dfs = skip h done; result = sym (add-zero count); written = sym (from-none order count) }

  -- a new node u: what the walk is given, and what becomes of its answer
  module _ (u : ℕ) (l : u < length head) (new : get_or s u 0 ≡ 0) where
    pub in-marks : u < length s
    in-marks = omega (arith, now.linked.nodes)

    pub fewer : suc (unseen (set s u 1)) ≡ unseen s
    fewer = unseen-mark s u in-marks new

    pub marked : Ready head next sinks (set s u 1) order count
    marked = record {
      linked = record { nodes = length-set s u 1 ∙ now.linked.nodes; pairs = now.linked.pairs; rises = now.linked.rises; inside = now.linked.inside };
      room = omega (arith, fewer, now.room);
    }

    module _ {s' order' : List ℕ} {r : ℕ} (w : Visited head next sinks (neighbours head next sinks u) (set s u 1) order count s' order' r) where
      pub place : r < length order
      place = omega (arith, fewer, now.room, w.result, dfs-count w.dfs)

      pub visit-new : Visited head next sinks (u ∷ []) s order count s' (set order' r u) (r + 1)
      visit-new = record {
        out = w.out ++ (u ∷ []);
        dfs = enter in-marks new w.dfs done;
        result = omega (arith, w.result, length-append w.out (u ∷ []));
        written = rw (w.written, w.result) (from_more order w.out count u (omega (arith, place, w.result)));
      }

  module _ {us s₁ order₁ : List ℕ} {c : ℕ} (v : Visited head next sinks us s order count s₁ order₁ c) (kept : length order₁ ≡ length order) where
    pub ready-again : Ready head next sinks s₁ order₁ c
    ready-again = record {
      linked = record { nodes = dfs-length v.dfs ∙ now.linked.nodes; pairs = now.linked.pairs; rises = now.linked.rises; inside = now.linked.inside };
      room = omega (arith, now.room, v.result, dfs-count v.dfs);
    }

    pub no_more : unseen s₁ ≤ unseen s
    no_more = omega (arith, dfs-count v.dfs)

  pub in_order_lem : count ≤ length order
  in_order_lem = omega (arith, now.room)

-- a walk along the chain from f on, which is now at e
pub record Walking (head next sinks s order : List ℕ) (count f : ℕ) (s' order' : List ℕ) (r e : ℕ) : Type 0 where
  pub us : List ℕ
  pub passed : Passed next sinks us f e
  pub visited : Visited head next sinks us s order count s' order' r
  pub size : length order' ≡ length order

pub walking-none : (head next sinks s order : List ℕ) (count f : ℕ) → Walking head next sinks s order count f s order count f
walking-none head next sinks s order count f = record { us = []; passed = refl; visited = visited-none head next sinks s order count; size = refl }

module _ {head next sinks s order : List ℕ} {count : ℕ} (now : Ready head next sinks s order count) (f : ℕ) {s₁ order₁ : List ℕ} {c : ℕ} (e : ℕ) (w : Walking head next sinks s order count f s₁ order₁ c e) where
  pub walking-ready : Ready head next sinks s₁ order₁ c
  walking-ready = ready-again now w.visited w.size

  pub walking-more : {s₂ order₂ : List ℕ} {r : ℕ} → e < length next → Visited head next sinks (get_or sinks e 0 ∷ []) s₁ order₁ c s₂ order₂ r → length order₂ ≡ length order₁ → Walking head next sinks s order count f s₂ order₂ r (get_or next e 0)
  walking-more lt v size = record {
    us = w.us ++ (get_or sinks e 0 ∷ []);
    passed = passed-more next sinks w.us f e w.passed now.linked.rises lt;
    visited = visited-append (in_order_lem now) w.visited v;
    size = size ∙ w.size;
  }

  pub walked : length next ≤ e → Visited head next sinks (ends next sinks f) s order count s₁ order₁ c
  walked over = subst (λ us. Visited head next sinks us s order count s₁ order₁ c) (passed-all next sinks w.us f e w.passed over) w.visited

-- the nodes below u were visited
pub visited-start : (head next sinks s order : List ℕ) → Visited head next sinks (indices 0) s order 0 s order 0
unfolding indices from
visited-start head next sinks s order = visited-none head next sinks s order 0

pub visited-next : {head next sinks s order s₁ order₁ s₂ order₂ : List ℕ} {c r : ℕ} (u : ℕ) → Visited head next sinks (indices u) s order 0 s₁ order₁ c → Visited head next sinks (u ∷ []) s₁ order₁ c s₂ order₂ r → Visited head next sinks (indices (u + 1)) s order 0 s₂ order₂ r
visited-next u v w = rw (indices-more u) (visited-append (omega arith) v w)
