-- The lists before a node is taken, filled step by step. Assumes nothing.
use mathlib.Core.Path.{◌≡◌, refl, sym, ap, ◌∙◌}
use mathlib.Core.Bool.{Bool, true, false, ◌&&◌}
use mathlib.Core.List.Memᴰ
use mathlib.Core.List.{List, [], ◌∷◌, ◌++◌}
use Prim.Native.Nat.{ℕ, ◌+◌, ◌<◌, ◌≤◌}
use native.Mathlib.Omega.{arith}
use native.Mathlib.Numerals.{add-one}
use lib.ListN.{length, take, set, replicate, length-set, length-take, length-replicate, get_or-replicate}
use lib.Seq.{take-suc, take-suc-set, get_or-take}
use lib.Dec.{T, eqb}
use borrow.Author.Tests.{eq-eqb, ne_eqb}
use Rattle.rules.specs.Lists.{any, keep, count, indices}
use Rattle.rules.specs.Ordered.{key_at}
use Rattle.rules.specs.Graph.{Edge, sink_of, ends_at, in_count, edges_between}
use Rattle.rules.specs.Paths.{extreme}
use Rattle.rules.proofs.Counts.{count-append, count_map, count_none, count_same}
use Rattle.rules.proofs.Indices.{indices-below}
use Rattle.laws.proofs.PositionEdges.{edges_between-sinks}
use Rattle.reconvergence.specs.Worklist.{sum_over, ready, leaves, Taking, TimedGraph}
use Rattle.reconvergence.specs.Pass.{Waiting, Started}
use Rattle.reconvergence.proofs.Counting.{one, one-false, and-true, and-false, count-cons, count-nil, below_suc, below-zero}

-- the nodes before v are gone through
pub record ReadyTo (n : ℕ) (incoming left queue : List ℕ) (c v : ℕ) : Type 0 where
  pub copied : take v left ≡ take v incoming
  pub counts : n ≤ length incoming
  pub lefts : n ≤ length left
  pub places : n ≤ length queue
  pub few : c ≤ v
  pub holds : (p : ℕ → Bool) → count p (take c queue) ≡ count (ready incoming p) (indices v)

pub ready-none : {n : ℕ} {incoming left queue : List ℕ} → n ≤ length incoming → n ≤ length left → n ≤ length queue → ReadyTo n incoming left queue 0 0
ready-none a b d = record { copied = refl; counts = a; lefts = b; places = d; few = omega arith; holds = λ p. count-nil p ∙ sym (below-zero _) }

module _ {n : ℕ} {incoming left queue : List ℕ} {c v : ℕ} (was : ReadyTo n incoming left queue c v) where
  module _ (h : v < n) where
    copied_more : take (v + 1) (set left v (key_at incoming v)) ≡ take (v + 1) incoming
    copied_more = rw add-one (take-suc-set left v (key_at incoming v) (omega (arith, was.lefts)) ∙ ap (λ l. l ++ (key_at incoming v ∷ [])) was.copied ∙ sym (take-suc incoming v 0 (omega (arith, was.counts))))

    pub ready-yes : key_at incoming v ≡ 0 → ReadyTo n incoming (set left v (key_at incoming v)) (set queue c v) (c + 1) (v + 1)
    ready-yes e = record {
      copied = copied_more;
      counts = was.counts;
      lefts = omega (arith, length-set left v (key_at incoming v), was.lefts);
      places = omega (arith, length-set queue c v, was.places);
      few = omega (arith, was.few);
      holds = λ p. omega (
        arith,
        was.holds p,
        ap (λ (k : ℕ). count p (take k (set queue c v))) (add-one c),
        ap (count p) (take-suc-set queue c v (omega (arith, was.few, was.places))),
        count-append p (take c queue) (v ∷ []),
        count-cons p v [],
        count-nil p,
        ap (λ (k : ℕ). count (ready incoming p) (indices k)) (add-one v),
        below_suc (ready incoming p) v,
        ap one (and-true (p v) (eqb (key_at incoming v) 0) (eq-eqb (key_at incoming v) 0 e)),
      );
    }

    pub ready-no : (key_at incoming v ≡ 0 → ⊥) → ReadyTo n incoming (set left v (key_at incoming v)) queue c (v + 1)
    ready-no e = record {
      copied = copied_more;
      counts = was.counts;
      lefts = omega (arith, length-set left v (key_at incoming v), was.lefts);
      places = was.places;
      few = omega (arith, was.few);
      holds = λ p. omega (
        arith,
        was.holds p,
        ap (λ (k : ℕ). count (ready incoming p) (indices k)) (add-one v),
        below_suc (ready incoming p) v,
        one-false (and-false (p v) (eqb (key_at incoming v) 0) (ne_eqb (key_at incoming v) 0 e)),
      );
    }

pub ready-all : {n : ℕ} {incoming left queue : List ℕ} {c : ℕ} → ReadyTo n incoming left queue c n → Waiting n incoming left queue c
ready-all was = record { copied = was.copied; fits = was.few; holds = was.holds; lefts = was.lefts; places = was.places }

-- what is left of the edges into a node are all of them
sink-count : (sources sinks : List ℕ) (v : ℕ) → length sinks ≡ length sources → in_count (edges_between sources sinks) v ≡ count (λ x. eqb x v) sinks
unfolding in_count
sink-count sources sinks v pairs = sym (count_map (λ x. eqb x v) sink_of (edges_between sources sinks)) ∙ ap (count (λ x. eqb x v)) (edges_between-sinks sources sinks (sym pairs))

-- entries of equal fronts
front-same : (xs ys : List ℕ) (n v : ℕ) → take n xs ≡ take n ys → v < n → key_at xs v ≡ key_at ys v
front-same xs ys n v e h = sym (get_or-take n xs v 0 h) ∙ ap (λ l. key_at l v) e ∙ get_or-take n ys v 0 h

front-zero : (xs : List ℕ) (n v : ℕ) → take n xs ≡ replicate n 0 → v < n → key_at xs v ≡ 0
front-zero xs n v e h = sym (get_or-take n xs v 0 h) ∙ ap (λ l. key_at l v) e ∙ get_or-replicate n v 0 0 h

front-size : (xs ys : List ℕ) (n : ℕ) → take n xs ≡ ys → length ys ≡ n → n ≤ length xs
front-size xs ys n e l = omega (arith, length-take n xs, ap length e, l)

pub started : {sources sinks head next low high incoming left smallest largest queue : List ℕ} {c : ℕ} → TimedGraph sources sinks head next low high
    → Started (length low) sinks incoming left smallest largest queue c → Taking (edges_between sources sinks) (key_at low) (key_at high) (length low) incoming left smallest largest queue 0 c
unfolding sum_over keep extreme any
started {sources} {sinks} {low} {incoming} {left} G s = record {
  passed = [];
  state = record {
    incomings = s.incomings;
    lefts = s.waiting.lefts;
    smallests = front-size _ _ _ s.smallests (length-replicate (length low) 0);
    largests = front-size _ _ _ s.largests (length-replicate (length low) 0);
    places = s.waiting.places;
    room = s.waiting.fits;
    counted = counts;
    remains = λ v h. omega (arith, count-nil {A = Edge} (ends_at v), front-same _ _ _ _ s.waiting.copied h, counts v h);
    least = λ v h. front-zero _ _ _ s.smallests h;
    most = λ v h. front-zero _ _ _ s.largests h;
    waiting = λ p. s.waiting.holds p ∙ count_same _ _ (indices (length low)) (λ v m. ap (λ (x : ℕ). p v && eqb x 0) (sym (front-same _ _ _ _ s.waiting.copied (indices-below (length low) m))));
  };
  within = omega arith;
  taken = λ p. count-nil p ∙ sym (count_none (leaves p []) (edges_between sources sinks) (λ e m t. none (p e) t));
  proper = λ u m. absurd (Memᴰ.not-nil m);
}
  where
    counts : (v : ℕ) → v < length low → key_at incoming v ≡ in_count (edges_between sources sinks) v
    counts v h = sym (get_or-take (length low) incoming v 0 h) ∙ s.counted v (omega (arith, s.incomings, length-take (length low) incoming, h)) ∙ sym (sink-count sources sinks v G.edges.pairs)

    none : (b : Bool) → T (b && false) → ⊥
    none true t = t
    none false t = t
