-- The tests of the lists' shapes, one by one. Assumes nothing.
use mathlib.Core.Bool.{Bool, true, false, not, ◌&&◌, ◌||◌}
use mathlib.Core.List.{List, [], ◌∷◌}
use mathlib.Core.Path.{◌≡◌, refl, sym, ap, ap₂, ◌∙◌}
use Prim.Native.Nat.{ℕ, ◌≤◌}
use native.Mathlib.Omega.{arith}
use borrow.Author.Tests.{eq-eqb, ne_eqb, eqb-true, leb-true, leb-false, lt-leb, le-ltb, lt-ltb}
use lib.Dec.{leb, ltb, eqb}
use lib.ListN.{length, get_or, take, drop}
use lib.Seq.{length-take-le}
use Rattle.std.specs.List.{list_all}
use Rattle.std.proofs.lemmas.List.{take-append-drop}
use Rattle.std.proofs.lemmas.List.Folds.{list_all-append}
use Rattle.rules.specs.Lists.{any}
use Rattle.rules.proofs.Lists.{both_true}
use Rattle.rules.proofs.Indices.{none-bad, each-good}
use Rattle.graph.specs.Fits.{ends_below, graph_fits, index_fits, EdgesIndexed}
use Rattle.graph.specs.Adjacency.{Below, Indexed}
use Rattle.graph.specs.Groups.{Between}

-- the ends that were tested are below n, and these are all
pub ends-all : (n : ℕ) (ends : List ℕ) → Below n ends → true ≡ ends_below n ends
unfolding ends_below
ends-all n ends h = none-bad 0 (leb n) ends (λ k i. lt-leb n (get_or ends k 0) (h k i))

pub ends-below : (n : ℕ) (ends : List ℕ) → ends_below n ends ≡ true → Below n ends
unfolding ends_below
ends-below n ends e k h = leb-false n (get_or ends k 0) (each-good 0 (leb n) ends e k h)

-- they are tested one by one
pub ends-listed : (n : ℕ) (ends : List ℕ) → list_all (λ e. ltb e n) ends ≡ ends_below n ends
unfolding ends_below any
ends-listed n [] = refl
ends-listed n (e ∷ ends) = go (leb n e) refl (ends-listed n ends)
  where
    go : (b : Bool) → leb n e ≡ b → list_all (λ e. ltb e n) ends ≡ not (any (leb n) ends) → (ltb e n && list_all (λ e. ltb e n) ends) ≡ not (b || any (leb n) ends)
    go true t h = rw (le-ltb e n (leb-true n e t)) refl
    go false t h = rw (lt-ltb e n (leb-false n e t)) h

-- where the first k pass, the others decide
module _ (n k : ℕ) (ends : List ℕ) where
  split : ends_below n ends ≡ (ends_below n (take k ends) && ends_below n (drop k ends))
  split =
      sym (ends-listed n ends) ∙ ap (list_all (λ e. ltb e n)) (sym (take-append-drop k ends)) ∙ list_all-append (λ e. ltb e n) (take k ends) (drop k ends)
      ∙ ap₂ (λ x y. x && y) (ends-listed n (take k ends)) (ends-listed n (drop k ends))

  pub front-fails : ends_below n (take k ends) ≡ false → ends_below n ends ≡ false
  front-fails e = split ∙ ap (λ x. x && ends_below n (drop k ends)) e

  pub front-passes : ends_below n (take k ends) ≡ true → ends_below n ends ≡ ends_below n (drop k ends)
  front-passes e = split ∙ ap (λ x. x && ends_below n (drop k ends)) e

-- what the tests say when all pass
pub record Fitted (sources sinks : List ℕ) (n head next order group : ℕ) : Type 0 where
  pub edges : Between sources sinks n
  pub heads : n ≤ head
  pub links : length sources ≤ next
  pub places : n ≤ order
  pub groups : n ≤ group

pub fitted : (sources sinks : List ℕ) (n head next order group : ℕ) → graph_fits sources sinks n head next order group ≡ true → Fitted sources sinks n head next order group
unfolding graph_fits
fitted sources sinks n head next order group e =
    let g = both_true _ (ends_below n sinks) e in
    let f = both_true _ (ends_below n sources) g.0 in
    let d = both_true _ (leb n group) f.0 in
    let c = both_true _ (leb n order) d.0 in
    let b = both_true _ (leb (length sources) next) c.0 in
    let a = both_true (eqb (length sinks) (length sources)) (leb n head) b.0 in
    record {
      edges = record { pairs = eqb-true _ _ a.0; low = ends-below n sources f.1; high = ends-below n sinks g.1 };
      heads = leb-true _ _ a.1;
      links = leb-true _ _ b.1;
      places = leb-true _ _ c.1;
      groups = leb-true _ _ d.1;
    }

-- the fronts of lists that fit
pub ruleset fitting = (fitted, length-take-le)

-- edges are linked only where the lists fit
module _ (ends head next : List ℕ) where
  pub index-misfit : (length next ≡ length ends → ⊥) → EdgesIndexed ends head next head next false
  unfolding index_fits
  index-misfit h = record { answer = simp (ne_eqb _ _ h); indexed = λ e. absurd (let z : ◌≡◌ {A = ℕ} 0 1 = cc in omega arith); refused = λ e. (refl, refl) }

  pub index-outside : length next ≡ length ends → false ≡ ends_below (length head) ends → EdgesIndexed ends head next head next false
  unfolding index_fits
  index-outside h e = record { answer = simp (eq-eqb _ _ h) e; indexed = λ q. absurd (let z : ◌≡◌ {A = ℕ} 0 1 = cc in omega arith); refused = λ q. (refl, refl) }

  pub index-done : length next ≡ length ends → true ≡ ends_below (length head) ends → (head' next' : List ℕ) → Indexed ends head' next' → EdgesIndexed ends head next head' next' true
  unfolding index_fits
  index-done h e head' next' i = record { answer = simp (eq-eqb _ _ h) e; indexed = λ q. i; refused = λ q. absurd (let z : ◌≡◌ {A = ℕ} 0 1 = cc in omega arith) }
