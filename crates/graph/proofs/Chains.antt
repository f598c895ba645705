-- Chains of edges: their steps, a store below them, and the edges that they list while the links are made. Assumes nothing.
use mathlib.Core.Bool.{Bool, true, false, cond}
use mathlib.Core.List.{List, [], ◌∷◌, ◌++◌, map, append_assoc, append-nil}
use mathlib.Core.Path.{◌≡◌, refl, sym, ap, ◌∙◌}
use Prim.Native.Nat.{ℕ, zero, suc, ◌+◌, ◌-◌, ◌<◌, ◌≤◌}
use native.Mathlib.Decide.{ℕ_discrete}
use native.Mathlib.Nat.{le_refl, lt-suc_self}
use native.Mathlib.Omega.{arith}
use borrow.Author.Tests.{ltb-true, lt-ltb, le-ltb, eq-eqb, ne_eqb}
use lib.Dec.{eqb, ltb}
use lib.ListN.{length, get_or, set, replicate, length-set, length-append, length-map, get_or-replicate}
use lib.Seq.{get_or-set_other, get_or-set_same}
use Rattle.std.specs.Prelude.{Some, None}
use Rattle.rules.specs.Lists.{keep, from, indices}
use Rattle.rules.proofs.Indices.{from_next, from_end}
use Rattle.graph.specs.declared.chain.Chain.{Chain}
use Rattle.graph.specs.Chained.{chain_steps}
use Rattle.graph.specs.Adjacency.{follow, chain, edges_left, leaving, Rises, ends, Indexed}

-- from lo on each link leads to a later edge
abbrev RisesFrom : ℕ → List ℕ → Type 0
RisesFrom lo next = (e : ℕ) → lo ≤ e → e < length next → e < get_or next e 0

module _ (next : List ℕ) (lo : ℕ) (up : RisesFrom lo next) where
  follow-same : (f g e : ℕ) → lo ≤ e → length next ≤ e + f → length next ≤ e + g → follow f next e ≡ follow g next e
  unfolding follow
  follow-same zero zero e l p q = refl
  follow-same zero (suc g) e l p q = rw (le-ltb e (length next) (omega arith))
  follow-same (suc f) zero e l p q = rw (le-ltb e (length next) (omega arith))
  follow-same (suc f) (suc g) e l p q = go (ltb e (length next)) refl (λ lt. follow-same f g (get_or next e 0) (omega (arith, up e l lt)) (omega (arith, up e l lt)) (omega (arith, up e l lt)))
    where
      go : (b : Bool) → ltb e (length next) ≡ b → (e < length next → follow f next (get_or next e 0) ≡ follow g next (get_or next e 0))
          → cond b (e ∷ follow f next (get_or next e 0)) [] ≡ cond b (e ∷ follow g next (get_or next e 0)) []
      go true t ih = ap (λ r. e ∷ r) (ih (ltb-true _ _ t))
      go false t ih = refl

  step_from : (e : ℕ) → lo ≤ e → e < length next → chain next e ≡ e ∷ chain next (get_or next e 0)
  unfolding chain follow
  step_from e l lt =
      follow-same (length next - e) (suc (length next)) e l (omega arith) (omega arith)
      ∙ rw (lt-ltb e (length next) lt) (ap (λ r. e ∷ r) (follow-same (length next) (length next - get_or next e 0) (get_or next e 0) (omega (arith, up e l lt)) (omega arith) (omega arith)))

  follow-set : (f j x e : ℕ) → j < lo → lo ≤ e → follow f (set next j x) e ≡ follow f next e
  unfolding follow
  follow-set zero j x e h l = refl
  follow-set (suc f) j x e h l =
      rw (length-set next j x, get_or-set_other next j e x 0 (λ eq. omega arith))
      (go (ltb e (length next)) refl (λ lt. follow-set f j x (get_or next e 0) h (omega (arith, up e l lt))))
    where
      go : (b : Bool) → ltb e (length next) ≡ b → (e < length next → follow f (set next j x) (get_or next e 0) ≡ follow f next (get_or next e 0))
          → cond b (e ∷ follow f (set next j x) (get_or next e 0)) [] ≡ cond b (e ∷ follow f next (get_or next e 0)) []
      go true t ih = ap (λ r. e ∷ r) (ih (ltb-true _ _ t))
      go false t ih = refl

  -- a link that is set below a chain leaves the chain as it was
  chain-set : (j x e : ℕ) → j < lo → lo ≤ e → chain (set next j x) e ≡ chain next e
  unfolding chain
  chain-set j x e h l = rw (length-set next j x) (follow-set (length next - e) j x e h l)

-- a chain begins with its edge, or it is at its end
pub chain-step : (next : List ℕ) → Rises next → (e : ℕ) → e < length next → chain next e ≡ e ∷ chain next (get_or next e 0)
chain-step next up e lt = step_from next 0 (λ k l h. up k h) e (omega arith) lt

pub chain-end : (next : List ℕ) (e : ℕ) → length next ≤ e → chain next e ≡ []
unfolding chain follow
chain-end next e h = ap (λ f. follow f next e) (let z : length next - e ≡ 0 = omega arith in z)

ends-step : (next sinks : List ℕ) (e : ℕ) → Rises next → e < length next → ends next sinks e ≡ get_or sinks e 0 ∷ ends next sinks (get_or next e 0)
unfolding ends
ends-step next sinks e up lt = ap (map (λ k. get_or sinks k 0)) (chain-step next up e lt)

ends-end : (next sinks : List ℕ) (e : ℕ) → length next ≤ e → ends next sinks e ≡ []
unfolding ends
ends-end next sinks e h = ap (map (λ k. get_or sinks k 0)) (chain-end next e h)

follow-most : (f : ℕ) (next : List ℕ) (e : ℕ) → length (follow f next e) ≤ f
unfolding follow
follow-most zero next e = omega arith
follow-most (suc f) next e = go (ltb e (length next)) (follow-most f next (get_or next e 0))
  where
    go : (b : Bool) → length (follow f next (get_or next e 0)) ≤ f → length (cond b (e ∷ follow f next (get_or next e 0)) []) ≤ suc f
    go true h = omega (arith, h)
    go false h = omega arith

pub edges_left-most : (next : List ℕ) (e : ℕ) → edges_left next e ≤ length next
unfolding edges_left chain
edges_left-most next e = omega (arith, follow-most (length next - e) next e)

-- on the way along the chain from f on, which is now at e, the ends us were met
abbrev pub Passed : (next sinks us : List ℕ) (f e : ℕ) → Type 0
Passed next sinks us f e = us ++ ends next sinks e ≡ ends next sinks f

module _ (next sinks us : List ℕ) (f e : ℕ) (p : Passed next sinks us f e) where
  pub passed-more : Rises next → e < length next → Passed next sinks (us ++ (get_or sinks e 0 ∷ [])) f (get_or next e 0)
  passed-more up lt = append_assoc us (get_or sinks e 0 ∷ []) (ends next sinks (get_or next e 0)) ∙ ap (λ l. us ++ l) (sym (ends-step next sinks e up lt)) ∙ p

  -- where it is at an edge, the chain has one
  pub passed-some : Rises next → e < length next → 0 < edges_left next f
  unfolding ends edges_left
  passed-some up lt = omega (arith, ap length p, length-append us (ends next sinks e), ap length (ends-step next sinks e up lt), length-map (chain next f) (λ k. get_or sinks k 0))

  pub passed-all : length next ≤ e → us ≡ ends next sinks f
  passed-all over = sym (append-nil us) ∙ ap (λ l. us ++ l) (sym (ends-end next sinks e over)) ∙ p

-- the edges from lo on that leave u
pub leaving_from : ℕ → List ℕ → ℕ → List ℕ
leaving_from lo sources u = keep (λ e. eqb (get_or sources e 0) u) (from lo (length sources - lo))

leaving-more : (sources : List ℕ) (e u : ℕ) → e < length sources → leaving_from e sources u ≡ cond (eqb (get_or sources e 0) u) (e ∷ leaving_from (suc e) sources u) (leaving_from (suc e) sources u)
unfolding leaving_from keep
leaving-more sources e u h = rw (from_next e (length sources) h)

leaving-none : (sources : List ℕ) (u : ℕ) → leaving_from (length sources) sources u ≡ []
unfolding leaving_from keep
leaving-none sources u = rw (from_end (length sources))

leaving-whole : (sources : List ℕ) (u : ℕ) → leaving_from 0 sources u ≡ leaving sources u
unfolding leaving_from leaving indices
leaving-whole sources u = ap (λ n. keep (λ e. eqb (get_or sources e 0) u) (from 0 n)) (let z : length sources - 0 ≡ length sources = omega arith in z)

-- the edges from lo on are linked
pub record LinkedFrom (lo : ℕ) (sources head next : List ℕ) : Type 0 where
  pub up : RisesFrom lo next
  pub after : (u : ℕ) → u < length head → lo ≤ get_or head u 0
  pub lists : (u : ℕ) → u < length head → chain next (get_or head u 0) ≡ leaving_from lo sources u

pub linked-none : (sources head next : List ℕ) → length next ≡ length sources → head ≡ replicate (length head) (length sources) → LinkedFrom (length sources) sources head next
linked-none sources head next size clear = record {
  up = λ e l h. omega arith;
  after = λ u h. omega (arith, at u h);
  lists = λ u h. chain-end next (get_or head u 0) (omega (arith, at u h)) ∙ sym (leaving-none sources u);
}
  where
    at : (u : ℕ) → u < length head → get_or head u 0 ≡ length sources
    at u h = ap (λ l. get_or l u 0) clear ∙ get_or-replicate (length head) u (length sources) 0 h

-- the edge i, which leaves s, is put in front of the chain of s
module _ (sources head next : List ℕ) (i s : ℕ) (at : get_or sources i 0 ≡ s) (h : i < length sources) (size : length next ≡ length sources) (l : s < length head) (was : LinkedFrom (suc i) sources head next) where
  step-up : RisesFrom i (set next i (get_or head s 0))
  step-up e le lt = go (ℕ_discrete e i)
    where
      go : Dec (e ≡ i) → e < get_or (set next i (get_or head s 0)) e 0
      go (yes p) = rw (p, get_or-set_same next i (get_or head s 0) 0 (omega arith)) (was.after s l)
      go (no q) = rw (get_or-set_other next i e (get_or head s 0) 0 q) (was.up e (omega (arith, q)) (rw length-set at lt))

  step_after : (u : ℕ) → u < length (set head s i) → i ≤ get_or (set head s i) u 0
  step_after u lt = go (ℕ_discrete u s)
    where
      go : Dec (u ≡ s) → i ≤ get_or (set head s i) u 0
      go (yes p) = rw (p, get_or-set_same head s i 0 l) (omega arith)
      go (no q) = rw (get_or-set_other head s u i 0 q) (omega (arith, was.after u (rw length-set at lt)))

  -- the chain of s: the edge, then the chain as it was
  at_source : chain (set next i (get_or head s 0)) i ≡ i ∷ leaving_from (suc i) sources s
  at_source =
      step_from (set next i (get_or head s 0)) i step-up i (le_refl i) (rw length-set (omega arith))
      ∙ rw (get_or-set_same next i (get_or head s 0) 0 (omega arith), chain-set next (suc i) was.up i (get_or head s 0) (get_or head s 0) (lt-suc_self i) (was.after s l), was.lists s l)

  step-lists : (u : ℕ) → u < length (set head s i) → chain (set next i (get_or head s 0)) (get_or (set head s i) u 0) ≡ leaving_from i sources u
  step-lists u lt = rw (leaving-more sources i u h, at) (go (ℕ_discrete u s))
    where
      go : Dec (u ≡ s) → chain (set next i (get_or head s 0)) (get_or (set head s i) u 0) ≡ cond (eqb s u) (i ∷ leaving_from (suc i) sources u) (leaving_from (suc i) sources u)
      go (yes p) = rw (p, get_or-set_same head s i 0 l, eq-eqb s s refl) at_source
      go (no q) =
          rw (get_or-set_other head s u i 0 q, ne_eqb s u (λ r. q (sym r)), chain-set next (suc i) was.up i (get_or head s 0) (get_or head u 0) (lt-suc_self i) (was.after u (rw length-set at lt)))
          (was.lists u (rw length-set at lt))

  pub linked-more : LinkedFrom i sources (set head s i) (set next i (get_or head s 0))
  linked-more = record { up = step-up; after = step_after; lists = step-lists }

pub linked-whole : (sources head next : List ℕ) → length next ≡ length sources → LinkedFrom 0 sources head next → Indexed sources head next
linked-whole sources head next size was = record { links = size; rises = λ e lt. was.up e (omega arith) lt; lists = λ u h. was.lists u h ∙ leaving-whole sources u }

-- one step along a chain of links that are known
module _ (next : List ℕ) (s : Chain) (same : s.next.now ≡ next) where
  pub step-on : (e : ℕ) (t : Chain) → chain_steps s (Some e) t → (e < length next) × (s.at ≡ e) × (t.next.now ≡ next) × (t.at ≡ get_or next e 0)
  step-on e t h = (omega (arith, h.1.0, h.1.1, ap length same), sym h.1.0, h.0 ∙ same, h.1.2 ∙ ap (λ l. get_or l s.at 0) same ∙ ap (λ k. get_or next k 0) (sym h.1.0))

  pub step-end : (t : Chain) → chain_steps s None t → length next ≤ s.at
  step-end t h = omega (arith, h.1.0, ap length same)
