-- The edges of a scene over positions: how they are made one by one, and Feedback by positions and marks. Assumes nothing.
use mathlib.Core.Bool.{Bool, not, cond, ◌&&◌}
use mathlib.Core.List.Memᴰ
use mathlib.Core.List.{List, [], ◌∷◌, ◌++◌, map, map-map, map-append, append-nil, Memᴰ}
use mathlib.Core.Path.{◌≡◌, refl, sym, ap, ap₂, subst, ◌∙◌}
use mathlib.Core.Logic.{⊎_elim}
use Prim.Native.Nat.{ℕ, zero, suc, ◌<◌}
use native.Mathlib.Omega.{arith}
use lib.Dec.{T, eqb}
use lib.ListN.{length, get_or}
use Rattle.rules.specs.Lists.{keep, indices, Distinct}
use Rattle.rules.specs.Graph.{Edge, ◌⟶◌, source_of, sink_of, strongly_connected, edges_between, shares_component, shared_marks}
use Rattle.rules.specs.Scene.{Connection, ComponentLists, component_at, components_of, is_edge, edge_of, edges_of, id_of, row_of}
use Rattle.rules.specs.Reasons.{passive, other_in, in_feedback, feedback}
use Rattle.rules.proofs.Lists.{chosen, not_chosen, any_same, any-map, keep_same, keep-map, keep_append}
use Rattle.rules.specs.Positions.{id_at, named, Inside, Positioned}
use Rattle.rules.proofs.Indices.{at_mem, indices-below, distinct-at}
use Rattle.rules.proofs.SharedComponents.{marks-at}
use Rattle.laws.proofs.Renaming.{same-named, connected-named}

-- Edges by two lists of ends

pub edges_between-append : (a b : List ℕ) (x y : ℕ) → length a ≡ length b → edges_between (a ++ (x ∷ [])) (b ++ (y ∷ [])) ≡ edges_between a b ++ ((x ⟶ y) ∷ [])
unfolding edges_between
edges_between-append [] [] x y e = refl
edges_between-append [] (c ∷ b) x y e = absurd (omega arith)
edges_between-append (c ∷ a) [] x y e = absurd (omega arith)
edges_between-append (c ∷ a) (d ∷ b) x y e = ap (λ l. (c ⟶ d) ∷ l) (edges_between-append a b x y (omega arith))

pub edges_between-length : (a b : List ℕ) → length a ≡ length b → length (edges_between a b) ≡ length a
unfolding edges_between
edges_between-length [] b e = refl
edges_between-length (c ∷ a) [] e = absurd (omega arith)
edges_between-length (c ∷ a) (d ∷ b) e = ap suc (edges_between-length a b (omega arith))

pub edges_between-at : (a b : List ℕ) (i : ℕ) (d : Edge) → i < length a → i < length b → get_or (edges_between a b) i d ≡ get_or a i 0 ⟶ get_or b i 0
unfolding edges_between
edges_between-at [] b i d h k = absurd (omega arith)
edges_between-at (x ∷ a) [] i d h k = absurd (omega arith)
edges_between-at (x ∷ a) (y ∷ b) zero d h k = refl
edges_between-at (x ∷ a) (y ∷ b) (suc i) d h k = edges_between-at a b i d (omega arith) (omega arith)

-- the sources and the sinks are the two lists
pub edges_between-sources : (a b : List ℕ) → length a ≡ length b → map source_of (edges_between a b) ≡ a
unfolding edges_between
edges_between-sources [] b e = refl
edges_between-sources (c ∷ a) [] e = absurd (omega arith)
edges_between-sources (c ∷ a) (d ∷ b) e = ap (λ l. c ∷ l) (edges_between-sources a b (omega arith))

pub edges_between-sinks : (a b : List ℕ) → length a ≡ length b → map sink_of (edges_between a b) ≡ b
unfolding edges_between
edges_between-sinks [] [] e = refl
edges_between-sinks [] (d ∷ b) e = absurd (omega arith)
edges_between-sinks (c ∷ a) [] e = absurd (omega arith)
edges_between-sinks (c ∷ a) (d ∷ b) e = ap (λ l. d ∷ l) (edges_between-sinks a b (omega arith))

-- the ends of all edges are below n if the entries of both lists are; for lists of one length also only if
pub edges_between-inside : (n : ℕ) (a b : List ℕ) → ((i : ℕ) → i < length a → get_or a i 0 < n) → ((i : ℕ) → i < length b → get_or b i 0 < n) → Inside n (edges_between a b)
unfolding edges_between
edges_between-inside n [] b h k e m = absurd (Memᴰ.not-nil m)
edges_between-inside n (x ∷ a) [] h k e m = absurd (Memᴰ.not-nil m)
edges_between-inside n (x ∷ a) (y ∷ b) h k e m =
    ⊎_elim (λ q. subst (λ e. (source_of e < n) × (sink_of e < n)) (sym q) (h 0 (omega arith), k 0 (omega arith)))
    (edges_between-inside n a b (λ i l. h (suc i) (omega arith)) (λ i l. k (suc i) (omega arith)) e) (Memᴰ.cases_cons m)

module _ (n : ℕ) (a b : List ℕ) (same : length a ≡ length b) (inside : Inside n (edges_between a b)) where
  ends_at : (i : ℕ) → i < length a → (get_or a i 0 < n) × (get_or b i 0 < n)
  ends_at i h =
      subst (λ e. (source_of e < n) × (sink_of e < n)) (edges_between-at a b i (0 ⟶ 0) h (omega arith))
      (inside _ (at_mem (0 ⟶ 0) (edges_between a b) i (omega (arith, edges_between-length a b same))))

  pub inside-sources : (i : ℕ) → i < length a → get_or a i 0 < n
  inside-sources i h = (ends_at i h).0

  pub inside-sinks : (i : ℕ) → i < length b → get_or b i 0 < n
  inside-sinks i h = (ends_at i (omega arith)).1

-- The edges over positions: with the ids of their ends they are the edges over ids

-- one by one, as the connections are gone through
inside-append : (n : ℕ) (ps : List Edge) (x y : ℕ) → Inside n ps → x < n → y < n → Inside n (ps ++ ((x ⟶ y) ∷ []))
inside-append n ps x y inside h k e m =
    ⊎_elim (inside e) (λ s. subst (λ e. (source_of e < n) × (sink_of e < n)) (sym (Memᴰ.eq_of_singleton s)) (h, k)) (Memᴰ.append_cases ps m)

edges-append : (ns ms : List Connection) → edges_of (ns ++ ms) ≡ edges_of ns ++ edges_of ms
unfolding edges_of
edges-append ns ms = ap (map edge_of) (keep_append is_edge ns ms) ∙ map-append edge_of (keep is_edge ns) (keep is_edge ms)

edge-one : (n : Connection) → T (is_edge n) → edges_of (n ∷ []) ≡ edge_of n ∷ []
unfolding edges_of keep
edge-one n t = ap (map edge_of) (chosen (n ∷ []) [] (is_edge n) t)

edge_none : (n : Connection) → (T (is_edge n) → ⊥) → edges_of (n ∷ []) ≡ []
unfolding edges_of keep
edge_none n h = ap (map edge_of) (not_chosen (n ∷ []) [] (is_edge n) h)

module _ (ids : List ℕ) where
  pub positioned-start : Positioned ids (edges_of []) []
  unfolding edges_of keep
  positioned-start = record { inside = λ e m. absurd (Memᴰ.not-nil m); names = refl }

  module _ (ns : List Connection) (ps : List Edge) (before : Positioned ids (edges_of ns) ps) (n : Connection) where
    pub positioned-edge : T (is_edge n) → (x y : ℕ) → x < length ids → get_or ids x 0 ≡ n.source → y < length ids → get_or ids y 0 ≡ n.sink
        → Positioned ids (edges_of (ns ++ (n ∷ []))) (ps ++ ((x ⟶ y) ∷ []))
    positioned-edge t x y h p k q = record {
      inside = inside-append (length ids) ps x y before.inside h k;
      names = map-append (named (id_at ids)) ps ((x ⟶ y) ∷ []) ∙ ap₂ ◌++◌ before.names (cc (p, q)) ∙ sym (edges-append ns (n ∷ []) ∙ ap (λ l. edges_of ns ++ l) (edge-one n t));
    }

    pub positioned-support : (T (is_edge n) → ⊥) → Positioned ids (edges_of (ns ++ (n ∷ []))) ps
    positioned-support h = record {
      inside = before.inside;
      names = before.names ∙ sym (edges-append ns (n ∷ []) ∙ ap (λ l. edges_of ns ++ l) (edge_none n h) ∙ append-nil (edges_of ns));
    }

-- Feedback by positions

module _ (l : ComponentLists) (distinct : Distinct l.ids) (es positions : List Edge) (at : Positioned l.ids es positions) where
  abbrev all : List ℕ
  all = indices (length l.ids)

  abbrev active : ℕ → Bool
  active i = not (passive (row_of (component_at l i)).node)

  -- a component passes the Feedback test exactly if it is neither wire nor conductor and its position shares its strongly connected component
  pub feedback-at : (i : ℕ) → i < length l.ids
      → in_feedback (components_of l) (strongly_connected es) (component_at l i) ≡ (not (passive (row_of (component_at l i)).node) && shares_component positions (length l.ids) i)
  unfolding in_feedback components_of component_at shares_component
  feedback-at i h = ap (λ b. active i && b) (any-map (other_in (strongly_connected es) (get_or l.ids i 0)) (component_at l) all ∙ any_same _ _ all other)
    where
      other : (w : ℕ) → Memᴰ w all → other_in (strongly_connected es) (get_or l.ids i 0) (component_at l w) ≡ (not (eqb w i) && strongly_connected positions i w)
      other w m =
          let k = indices-below (length l.ids) m in
          let apart = distinct-at 0 l.ids distinct in
          rw (← at.names) (ap₂ (λ s t. not s && t) (same-named (id_at l.ids) (length l.ids) apart w i k h) (connected-named (id_at l.ids) (length l.ids) apart positions at.inside i w h k))

  -- list 4: the ids of the positions that do
  pub feedback-by-position : feedback (components_of l) es
      ≡ map (id_at l.ids) (keep (λ i. not (passive (row_of (component_at l i)).node) && shares_component positions (length l.ids) i) (indices (length l.ids)))
  unfolding feedback components_of component_at
  feedback-by-position =
      ap (map id_of) (keep-map (in_feedback (components_of l) (strongly_connected es)) (component_at l) all ∙ ap (map (component_at l)) (keep_same _ _ all (λ i m. feedback-at i (indices-below (length l.ids) m))))
      ∙ map-map id_of (component_at l) (keep (λ i. active i && shares_component positions (length l.ids) i) all)

-- The mark of a position

module _ (es : List Edge) (n : ℕ) (marks : List ℕ) (marked : marks ≡ shared_marks es n) (i : ℕ) (h : i < n) where
  pub mark-at : get_or marks i 0 ≡ cond (shares_component es n i) 1 0
  mark-at = ap (λ l. get_or l i 0) marked ∙ marks-at es n i h
