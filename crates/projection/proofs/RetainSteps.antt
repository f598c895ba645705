-- Edges are linked and counted, nodes marked, and first edges listed, one pass after another. Assumes nothing.
use mathlib.Core.Bool.{Bool, true, false, not, cond, ◌&&◌}
use mathlib.Core.List.{List, [], ◌∷◌, ◌++◌, flat_map, Memᴰ}
use mathlib.Core.Path.{◌≡◌, refl, sym, ap, ap₂, subst, ◌∙◌, fun_ext}
use Prim.Native.Nat.{ℕ, ◌<◌, ◌≤◌}
use native.Mathlib.Decide.{dec_lt}
use native.Mathlib.Omega.{arith}
use borrow.Author.Tests.{eq-eqb}
use lib.Dec.{T, eqb, eqb→eq}
use lib.ListN.{length, get_or, take, drop, length-map, get_or-eq_default}
use lib.Seq.{length-take-le, take_at}
use Rattle.std.specs.Cmp.Derive.{both_true}
use Rattle.rules.specs.Lists.{keep, indices}
use Rattle.rules.specs.Ordered.{key_at}
use Rattle.rules.specs.Graph.{Edge, ◌⟶◌, in_count, out_count, edges_between}
use Rattle.rules.proofs.Lists.{and_left, and_right, keep_out, map_same}
use Rattle.rules.proofs.Counts.{count_same}
use Rattle.rules.proofs.Indices.{indices-below, made-length, made_at, mem-at}
use Rattle.laws.proofs.PositionEdges.{edges_between-length, edges_between-inside}
use Rattle.graph.specs.Adjacency.{Indexed, leaving}
use Rattle.graph.specs.EndCounts.{EndsCounted}
use Rattle.graph.specs.Fits.{EdgesIndexed, index_fits}
use Rattle.graph.proofs.Fitting.{ends-all}
use Rattle.projection.specs.Entries.{compressed_node, node_marks, retained_count}
use Rattle.projection.specs.Marking.{linked, compressed_by, Marked, through, firsts_by, Listable, RowWritten, Retainable, Retaining}
use Rattle.projection.proofs.NodeScenes.{firsts-few}
use Rattle.projection.proofs.EdgeLists.{leaving-rows, in_count_lem, out-count}

mark-test : (b : Bool) → eqb (cond b 0 1) 0 ≡ b
mark-test true = refl
mark-test false = refl

-- What marks say of the nodes

module _ (sources sinks compressible : List ℕ) (marks : List ℕ) (marked : marks ≡ node_marks (edges_between sources sinks) compressible (length compressible)) where
  abbrev es : List Edge
  es = edges_between sources sinks

  pub marks-length : length marks ≡ length compressible
  unfolding node_marks
  marks-length = ap length marked ∙ made-length _ (length compressible)

  pub through_same : through marks ≡ compressed_node (edges_between sources sinks) compressible
  unfolding node_marks
  through_same = fun_ext (λ v. go v (dec_lt v (length compressible)))
    where
      past : (x : ℕ) (b : Bool) → x ≡ 0 → false ≡ (not (eqb x 0) && b)
      past x b e = rw e refl

      go : (v : ℕ) → Dec (v < length compressible) → through marks v ≡ compressed_node es compressible v
      go v (yes h) = ap (λ m. eqb (get_or m v 1) 0) marked ∙ ap (λ k. eqb k 0) (made_at (λ v. cond (compressed_node es compressible v) 0 1) (length compressible) v 1 h) ∙ mark-test (compressed_node es compressible v)
      go v (no h) =
          ap (λ k. eqb k 0) (get_or-eq_default marks 1 {n = v} (omega (arith, marks-length, h)))
          ∙ past (key_at compressible v) (eqb (in_count es v) 1 && eqb (out_count es v) 1) (get_or-eq_default compressible 0 {n = v} (omega (arith, h)))

  pub through-inside : (v : ℕ) → T (through marks v) → v < length compressible
  through-inside v t = go (dec_lt v (length compressible))
    where
      go : Dec (v < length compressible) → v < length compressible
      go (yes h) = h
      go (no h) = absurd (subst T (ap (λ k. eqb k 0) (get_or-eq_default marks 1 {n = v} (omega (arith, marks-length, h)))) t)

  both_ways : (v : ℕ) → T (through marks v) → T (eqb (in_count es v) 1 && eqb (out_count es v) 1)
  both_ways v t = and_right (not (eqb (key_at compressible v) 0)) (eqb (in_count es v) 1 && eqb (out_count es v) 1) (subst (λ f. T (f v)) through_same t)

  pub through-in : (v : ℕ) → T (through marks v) → in_count (edges_between sources sinks) v ≡ 1
  through-in v t = eqb→eq (in_count es v) 1 (and_left (eqb (in_count es v) 1) (eqb (out_count es v) 1) (both_ways v t))

  pub through-out : (v : ℕ) → T (through marks v) → out_count (edges_between sources sinks) v ≡ 1
  through-out v t = eqb→eq (out_count es v) 1 (and_right (eqb (in_count es v) 1) (eqb (out_count es v) 1) (both_ways v t))

-- The passes

flat-same : (f g : ℕ → List ℕ) (vs : List ℕ) → ((v : ℕ) → Memᴰ v vs → f v ≡ g v) → flat_map f vs ≡ flat_map g vs
unfolding flat_map
flat-same f g [] h = refl
flat-same f g (v ∷ vs) h = ap₂ ◌++◌ (h v (Memᴰ.head refl)) (flat-same f g vs (λ w m. h w (Memᴰ.tail m)))

module _ {sources sinks compressible order marks head next incoming firsts : List ℕ} (R : Retainable sources sinks compressible order marks head next incoming firsts) where
  abbrev n : ℕ
  n = length compressible

  abbrev joins : List Edge
  joins = edges_between sources sinks

  -- the edges are linked
  module _ {head' next' : List ℕ} {r : Bool} (indexed : EdgesIndexed sources head (take (length sources) next) head' next' r) (heads : length head' ≡ length head) where
    pub index : Indexed sources head' next'
    unfolding index_fits
    index = indexed.indexed (indexed.answer ∙ both_true (eq-eqb (length (take (length sources) next)) (length sources) (length-take-le _ _ R.links)) (sym (ends-all (length head) sources (λ k h. omega (arith, R.sources_below k h, R.heads)))))

    -- in the front of the list that is lent for them
    pub cut : take (length sources) (next' ++ drop (length sources) next) ≡ next'
    cut = take_at next' (drop (length sources) next) (length sources) index.links

    -- and counted
    module _ (incoming' : List ℕ) (counted : EndsCounted sinks incoming') (counts : length incoming' ≡ length incoming) where
      same-node : (v : ℕ) → v < n → compressed_by compressible incoming' head' next' v ≡ compressed_node joins compressible v
      same-node v h = rw (
        counted v (omega (arith, R.counts, counts)) ∙ sym (in_count_lem sources sinks R.pairs v),
        ap length (index.lists v (omega (arith, R.heads, heads))) ∙ sym (out-count sources sinks R.pairs v),
      )

      -- the nodes are marked
      module _ {marks' : List ℕ} {nodes : ℕ} (M : Marked compressible incoming' head' next' marks' nodes) where
        marks-are : marks' ≡ node_marks joins compressible n
        unfolding node_marks
        marks-are = M.each ∙ map_same _ _ (indices n) (λ v m. ap (λ b. cond b 0 1) (same-node v (indices-below n m)))

        retained-are : nodes ≡ retained_count joins compressible n
        unfolding retained_count
        retained-are = M.kept ∙ count_same _ _ (indices n) (λ v m. ap not (same-node v (indices-below n m)))

        firsts-are : firsts_by (linked head' next') marks' order ≡ firsts_by (leaving sources) marks' order
        unfolding firsts_by
        firsts-are = flat-same (linked head' next') (leaving sources) (keep (λ v. not (through marks' v)) order) (λ v m.
            let i = mem-at 0 (keep_out (λ v. not (through marks' v)) order m).0 in
            index.lists v (omega (arith, R.order_below i.0 i.1, i.2, R.heads, heads)))

        few : length (firsts_by (leaving sources) marks' order) ≤ length sources
        unfolding firsts_by
        few = omega (
          arith,
          length-map (flat_map (leaving sources) (keep (λ v. not (through marks' v)) order)) (λ i. get_or sources i 0 ⟶ get_or sinks i 0),
          ap length (leaving-rows sources sinks R.pairs (keep (λ v. not (through marks' v)) order)),
          firsts-few joins n (edges_between-inside n sources sinks R.sources_below R.sinks_below) (through marks') (through-in sources sinks compressible marks' marks-are) (through-out sources sinks compressible marks' marks-are) order R.once,
          edges_between-length sources sinks (sym R.pairs),
        )

        pub listable : Listable head' next' marks' order firsts
        listable = record {
          heads = omega (arith, marks-length sources sinks compressible marks' marks-are, R.heads, heads);
          nodes = λ k h. omega (arith, marks-length sources sinks compressible marks' marks-are, R.order_below k h);
          room = omega (arith, ap length firsts-are, few, R.room);
        }

        -- the first edges are listed
        pub retaining : {firsts' : List ℕ} {edges : ℕ} → RowWritten (firsts_by (linked head' next') marks' order) 0 firsts firsts' edges
            → Retaining sources sinks compressible order firsts marks' head' firsts' nodes edges
        retaining w = record { links = next'; linked = index; heads = omega (arith, R.heads, heads); marked = marks-are; retained = retained-are; listed = rw firsts-are at w }
