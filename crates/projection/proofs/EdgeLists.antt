-- Edges by their indices: those that leave a node, and how many there are at its ends. Assumes nothing.
use mathlib.Core.List.{List, ◌∷◌, map, map-id, flat_map, Memᴰ}
use mathlib.Core.Path.{◌≡◌, sym, ap, ◌∙◌}
use Prim.Native.Nat.{ℕ, ◌<◌}
use native.Mathlib.Decide.{dec_lt}
use native.Mathlib.Omega.{arith}
use lib.Dec.{eqb, eqb→eq}
use lib.ListN.{length, get_or, length-map}
use Rattle.rules.specs.Lists.{keep, count, indices}
use Rattle.rules.specs.Graph.{Edge, ◌⟶◌, sink_of, starts_at, in_count, out_count, edges_between}
use Rattle.rules.specs.Projection.{next}
use Rattle.rules.proofs.Lists.{keep_out, keep-map, map_same, flat-mapped}
use Rattle.rules.proofs.Indices.{by_index, indices-below}
use Rattle.rules.proofs.Counts.{count_map}
use Rattle.rules.proofs.Permutations.{keep-length}
use Rattle.graph.specs.Adjacency.{chain, leaving, Indexed}
use Rattle.graph.proofs.Chains.{chain-step, chain-end}
use Rattle.laws.proofs.PositionEdges.{edges_between-length, edges_between-at, edges_between-sinks}

module _ (sources sinks : List ℕ) (pairs : length sinks ≡ length sources) where
  abbrev es : List Edge
  es = edges_between sources sinks

  abbrev edge : ℕ → Edge
  edge i = get_or sources i 0 ⟶ get_or sinks i 0

  edges-made : es ≡ map edge (indices (length sources))
  edges-made =
      by_index es (0 ⟶ 0)
      ∙ ap (λ k. map (λ i. get_or es i (0 ⟶ 0)) (indices k)) (edges_between-length sources sinks (sym pairs))
      ∙ map_same _ edge (indices (length sources)) (λ i m. let h = indices-below (length sources) m in edges_between-at sources sinks i (0 ⟶ 0) h (omega (arith, pairs)))

  pub leaving-edges : (v : ℕ) → keep (starts_at v) (edges_between sources sinks) ≡ map (λ i. get_or sources i 0 ⟶ get_or sinks i 0) (leaving sources v)
  unfolding leaving
  leaving-edges v = ap (keep (starts_at v)) edges-made ∙ keep-map (starts_at v) edge (indices (length sources))

  -- those of some nodes, node by node
  pub leaving-rows : (vs : List ℕ) → map (λ i. get_or sources i 0 ⟶ get_or sinks i 0) (flat_map (leaving sources) vs) ≡ flat_map (λ v. keep (starts_at v) (edges_between sources sinks)) vs
  leaving-rows vs = sym (flat-mapped (λ v. keep (starts_at v) es) (λ v. v) edge (leaving sources) vs (λ v m. leaving-edges v)) ∙ ap (flat_map (λ v. keep (starts_at v) es)) (map-id vs)

  pub leaving-out : (v e : ℕ) → Memᴰ e (leaving sources v) → (e < length sources) × (get_or sources e 0 ≡ v)
  unfolding leaving
  leaving-out v e m = let k = keep_out (λ e. eqb (get_or sources e 0) v) (indices (length sources)) m in (indices-below (length sources) k.0, eqb→eq (get_or sources e 0) v k.1)

  pub out-count : (v : ℕ) → out_count (edges_between sources sinks) v ≡ length (leaving sources v)
  unfolding out_count
  out-count v = sym (keep-length (starts_at v) es) ∙ ap length (leaving-edges v) ∙ length-map (leaving sources v) edge

  pub in_count_lem : (v : ℕ) → in_count (edges_between sources sinks) v ≡ count (λ x. eqb x v) sinks
  unfolding in_count
  in_count_lem v = sym (count_map (λ x. eqb x v) sink_of es) ∙ ap (count (λ x. eqb x v)) (edges_between-sinks sources sinks (sym pairs))

  -- linked edges
  module _ (head next' : List ℕ) (index : Indexed sources head next') where
    -- where the one edge out of a node leads
    pub next-linked : (v : ℕ) → v < length head → out_count (edges_between sources sinks) v ≡ 1
        → (get_or head v 0 < length sources) × (get_or sinks (get_or head v 0) 0 ≡ next (edges_between sources sinks) v)
    unfolding next
    next-linked v h one = go (dec_lt (get_or head v 0) (length next'))
      where
        go : Dec (get_or head v 0 < length next') → (get_or head v 0 < length sources) × (get_or sinks (get_or head v 0) 0 ≡ get_or (map sink_of (keep (starts_at v) es)) 0 v)
        go (yes k) =
            let q : leaving sources v ≡ get_or head v 0 ∷ chain next' (get_or next' (get_or head v 0) 0) = sym (index.lists v h) ∙ chain-step next' index.rises (get_or head v 0) k in
            (omega (arith, k, index.links), sym (ap (λ l. get_or (map sink_of l) 0 v) (leaving-edges v ∙ ap (map edge) q)))
        go (no k) = absurd (omega (arith, one, out-count v, ap length (sym (index.lists v h) ∙ chain-end next' (get_or head v 0) (omega (arith, k)))))
