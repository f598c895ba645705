-- The neighbours that linked edges list are where the edges lead. Assumes nothing.
use mathlib.Core.List.Memᴰ
use mathlib.Core.List.{List, [], ◌∷◌, map, Memᴰ}
use mathlib.Core.Logic.{⊎_elim}
use mathlib.Core.Path.{◌≡◌, refl, sym, ap, subst}
use Prim.Native.Nat.{ℕ, zero, suc, ◌<◌}
use native.Mathlib.Omega.{arith}
use lib.Dec.{eqb, eqb→eq}
use lib.ListN.{length, get_or}
use Rattle.rules.specs.Graph.{Edge, ◌⟶◌, source_of, sink_of, edges_between, Walk, stop, step}
use Rattle.rules.proofs.Lists.{keep-in, keep_out, eq_test}
use Rattle.rules.proofs.Indices.{indices-below, below-indices}
use Rattle.graph.specs.Adjacency.{Indexed, leaving, ends, neighbours}
use Rattle.graph.specs.Groups.{Between}

-- the ends of an edge that two lists give
record Joins (sources sinks : List ℕ) (u v : ℕ) : Type 0 where
  pub at : ℕ
  pub listed : at < length sources
  pub paired : at < length sinks
  pub source : get_or sources at 0 ≡ u
  pub sink : get_or sinks at 0 ≡ v

joins-more : (a b : ℕ) (sources sinks : List ℕ) {u v : ℕ} → Joins sources sinks u v → Joins (a ∷ sources) (b ∷ sinks) u v
joins-more a b sources sinks j = record { at = suc j.at; listed = omega (arith, j.listed); paired = omega (arith, j.paired); source = j.source; sink = j.sink }

edge-joins : (sources sinks : List ℕ) {u v : ℕ} → Memᴰ (u ⟶ v) (edges_between sources sinks) → Joins sources sinks u v
unfolding edges_between
edge-joins [] sinks m = absurd (Memᴰ.not-nil m)
edge-joins (a ∷ sources) [] m = absurd (Memᴰ.not-nil m)
edge-joins (a ∷ sources) (b ∷ sinks) m =
    ⊎_elim
    (λ e. record { at = 0; listed = omega arith; paired = omega arith; source = sym (ap source_of e); sink = sym (ap sink_of e) })
    (λ k. joins-more a b sources sinks (edge-joins sources sinks k))
    (Memᴰ.cases_cons m)

edge_at : (sources sinks : List ℕ) (i : ℕ) → i < length sources → i < length sinks → Memᴰ (get_or sources i 0 ⟶ get_or sinks i 0) (edges_between sources sinks)
unfolding edges_between
edge_at [] sinks i h k = absurd (omega arith)
edge_at (a ∷ sources) [] i h k = absurd (omega arith)
edge_at (a ∷ sources) (b ∷ sinks) zero h k = Memᴰ.head refl
edge_at (a ∷ sources) (b ∷ sinks) (suc i) h k = Memᴰ.tail (edge_at sources sinks i (omega arith) (omega arith))

joins-edge : (sources sinks : List ℕ) {u v : ℕ} → Joins sources sinks u v → Memᴰ (u ⟶ v) (edges_between sources sinks)
joins-edge sources sinks j = Memᴰ.cast (let z : _ ⟶ _ ≡ get_or sources j.at 0 ⟶ get_or sinks j.at 0 = cc in z) (edge_at sources sinks j.at j.listed j.paired)

-- the edges backwards
pub turn : (sources sinks : List ℕ) {u v : ℕ} → Memᴰ (u ⟶ v) (edges_between sources sinks) → Memᴰ (v ⟶ u) (edges_between sinks sources)
turn sources sinks m = let j = edge-joins sources sinks m in joins-edge sinks sources (record { at = j.at; listed = j.paired; paired = j.listed; source = j.sink; sink = j.source })

-- next lists where the edges lead from each node below n
pub record Leads (es : List Edge) (n : ℕ) (next : ℕ → List ℕ) : Type 0 where
  pub only : (u v : ℕ) → u < n → Memᴰ v (next u) → Memᴰ (u ⟶ v) es
  pub every : (u v : ℕ) → u < n → Memᴰ (u ⟶ v) es → Memᴰ v (next u)

module _ (sources sinks head next : List ℕ) (pairs : length sinks ≡ length sources) (ix : Indexed sources head next) where
  listed-only : (u v : ℕ) → u < length head → Memᴰ v (neighbours head next sinks u) → Memᴰ (u ⟶ v) (edges_between sources sinks)
  unfolding ends leaving
  listed-only u v l m =
      let t = Memᴰ.of_map (λ k. get_or sinks k 0) (leaving sources u) (subst (λ c. Memᴰ v (map (λ k. get_or sinks k 0) c)) (ix.lists u l) m) in
      let o = keep_out (λ e. eqb (get_or sources e 0) u) _ t.1 in
      let h : t.0 < length sources = indices-below (length sources) o.0 in
      joins-edge sources sinks (record { at = t.0; listed = h; paired = omega (arith, h); source = eqb→eq _ _ o.1; sink = t.2 })

  listed-every : (u v : ℕ) → u < length head → Memᴰ (u ⟶ v) (edges_between sources sinks) → Memᴰ v (neighbours head next sinks u)
  unfolding ends leaving
  listed-every u v l m =
      let j = edge-joins sources sinks m in
      rw (ix.lists u l) (Memᴰ.cast (sym j.sink) (Memᴰ.map (λ k. get_or sinks k 0) (keep-in (λ e. eqb (get_or sources e 0) u) (below-indices (length sources) j.listed) (eq_test j.source))))

  pub leads : Leads (edges_between sources sinks) (length head) (neighbours head next sinks)
  leads = record { only = listed-only; every = listed-every }

-- the edges lie between n nodes, and so do walks along them
module _ (sources sinks : List ℕ) (n : ℕ) (edges : Between sources sinks n) where
  pub edge-low : (u v : ℕ) → Memᴰ (u ⟶ v) (edges_between sources sinks) → u < n
  edge-low u v m = let j = edge-joins sources sinks m in subst (λ k. k < n) j.source (edges.low j.at j.listed)

  pub edge-high : (u v : ℕ) → Memᴰ (u ⟶ v) (edges_between sources sinks) → v < n
  edge-high u v m = let j = edge-joins sources sinks m in subst (λ k. k < n) j.sink (edges.high j.at j.paired)

  pub walk-high : {u v : ℕ} → Walk (edges_between sources sinks) u v → u < n → v < n
  walk-high (stop e) l = subst (λ k. k < n) e l
  walk-high (step {u} {w} m p) l = walk-high p (edge-high u w m)
