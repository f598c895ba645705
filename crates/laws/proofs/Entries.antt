-- What each entry of list 6 is and which edges begin one, that its sources and the unequal-delay reasons rise by id, and that no id stands twice among those reasons or in list 4. Assumes nothing.
use mathlib.Core.Bool.{Bool, true, false, not, cond, ◌&&◌}
use mathlib.Core.List.Memᴰ
use mathlib.Core.List.{List, [], ◌∷◌, ◌++◌, map, map-map, map-id, map-append, flat_map, Memᴰ}
use mathlib.Core.Path.{◌≡◌, refl, subst}
use mathlib.Core.Logic.{⊎_elim}
use Prim.Native.Nat.{ℕ, ◌≤◌}
use native.Mathlib.Omega.{arith}
use lib.Dec.{T, T_not, not_T, eqb, eqb→eq, eqb_refl}
use Rattle.rules.specs.Lists.{keep, count, Distinct}
use Rattle.rules.specs.Scene.{Component, ComponentLists, ConnectionLists, components_of, connections_of, id_of, has_id, edges_of, delay_at, rising_ids}
use Rattle.rules.specs.Graph.{Edge, source_of, starts_at, strongly_connected}
use Rattle.rules.specs.Reasons.{in_feedback, feedback, reason_component, unequal_at, unequal_reason, unequal_reasons_by, unequal_reasons}
use Rattle.rules.specs.Projection.{compressed, retained, first_edges, before_last, ProjectedEdge, projected_by, projected_along, projected}
use Rattle.rules.specs.Refusals.{accepted, SceneLimits, Output, check_scene}
use Rattle.rules.proofs.Lists.{and_left, and_right, and_both, eq_test, keep-in, keep_out, flat_out}
use Rattle.rules.proofs.Permutations.{perm-mem}
use Rattle.rules.proofs.Counts.{count-append, count_none, count-keep, count_under, count-split, count_map, distinct-once, distinct-keep}
use Rattle.rules.proofs.Sorting.{Rising, rising-rises, rising-ids-perm, rising-ids-distinct}
use Rattle.rules.proofs.Scenes.{DistinctIds, EndsListed}
use Rattle.rules.proofs.Acceptance.{AcceptedScene, accepted→, accepted-ids, edge-ends}
use Rattle.laws.proofs.Chains.{Joined, inner, chain-parts, chain-inner, chain-edges, chain-once}
use Rattle.laws.proofs.Projection.{first-edges-out, first-kept, first-edges-count, ends-retained}

-- Rising rows

rising-keep : (f : ℕ → Bool) (l : List ℕ) → Rising l → Rising (keep f l)
unfolding keep
rising-keep f [] r = tt
rising-keep f (x ∷ l) r = go (f x) (rising-keep f l r.1)
  where
    go : (b : Bool) → Rising (keep f l) → Rising (cond b (x ∷ keep f l) (keep f l))
    go true k = (λ y m. r.0 y (keep_out f l m).0, k)
    go false k = k

kept-ids-rise : (cs : List Component) (f : ℕ → Bool) → Rising (keep f (rising_ids cs))
unfolding rising_ids
kept-ids-rise cs f = rising-keep f (rising_ids cs) (rising-rises (map id_of cs))

module _ {A : Type 0} (g : A → ℕ) where
  -- a row whose entries all have one number, before numbers that are not below it
  rising-after : (v : ℕ) (row : List A) (l : List ℕ) → ((x : A) → Memᴰ x row → g x ≡ v) → ((y : ℕ) → Memᴰ y l → v ≤ y) → Rising l → Rising (map g row ++ l)
  rising-after v [] l same above r = r
  rising-after v (x ∷ row) l same above r = (first, rising-after v row l (λ y m. same y (Memᴰ.tail m)) above r)
    where
      first : (y : ℕ) → Memᴰ y (map g row ++ l) → g x ≤ y
      first y m =
          let e = same x (Memᴰ.head refl) in
          ⊎_elim (λ n. let k = Memᴰ.of_map g row n in omega (arith, same k.0 (Memᴰ.tail k.1), k.2)) (λ n. omega (arith, above y n)) (Memᴰ.append_cases (map g row) m)

  -- rows for rising numbers, each with its number throughout, rise
  rising-rows : (f : ℕ → List A) → ((v : ℕ) (x : A) → Memᴰ x (f v) → g x ≡ v) → (vs : List ℕ) → Rising vs → Rising (map g (flat_map f vs))
  unfolding flat_map
  rising-rows f same [] r = tt
  rising-rows f same (v ∷ vs) r =
      rw (map-append g (f v) (flat_map f vs)) (rising-after v (f v) (map g (flat_map f vs)) (same v) above (rising-rows f same vs r.1))
    where
      above : (y : ℕ) → Memᴰ y (map g (flat_map f vs)) → v ≤ y
      above y m =
          let k = Memᴰ.of_map g (flat_map f vs) m in
          let w = flat_out f vs k.1 in
          omega (arith, r.0 w.0 w.1, same w.0 k.0 w.2, k.2)

-- the edges out of these components, one component after the other: an edge stands there at least as often as in the list of edges
rows_all : (es : List Edge) (vs : List ℕ) (p : Edge → Bool) → ((e : Edge) → Memᴰ e es → T (p e) → Memᴰ (source_of e) vs) → count p es ≤ count p (flat_map (λ v. keep (starts_at v) es) vs)
unfolding flat_map
rows_all es [] p h = omega (arith, count_none p es (λ e m t. Memᴰ.not-nil (h e m t)))
rows_all es (v ∷ vs) p h = omega (
  arith,
  count-split (starts_at v) p es,
  rows_all es vs other (λ e m t. later e t (h e m (and_right (not (starts_at v e)) (p e) t))),
  count_under other p rest (λ e m t. and_right (not (starts_at v e)) (p e) t),
  count-append p (keep (starts_at v) es) rest,
  count-keep p (starts_at v) es,
)
  where
    rest : List Edge
    rest = flat_map (λ v. keep (starts_at v) es) vs

    other : Edge → Bool
    other e = not (starts_at v e) && p e

    later : (e : Edge) → T (other e) → Memᴰ (source_of e) (v ∷ vs) → Memᴰ (source_of e) vs
    later e t m = ⊎_elim (λ q. absurd (T_not (starts_at v e) (and_left (not (starts_at v e)) (p e) t) (eq_test q))) (λ n. n) (Memᴰ.cases_cons m)

-- what an entry of list 6 is: it leads from a retained component to a retained one, its path goes there through compressed components only and
-- along edges, and no component stands in it twice, but that the last may be the first
pub record ProjectedFacts (cs : List Component) (es : List Edge) (p : ProjectedEdge) : Type 0 where
  pub source_retained : Memᴰ p.source (retained cs es)
  pub sink_retained : Memᴰ p.sink (retained cs es)
  pub middle : List ℕ
  pub path_parts : p.path ≡ p.source ∷ (middle ++ (p.sink ∷ []))
  pub middle_compressed : (v : ℕ) → Memᴰ v middle → T (compressed cs es v)
  pub path_joined : Joined es p.path
  pub path_once : Distinct (before_last p.path)

module _ (cs : List Component) (es : List Edge) where
  -- the sources of list 6 rise
  pub projected-sources-rise : Rising (map (λ p. p.source) (projected cs es))
  unfolding projected projected_along projected_by first_edges retained
  projected-sources-rise =
      rw map-map (rising-rows source_of (λ v. keep (starts_at v) es) (λ v e m. eqb→eq (source_of e) v (keep_out (starts_at v) es m).1) (retained cs es)
      (kept-ids-rise cs (λ v. not (compressed cs es v))))

  unequal-components : map reason_component (unequal_reasons cs es) ≡ keep (unequal_at es (delay_at cs) (delay_at cs)) (rising_ids cs)
  unfolding unequal_reasons unequal_reasons_by unequal_reason
  unequal-components = rw (map-map, map-id)

  -- the components of the unequal-delay reasons rise
  pub unequal-reasons-rise : Rising (map reason_component (unequal_reasons cs es))
  unequal-reasons-rise = rw unequal-components (kept-ids-rise cs (unequal_at es (delay_at cs) (delay_at cs)))

  module _ (distinct : DistinctIds cs) where
    -- a component has one unequal-delay reason at most
    pub unequal-reasons-distinct : Distinct (map reason_component (unequal_reasons cs es))
    unequal-reasons-distinct = rw unequal-components (distinct-keep (unequal_at es (delay_at cs) (delay_at cs)) (rising_ids cs) (rising-ids-distinct cs distinct))

    -- no component stands twice in list 4
    pub feedback-distinct : Distinct (feedback cs es)
    unfolding feedback
    feedback-distinct = distinct-once (map id_of (keep test cs)) (λ v m. (λ w. eqb w v, eqb_refl v, once v))
      where
        test : Component → Bool
        test = in_feedback cs (strongly_connected es)

        once : (v : ℕ) → count (λ w. eqb w v) (map id_of (keep test cs)) ≤ 1
        once v = omega (
          arith,
          count_map (λ w. eqb w v) id_of (keep test cs),
          count-keep (has_id v) test cs,
          count_under (λ c. test c && has_id v c) (has_id v) cs (λ c m t. and_right (test c) (has_id v c) t),
          distinct v,
        )

  module _ (listed : EndsListed cs es) where
    -- every entry of list 6 has these facts
    pub projected-entry : (p : ProjectedEdge) → Memᴰ p (projected cs es) → ProjectedFacts cs es p
    unfolding projected projected_along projected_by
    projected-entry p m = let r = Memᴰ.of_map (projected_along cs es) (first_edges cs es) m in subst (ProjectedFacts cs es) r.2 (along-edge r.0 r.1)
      where
        along-edge : (e : Edge) → Memᴰ e (first_edges cs es) → ProjectedFacts cs es (projected_along cs es e)
        along-edge e n =
            let k = first-edges-out cs es e n in
            record {
              source_retained = k.1;
              sink_retained = ends-retained cs es (λ f i. (listed f i).1) e n;
              middle = inner cs es e;
              path_parts = chain-parts cs es e;
              middle_compressed = chain-inner cs es e;
              path_joined = chain-edges cs es e k.0;
              path_once = chain-once cs es e k.0 (first-kept cs es e n);
            }

    -- an edge out of a retained component is a first edge exactly as often as it is listed, and no other edge is one
    pub first-edges-all : DistinctIds cs → (q : Edge → Bool) → count q (first_edges cs es) ≡ count (λ e. not (compressed cs es (source_of e)) && q e) es
    unfolding first_edges retained
    first-edges-all distinct q = omega (
      arith,
      count_under q out (first_edges cs es) (λ e m t. and_both (not (compressed cs es (source_of e))) (q e) (not_T (compressed cs es (source_of e)) (first-kept cs es e m)) t),
      first-edges-count cs es distinct out,
      rows_all es (retained cs es) out leaves,
      count_under out q (first_edges cs es) (λ e m t. and_right (not (compressed cs es (source_of e))) (q e) t),
    )
      where
        out : Edge → Bool
        out e = not (compressed cs es (source_of e)) && q e

        leaves : (e : Edge) → Memᴰ e es → T (out e) → Memᴰ (source_of e) (retained cs es)
        leaves e m t = keep-in (λ v. not (compressed cs es v)) (perm-mem (rising-ids-perm cs) (source_of e) (listed e m).0) (and_left (not (compressed cs es (source_of e))) (q e) t)

-- So for an accepted scene; that the rows rise needs no acceptance
module _ (limits : SceneLimits) (l : ComponentLists) (m : ConnectionLists) (outputs : List Output) (accepts : check_scene limits l m outputs ≡ accepted) where
  abbrev cs : List Component
  cs = components_of l

  abbrev es : List Edge
  es = edges_of (connections_of m)

  facts : AcceptedScene limits l m outputs
  facts = accepted→ limits l m outputs accepts

  pub accepted-entry : (p : ProjectedEdge) → Memᴰ p (projected cs es) → ProjectedFacts cs es p
  accepted-entry = projected-entry cs es (edge-ends facts)

  pub accepted-first-edges : (q : Edge → Bool) → count q (first_edges cs es) ≡ count (λ e. not (compressed cs es (source_of e)) && q e) es
  accepted-first-edges = first-edges-all cs es (edge-ends facts) (accepted-ids facts)

  pub accepted-unequal-reasons : Distinct (map reason_component (unequal_reasons cs es))
  accepted-unequal-reasons = unequal-reasons-distinct cs es (accepted-ids facts)

  pub accepted-feedback : Distinct (feedback cs es)
  accepted-feedback = feedback-distinct cs es (accepted-ids facts)
