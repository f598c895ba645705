-- All projected edges: the order of the edges does not change them, they are no more than the edges, and their paths have room in list 7. Assumes nothing.
use mathlib.Core.Bool.{Bool, true, false, not, cond, ◌&&◌}
use mathlib.Core.List.Memᴰ
use mathlib.Core.List.Permᴰ
use mathlib.Core.List.{List, [], ◌∷◌, ◌++◌, map, flat_map, Memᴰ, Permᴰ}
use mathlib.Core.Path.{◌≡◌, refl, sym, ap, subst, ◌∙◌, fun_ext}
use Prim.Native.Nat.{ℕ, zero, suc, ◌+◌, ◌*◌, ◌≤◌, zero-le}
use native.Mathlib.Omega.{arith}
use lib.Dec.{T, T_not, not_T, eqb→eq, eqb_refl}
use lib.ListN.{length, length-append, length-map}
use Rattle.rules.specs.Lists.{keep, count, Distinct}
use Rattle.rules.specs.Graph.{Edge, source_of, sink_of, starts_at, ends_at, in_count, out_count}
use Rattle.rules.specs.Scene.{Component, id_of, delay_at, rising_ids}
use Rattle.rules.specs.Projection.{compressed, marks, retained, first_edges, next, chain, chain_from, last_of, inverts_at, projected_by, projected_along, projected, path_ids}
use Rattle.rules.proofs.Lists.{and_both, keep-in, keep_out, flat_out, flat_append, flat-map}
use Rattle.rules.proofs.Distinct.{distinct_append}
use Rattle.rules.proofs.Permutations.{perm-mem, perm-length, perm-keep, keep-length, one_same, perm-flat, flat-order}
use Rattle.rules.proofs.Counts.{count-append, count-every, count-keep, count_under, count-split, Once, distinct-keep, distinct-flat}
use Rattle.rules.proofs.Sorting.{rising-ids-perm, rising-ids-distinct}
use Rattle.laws.proofs.Order.{in_order_lem, out-order}
use Rattle.laws.proofs.Chains.{inner, compressed-in, compressed-out, chain_length, chain-inner, chain-enters, inner-once, chain-apart, chain-into, chain-ends}
use Rattle.rules.proofs.Scenes.{DistinctIds}

-- The order of the edges changes only the order of the first edges and of the projected edges

module _ {es fs : List Edge} (p : Permᴰ es fs) where
  next-order : (v : ℕ) → out_count es v ≡ 1 → next es v ≡ next fs v
  unfolding next out_count
  next-order v h = one_same (map sink_of (keep (starts_at v) es)) (map sink_of (keep (starts_at v) fs)) v
      (omega (arith, length-map (keep (starts_at v) es) sink_of, keep-length (starts_at v) es)) (Permᴰ.map sink_of (perm-keep (starts_at v) p))

  chain-order : (through : ℕ → Bool) → ((v : ℕ) → T (through v) → out_count es v ≡ 1) → (k v : ℕ) → chain k es through v ≡ chain k fs through v
  unfolding chain
  chain-order through one_out zero v = refl
  chain-order through one_out (suc k) v = go (through v) (λ t. next-order v (one_out v t)) (chain-order through one_out k)
    where
      go : (b : Bool) → (T b → next es v ≡ next fs v) → ((w : ℕ) → chain k es through w ≡ chain k fs through w)
          → cond b (v ∷ chain k es through (next es v)) (v ∷ []) ≡ cond b (v ∷ chain k fs through (next fs v)) (v ∷ [])
      go true n ih = cc (n tt, ih (next es v))
      go false n ih = refl

  module _ (cs : List Component) where
    pub compressed-order : compressed cs es ≡ compressed cs fs
    unfolding compressed
    compressed-order = fun_ext (λ v. cc (in_order_lem p, out-order p))

    pub marks-order : marks cs es ≡ marks cs fs
    unfolding marks
    marks-order = rw compressed-order

    pub retained-order : retained cs es ≡ retained cs fs
    unfolding retained
    retained-order = rw compressed-order

    pub chain-from-order : chain_from cs es ≡ chain_from cs fs
    unfolding chain_from
    chain-from-order = fun_ext (λ e. cc (chain-order (compressed cs es) (compressed-out cs es) (length es) (sink_of e), compressed-order, perm-length p))

    pub first-edges-order : Permᴰ (first_edges cs es) (first_edges cs fs)
    unfolding first_edges
    first-edges-order = rw retained-order (perm-flat (λ v. keep (starts_at v) es) (λ v. keep (starts_at v) fs) (λ v. perm-keep (starts_at v) p) (retained cs fs))

    pub projected-along-order : projected_along cs es ≡ projected_along cs fs
    unfolding projected_along
    projected-along-order = ap (λ path e. projected_by (delay_at cs) (delay_at cs) (inverts_at cs) e (path e)) chain-from-order

    -- the projected edges with their paths are the same up to their order
    pub projected-order : Permᴰ (projected cs es) (projected cs fs)
    unfolding projected
    projected-order = rw projected-along-order (Permᴰ.map (projected_along cs fs) first-edges-order)

    pub projected-length-order : length (projected cs es) ≡ length (projected cs fs)
    projected-length-order = perm-length projected-order

    pub path-ids-length-order : length (path_ids (projected cs es)) ≡ length (path_ids (projected cs fs))
    unfolding path_ids
    path-ids-length-order = perm-length (flat-order (λ q. q.path) projected-order)

-- The room that they need

-- the edges out of distinct components, one component after the other: no edge stands there more often than in the list of edges
pub rows-count : (es : List Edge) (vs : List ℕ) → Distinct vs → (p : Edge → Bool) → count p (flat_map (λ v. keep (starts_at v) es) vs) ≤ count p es
unfolding flat_map count
rows-count es [] d p = zero-le
rows-count es (v ∷ vs) d p = omega (
  arith,
  count-append p (keep (starts_at v) es) rest,
  count-keep p (starts_at v) es,
  count_under p (λ e. not (starts_at v e) && p e) rest other,
  rows-count es vs d.1 (λ e. not (starts_at v e) && p e),
  count-split (starts_at v) p es,
)
  where
    rest : List Edge
    rest = flat_map (λ v. keep (starts_at v) es) vs

    other : (e : Edge) → Memᴰ e rest → T (p e) → T (not (starts_at v e) && p e)
    other e m t =
        let r = flat_out (λ v. keep (starts_at v) es) vs m in
        let w = eqb→eq (source_of e) r.0 (keep_out (starts_at r.0) es r.2).1 in
        and_both (not (starts_at v e)) (p e) (not_T (starts_at v e) (λ s. d.0 (Memᴰ.cast (sym (eqb→eq (source_of e) v s) ∙ w) r.1))) t

-- Chains from distinct retained components
module _ (cs : List Component) (es : List Edge) (kept : List ℕ) (once : Distinct kept) (out : (v : ℕ) → Memᴰ v kept → T (compressed cs es v) → ⊥) where
  abbrev firsts : List Edge
  firsts = flat_map (λ v. keep (starts_at v) es) kept

  abbrev between : List ℕ
  between = flat_map (inner cs es) firsts

  first_out : (e : Edge) → Memᴰ e firsts → Memᴰ e es × (T (compressed cs es (source_of e)) → ⊥)
  first_out e m =
      let r = flat_out (λ v. keep (starts_at v) es) kept m in
      let k = keep_out (starts_at r.0) es r.2 in
      (k.0, λ t. out r.0 r.1 (subst (λ v. T (compressed cs es v)) (eqb→eq (source_of e) r.0 k.1) t))

  -- no component is between the ends twice, over all chains
  between-once : Distinct between
  unfolding in_count
  between-once =
      distinct-flat (inner cs es) firsts single (λ e m. inner-once cs es e (first_out e m).0 (first_out e m).1)
      (λ e f y m n. chain-apart cs es e f (first_out e m).0 (first_out f n).0 (first_out e m).1 (first_out f n).1 y)
    where
      single : (e : Edge) (y : ℕ) → Memᴰ e firsts → Memᴰ y (inner cs es e) → Once e firsts
      single e y m n = (ends_at (sink_of e), eqb_refl (sink_of e), omega (arith, rows-count es kept once (ends_at (sink_of e)), one))
        where
          one : count (ends_at (sink_of e)) es ≡ 1
          one = compressed-in cs es (sink_of e) (chain-enters cs es e y n)

  between-compressed : (y : ℕ) → Memᴰ y between → T (compressed cs es y)
  between-compressed y m = let r = flat_out (inner cs es) firsts m in chain-inner cs es r.0 y r.2

  one_each : (vs : List ℕ) → ((v : ℕ) → Memᴰ v vs → T (compressed cs es v)) → length (flat_map (λ v. keep (starts_at v) es) vs) ≡ length vs
  unfolding flat_map out_count
  one_each [] h = refl
  one_each (v ∷ vs) h = omega (
    arith,
    length-append (keep (starts_at v) es) (flat_map (λ v. keep (starts_at v) es) vs),
    keep-length (starts_at v) es,
    compressed-out cs es v (h v (Memᴰ.head refl)),
    one_each vs (λ w m. h w (Memᴰ.tail m)),
  )

  -- the first edges and those out of the components between are edges, each once
  pub edges-enough : length firsts + length between ≤ length es
  edges-enough = omega (
    arith,
    rows-count es (kept ++ between) (distinct_append kept between once between-once (λ y m n. out y m (between-compressed y n))) (λ e. true),
    count-every es,
    count-every (flat_map (λ v. keep (starts_at v) es) (kept ++ between)),
    ap length (flat_append (λ v. keep (starts_at v) es) kept between),
    length-append firsts (flat_map (λ v. keep (starts_at v) es) between),
    one_each between between-compressed,
  )

-- how many ids some paths have
pub paths-length : (cs : List Component) (es fs : List Edge) → length (flat_map (chain_from cs es) fs) ≡ 2 * length fs + length (flat_map (inner cs es) fs)
unfolding flat_map
paths-length cs es [] = refl
paths-length cs es (e ∷ fs) = omega (
  arith,
  length-append (chain_from cs es e) (flat_map (chain_from cs es) fs),
  chain_length cs es e,
  paths-length cs es fs,
  length-append (inner cs es e) (flat_map (inner cs es) fs),
)

module _ (cs : List Component) (es : List Edge) where
  pub retained-out : (v : ℕ) → Memᴰ v (retained cs es) → T (compressed cs es v) → ⊥
  unfolding retained
  retained-out v m = T_not (compressed cs es v) (keep_out (λ v. not (compressed cs es v)) (rising_ids cs) m).1

  -- a first edge is an edge out of a retained component
  pub first-edges-out : (e : Edge) → Memᴰ e (first_edges cs es) → Memᴰ e es × Memᴰ (source_of e) (retained cs es)
  unfolding first_edges
  first-edges-out e m =
      let r = flat_out (λ v. keep (starts_at v) es) (retained cs es) m in
      let k = keep_out (starts_at r.0) es r.2 in
      (k.0, Memᴰ.cast (eqb→eq (source_of e) r.0 k.1) r.1)

  pub first-kept : (e : Edge) → Memᴰ e (first_edges cs es) → T (compressed cs es (source_of e)) → ⊥
  first-kept e m = retained-out (source_of e) (first-edges-out e m).1

  module _ (distinct : DistinctIds cs) where
    pub retained-distinct : Distinct (retained cs es)
    unfolding retained
    retained-distinct = distinct-keep (λ v. not (compressed cs es v)) (rising_ids cs) (rising-ids-distinct cs distinct)

    -- no edge is a first edge more often than it stands in the list
    pub first-edges-count : (p : Edge → Bool) → count p (first_edges cs es) ≤ count p es
    unfolding first_edges
    first-edges-count p = rows-count es (retained cs es) retained-distinct p

    -- there are no more projected edges than edges
    pub projected-count : length (projected cs es) ≤ length es
    unfolding projected
    projected-count = omega (arith, length-map (first_edges cs es) (projected_along cs es), count-every (first_edges cs es), first-edges-count (λ e. true), count-every es)

    -- no component is between the ends twice, over all chains
    pub inners-once : Distinct (flat_map (inner cs es) (first_edges cs es))
    unfolding first_edges
    inners-once = between-once cs es (retained cs es) retained-distinct retained-out

    -- the paths of all projected edges have at most two ids for each edge
    pub path-ids-count : length (path_ids (projected cs es)) ≤ 2 * length es
    unfolding projected path_ids first_edges projected_along projected_by
    path-ids-count = omega (
      arith,
      ap length (flat-map (λ p. p.path) (projected_along cs es) (first_edges cs es)),
      paths-length cs es (first_edges cs es),
      edges-enough cs es (retained cs es) retained-distinct retained-out,
    )

  -- every edge ends at a component
  module _ (known : (e : Edge) → Memᴰ e es → Memᴰ (sink_of e) (map id_of cs)) where
    pub chain-ids : (e : Edge) → Memᴰ e es → (y : ℕ) → Memᴰ y (inner cs es e ++ (last_of (chain_from cs es e) ∷ [])) → Memᴰ y (map id_of cs)
    chain-ids e m y n = let r = Memᴰ.of_map sink_of es (chain-into cs es e m y n) in Memᴰ.cast (sym r.2) (known r.0 r.1)

    -- a projected edge ends at a retained component
    pub ends-retained : (e : Edge) → Memᴰ e (first_edges cs es) → Memᴰ (last_of (chain_from cs es e)) (retained cs es)
    unfolding retained
    ends-retained e m =
        let k = (first-edges-out e m).0 in
        let w = last_of (chain_from cs es e) in
        keep-in (λ v. not (compressed cs es v)) (perm-mem (rising-ids-perm cs) w (chain-ids e k w (Memᴰ.append_right (inner cs es e) (Memᴰ.head refl))))
        (not_T (compressed cs es w) (chain-ends cs es e k (first-kept e m)))
