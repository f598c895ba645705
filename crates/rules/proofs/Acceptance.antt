-- What an accepted scene satisfies, and that the order of its connections does not matter to that. Assumes nothing.
use mathlib.Core.Bool.{Bool, true, false, not, cond}
use mathlib.Core.List.Memᴰ
use mathlib.Core.List.Permᴰ
use mathlib.Core.List.{List, [], ◌∷◌, ◌++◌, map, flat_map, Memᴰ, Permᴰ}
use mathlib.Core.Path.{◌≡◌, refl, sym, subst, ◌∙◌}
use Prim.Native.Nat.{ℕ, suc, ◌≤◌, ◌<◌}
use native.Mathlib.Omega.{arith}
use lib.Dec.{T, T_not, eqb, ltb, eqb→eq}
use lib.ListN.{length, get_or, take}
use Rattle.rules.specs.Lists.{any, keep, count, indices, Distinct}
use Rattle.rules.specs.Graph.{source_of, sink_of}
use Rattle.rules.specs.Scene.{Component, Connection, ComponentLists, ConnectionLists, component_at, connection_at, components_of, connections_of, is_edge, edge_of, edges_of, id_of, has_id}
use Rattle.rules.specs.Refusals.{Test, accepted, SceneLimits, Output, lengths_differ, component_lengths, connection_lengths, output_test, out_of_range, used_earlier, component_tests, bad_transfer, end_missing, connection_tests, size_tests, scene_tests, check_scene}
use Rattle.rules.proofs.Counts.{count_none}
use Rattle.rules.proofs.Lists.{passes, or-none, and_left, and_right, tests, any-in, any_out, any→mem, mem→any, keep_out}
use Rattle.rules.proofs.Permutations.{perm-mem, perm-length, perm-keep}
use Rattle.rules.proofs.Indices.{indices-below, below-indices, distinct-if, distinct-before}
use Rattle.rules.proofs.Columns.{ComponentsAligned, ConnectionsAligned, component-ids, connections-length}
use Rattle.rules.proofs.FirstRefusal.{at_most, all_same, same-all, NoneHold, within, none-nil, none-cons, none-append, none-map, none-flat, none-parts, none_each, none-holds, accepted-if}
use Rattle.rules.proofs.Scenes.{EndsListed, DistinctIds}

-- every list of an output is as long as it has to be
abbrev pub OutputLong : Output → Type 0
OutputLong o = (n : ℕ) → Memᴰ n o.lengths → o.need ≤ n

-- a component's values are in their ranges
pub record ComponentFits (c : Component) : Type 0 where
  pub kind_fits : c.kind ≤ 12
  pub delay_fits : c.delay ≤ 256
  pub locked_fits : c.locked ≤ 1

-- a connection's transfer is in its range, and the ends of an edge are components
pub record ConnectionFits (ids : List ℕ) (n : Connection) : Type 0 where
  pub transfer_fits : n.transfer ≤ 6
  pub source_known : T (is_edge n) → Memᴰ n.source ids
  pub sink_known : T (is_edge n) → Memᴰ n.sink ids

-- what acceptance says of a scene
pub record AcceptedScene (limits : SceneLimits) (l : ComponentLists) (m : ConnectionLists) (outputs : List Output) : Type 0 where
  pub components_aligned : ComponentsAligned l
  pub connections_aligned : ConnectionsAligned m
  pub components_few : length l.ids ≤ limits.components
  pub connections_few : length m.sources ≤ limits.connections
  pub outputs_long : (o : Output) → Memᴰ o outputs → OutputLong o
  pub components_fit : (c : Component) → Memᴰ c (components_of l) → ComponentFits c
  pub ids_distinct : Distinct l.ids
  pub connections_fit : (n : Connection) → Memᴰ n (connections_of m) → ConnectionFits l.ids n

-- Each test of a scene fails exactly where its fact holds
module _ (l : ComponentLists) where
  pub aligned-components : (T (lengths_differ (component_lengths l)) → ⊥) → ComponentsAligned l
  unfolding component_lengths
  aligned-components h =
      let a = all_same _ _ h in
      record { kinds_length = a.0; delays_length = a.1.0; locked_length = a.1.1.0; xs_length = a.1.1.1.0; ys_length = a.1.1.1.1.0; zs_length = a.1.1.1.1.1.0 }

  pub aligned-components-test : ComponentsAligned l → T (lengths_differ (component_lengths l)) → ⊥
  unfolding component_lengths
  aligned-components-test a = same-all _ _ (a.kinds_length, (a.delays_length, (a.locked_length, (a.xs_length, (a.ys_length, (a.zs_length, tt))))))

module _ (m : ConnectionLists) where
  pub aligned-connections : (T (lengths_differ (connection_lengths m)) → ⊥) → ConnectionsAligned m
  unfolding connection_lengths
  aligned-connections h = let a = all_same _ _ h in record { sinks_length = a.0; transfers_length = a.1.0 }

  pub aligned-connections-test : ConnectionsAligned m → T (lengths_differ (connection_lengths m)) → ⊥
  unfolding connection_lengths
  aligned-connections-test a = same-all _ _ (a.sinks_length, (a.transfers_length, tt))

module _ (o : Output) where
  pub output-long : (T (output_test o).holds → ⊥) → OutputLong o
  output-long h n k = at_most n o.need (λ t. h (any-in (λ n. ltb n o.need) k t))

  pub output-long-test : OutputLong o → T (output_test o).holds → ⊥
  output-long-test a t = let r = any_out (λ n. ltb n o.need) o.lengths t in within r.0 o.need (a r.0 r.1) r.2

module _ (c : Component) where
  pub component-fits : (T (out_of_range c) → ⊥) → ComponentFits c
  unfolding out_of_range
  component-fits h = record {
    kind_fits = at_most 12 c.kind (λ t. h (search tests));
    delay_fits = at_most 256 c.delay (λ t. h (search tests));
    locked_fits = at_most 1 c.locked (λ t. h (search tests));
  }

  pub component-fits-test : ComponentFits c → T (out_of_range c) → ⊥
  unfolding out_of_range
  component-fits-test a = or-none (ltb 12 c.kind) _ (within 12 _ a.kind_fits) (or-none (ltb 256 c.delay) _ (within 256 _ a.delay_fits) (within 1 _ a.locked_fits))

module _ (ids : List ℕ) where
  pub distinct-unused : ((i : ℕ) → i < length ids → T (used_earlier ids i) → ⊥) → Distinct ids
  unfolding used_earlier
  distinct-unused h = distinct-if 0 ids (λ i k m. h i k (mem→any (get_or ids i 0) m))

  pub distinct-unused-test : Distinct ids → (i : ℕ) → i < length ids → T (used_earlier ids i) → ⊥
  unfolding used_earlier
  distinct-unused-test d i k t = distinct-before 0 ids d i k (any→mem (get_or ids i 0) (take i ids) t)

  module _ (n : Connection) where
    pub connection-fits : (T (bad_transfer n) → ⊥) → (T (end_missing ids n) → ⊥) → ConnectionFits ids n
    unfolding end_missing
    connection-fits g h = record {
      transfer_fits = at_most 6 n.transfer g;
      source_known = λ e. any→mem n.source ids (passes (any (eqb n.source) ids) (λ t. h (search tests)));
      sink_known = λ e. any→mem n.sink ids (passes (any (eqb n.sink) ids) (λ t. h (search tests)));
    }

    pub transfer-fits-test : ConnectionFits ids n → T (bad_transfer n) → ⊥
    transfer-fits-test a = within 6 n.transfer a.transfer_fits

    pub ends-known-test : ConnectionFits ids n → T (end_missing ids n) → ⊥
    unfolding end_missing
    ends-known-test a t =
        or-none (not (any (eqb n.source) ids)) (not (any (eqb n.sink) ids)) (known n.source (a.source_known edge)) (known n.sink (a.sink_known edge)) (and_right (is_edge n) _ t)
      where
        edge : T (is_edge n)
        edge = and_left (is_edge n) _ t

        known : (v : ℕ) → Memᴰ v ids → T (not (any (eqb v) ids)) → ⊥
        known v k s = T_not (any (eqb v) ids) s (mem→any v k)

module _ (limits : SceneLimits) (l : ComponentLists) (m : ConnectionLists) (outputs : List Output) where
  abbrev sizes : List Test
  sizes = size_tests limits l m outputs

  abbrev component_rows : List Test
  component_rows = flat_map (component_tests l) (indices (length l.ids))

  abbrev connection_rows : List Test
  connection_rows = flat_map (connection_tests l m) (indices (length m.sources))

  -- an accepted scene has these facts
  pub accepted→ : check_scene limits l m outputs ≡ accepted → AcceptedScene limits l m outputs
  unfolding check_scene scene_tests size_tests component_tests connection_tests components_of connections_of
  accepted→ e = record {
    components_aligned = aligned-components l (parts.0 _ (Memᴰ.head refl));
    connections_aligned = aligned-connections m (parts.0 _ (Memᴰ.tail (Memᴰ.head refl)));
    components_few = at_most _ _ (parts.0 _ (Memᴰ.tail (Memᴰ.tail (Memᴰ.head refl))));
    connections_few = at_most _ _ (parts.0 _ (Memᴰ.tail (Memᴰ.tail (Memᴰ.tail (Memᴰ.head refl)))));
    outputs_long = λ o k. output-long o (parts.0 _ (Memᴰ.tail (Memᴰ.tail (Memᴰ.tail (Memᴰ.tail (Memᴰ.map output_test k))))));
    components_fit = λ c k. let r = Memᴰ.of_map (component_at l) _ k in subst ComponentFits r.2 (component-fits _ (at-component r.0 r.1 _ (Memᴰ.head refl)));
    ids_distinct = distinct-unused l.ids (λ i h. at-component i (below-indices _ h) _ (Memᴰ.tail (Memᴰ.head refl)));
    connections_fit = λ n k. let r = Memᴰ.of_map (connection_at m) _ k in subst (ConnectionFits l.ids) r.2 (connection-fits l.ids _ (at-connection r.0 r.1 _ (Memᴰ.head refl)) (at-connection r.0 r.1 _ (Memᴰ.tail (Memᴰ.head refl))));
  }
    where
      parts : NoneHold sizes × NoneHold (component_rows ++ connection_rows)
      parts = none-parts sizes (component_rows ++ connection_rows) (none-holds _ e)

      rows : NoneHold component_rows × NoneHold connection_rows
      rows = none-parts component_rows connection_rows parts.1

      at-component : (i : ℕ) → Memᴰ i (indices (length l.ids)) → NoneHold (component_tests l i)
      at-component = none_each (component_tests l) _ rows.0

      at-connection : (j : ℕ) → Memᴰ j (indices (length m.sources)) → NoneHold (connection_tests l m j)
      at-connection = none_each (connection_tests l m) _ rows.1

  -- and a scene that has them is accepted
  pub →accepted : AcceptedScene limits l m outputs → check_scene limits l m outputs ≡ accepted
  unfolding check_scene scene_tests size_tests component_tests connection_tests components_of connections_of
  →accepted a =
      accepted-if _ (none-append sizes none-sizes (none-append component_rows (none-flat (component_tests l) _ at-component) (none-flat (connection_tests l m) _ at-connection)))
    where
      none-sizes : NoneHold sizes
      none-sizes =
          none-cons (aligned-components-test l a.components_aligned) (none-cons (aligned-connections-test m a.connections_aligned)
          (none-cons (within _ _ a.components_few) (none-cons (within _ _ a.connections_few)
          (none-map output_test outputs (λ o k. output-long-test o (a.outputs_long o k))))))

      at-component : (i : ℕ) → Memᴰ i (indices (length l.ids)) → NoneHold (component_tests l i)
      at-component i k =
          none-cons (component-fits-test _ (a.components_fit _ (Memᴰ.map (component_at l) k))) (none-cons (distinct-unused-test l.ids a.ids_distinct i (indices-below _ k)) none-nil)

      at-connection : (j : ℕ) → Memᴰ j (indices (length m.sources)) → NoneHold (connection_tests l m j)
      at-connection j k =
          let f = a.connections_fit _ (Memᴰ.map (connection_at m) k) in
          none-cons (transfer-fits-test l.ids _ f) (none-cons (ends-known-test l.ids _ f) none-nil)

-- where no id stands twice, no id has two components
pub distinct→ids : (cs : List Component) → Distinct (map id_of cs) → DistinctIds cs
unfolding count
distinct→ids [] d v = omega arith
distinct→ids (c ∷ cs) d v = go (has_id v c) (λ t. t) (distinct→ids cs d.1 v)
  where
    once-only : T (has_id v c) → (x : Component) → Memᴰ x cs → T (has_id v x) → ⊥
    once-only t x m s = d.0 (Memᴰ.cast (eqb→eq c.id v t ∙ sym (eqb→eq x.id v s)) (Memᴰ.map id_of m))

    go : (b : Bool) → (T b → T (has_id v c)) → count (has_id v) cs ≤ 1 → cond b (suc (count (has_id v) cs)) (count (has_id v) cs) ≤ 1
    go true h k = omega (arith, count_none (has_id v) cs (once-only (h tt)))
    go false h k = k

-- no id of an accepted scene has two components
pub accepted-ids : {limits : SceneLimits} {l : ComponentLists} {m : ConnectionLists} {outputs : List Output} → AcceptedScene limits l m outputs → DistinctIds (components_of l)
accepted-ids {l} a = distinct→ids (components_of l) (rw component-ids a.ids_distinct)

-- the ends of an edge of an accepted scene are components
pub edge-ends : {limits : SceneLimits} {l : ComponentLists} {m : ConnectionLists} {outputs : List Output} → AcceptedScene limits l m outputs
    → EndsListed (components_of l) (edges_of (connections_of m))
unfolding edges_of
edge-ends {l} {m} a e k =
    let r = Memᴰ.of_map edge_of (keep is_edge (connections_of m)) k in
    let q = keep_out is_edge (connections_of m) r.1 in
    let f = a.connections_fit r.0 q.0 in
    subst (λ e. Memᴰ (source_of e) (map id_of (components_of l)) × Memᴰ (sink_of e) (map id_of (components_of l))) r.2 (rw component-ids (f.source_known q.1), rw component-ids (f.sink_known q.1))

-- the order of the connections does not matter to acceptance
pub acceptance-order : (limits : SceneLimits) (l : ComponentLists) (m m' : ConnectionLists) (outputs : List Output) → Permᴰ (connections_of m) (connections_of m') → ConnectionsAligned m'
    → check_scene limits l m outputs ≡ accepted → check_scene limits l m' outputs ≡ accepted
acceptance-order limits l m m' outputs p g e =
    let a = accepted→ limits l m outputs e in
    →accepted limits l m' outputs record {
      components_aligned = a.components_aligned;
      connections_aligned = g;
      components_few = a.components_few;
      connections_few = omega (arith, connections-length m, connections-length m', perm-length p);
      outputs_long = a.outputs_long;
      components_fit = a.components_fit;
      ids_distinct = a.ids_distinct;
      connections_fit = λ n k. a.connections_fit n (perm-mem (Permᴰ.symm p) n k);
    }

-- connections in another order have the same edges in another order
pub edges-order : {ns ns' : List Connection} → Permᴰ ns ns' → Permᴰ (edges_of ns) (edges_of ns')
unfolding edges_of
edges-order p = Permᴰ.map edge_of (perm-keep is_edge p)
