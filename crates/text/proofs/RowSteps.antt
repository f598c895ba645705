-- The rows in lists that grow by one. Assumes nothing.
use Rattle.std.proofs.Common.{◌≡◌, ℕ, ◌+◌, ◌≤◌, ◌<◌, List, [], ◌∷◌, ◌++◌, map, length, take, set, refl, sym, ap, ◌∙◌, arith, ℤ}
use Rattle.std.proofs.lemmas.List.{map-append, take_more_set, length-take, length-take-le}
use Rattle.rules.specs.Scene.{Component, Connection, component_lists, connection_lists, components_of, connections_of, id_of}
use Rattle.rules.specs.Report.{component_fields, connection_fields}
use Rattle.rules.proofs.Columns.{ComponentColumns, ConnectionColumns, component-ids, components_length, component-columns, connection-sources, connections-length, connection-columns}
use Rattle.laws.proofs.ReadScenes.{fields-components, fields-connections}
use Rattle.text.specs.Rows.{component_fronts, connection_fronts}
use Rattle.text.specs.declared.rows.ComponentRows.TheInside as Components
use Rattle.text.specs.declared.rows.ConnectionRows.TheInside as Connections

-- a column grows by a field of the row
grown : {A B : Type 0} (f : A → B) (xs : List A) (x : A) (l : List B) (y : B) (i : ℕ) → i < length l → map f xs ≡ take i l → y ≡ f x → take (i + 1) (set l i y) ≡ map f (xs ++ x ∷ [])
grown f xs x l y i h e is = take_more_set l i y h ∙ ap (λ y. take i l ++ y ∷ []) is ∙ ap (λ l. l ++ f x ∷ []) (sym e) ∙ sym (map-append f xs (x ∷ []))

-- fronts of one length
front : {A B : Type 0} (i n : ℕ) (l : List A) (m : List B) → length l ≡ n → length m ≡ n → length (take i l) ≡ length (take i m)
front i n l m e h = omega (arith, length-take i l, length-take i m)

-- The components

pub record ComponentsSized (s : Components.Inside) : Type 0 where
  pub ids : length s.ids ≡ 1927
  pub kinds : length s.kinds ≡ 1927
  pub delays : length s.delays ≡ 1927
  pub locked : length s.locked ≡ 1927
  pub xs : length s.xs ≡ 1927
  pub ys : length s.ys ≡ 1927
  pub zs : length s.zs ≡ 1927
  pub len : s.len ≤ 1927

pub components_counted : (s : Components.Inside) → length s.ids ≡ 1927 → s.len ≤ 1927 → length (components_of (component_fronts s)) ≡ s.len
components_counted s e h = components_length (component_fronts s) ∙ length-take-le s.len s.ids (omega arith)

module _ (s : Components.Inside) (z : ComponentsSized s) where
  columns : ComponentColumns (component_fronts s)
  columns = component-columns (component_fronts s) (record {
    kinds_length = front s.len 1927 s.kinds s.ids z.kinds z.ids;
    delays_length = front s.len 1927 s.delays s.ids z.delays z.ids;
    locked_length = front s.len 1927 s.locked s.ids z.locked z.ids;
    xs_length = front s.len 1927 s.xs s.ids z.xs z.ids;
    ys_length = front s.len 1927 s.ys s.ids z.ys z.ids;
    zs_length = front s.len 1927 s.zs s.ids z.zs z.ids;
  })

  pub components_are : component_fronts s ≡ component_fields (components_of (component_fronts s))
  components_are =
      let c = columns in
      rw (component-ids (component_fronts s), c.kinds_column, c.delays_column, c.locked_column, c.xs_column, c.ys_column, c.zs_column)

  pub component_more : (r : Component) → s.len < 1927 → (x y z : ℤ) → x ≡ r.x → y ≡ r.y → z ≡ r.z
      → components_of (component_lists (take (s.len + 1) (set s.ids s.len r.id)) (take (s.len + 1) (set s.kinds s.len r.kind)) (take (s.len + 1) (set s.delays s.len r.delay)) (take (s.len + 1) (set s.locked s.len r.locked)) (take (s.len + 1) (set s.xs s.len x)) (take (s.len + 1) (set s.ys s.len y)) (take (s.len + 1) (set s.zs s.len z)))
      ≡ components_of (component_fronts s) ++ r ∷ []
  component_more r h x y z' ex ey ez =
      let l = component_fronts s in
      let rs = components_of l in
      let c = columns in
      let i = s.len in
      let a = grown id_of rs r s.ids r.id i (omega (arith, z.ids)) (component-ids l) refl in
      let b = grown (λ c. c.kind) rs r s.kinds r.kind i (omega (arith, z.kinds)) c.kinds_column refl in
      let d = grown (λ c. c.delay) rs r s.delays r.delay i (omega (arith, z.delays)) c.delays_column refl in
      let e = grown (λ c. c.locked) rs r s.locked r.locked i (omega (arith, z.locked)) c.locked_column refl in
      let f = grown (λ c. c.x) rs r s.xs x i (omega (arith, z.xs)) c.xs_column ex in
      let g = grown (λ c. c.y) rs r s.ys y i (omega (arith, z.ys)) c.ys_column ey in
      let k = grown (λ c. c.z) rs r s.zs z' i (omega (arith, z.zs)) c.zs_column ez in
      rw (a, b, d, e, f, g, k) (fields-components (rs ++ r ∷ []))

-- The connections

pub record ConnectionsSized (s : Connections.Inside) : Type 0 where
  pub sources : length s.sources ≡ 2730
  pub sinks : length s.sinks ≡ 2730
  pub transfers : length s.transfers ≡ 2730
  pub len : s.len ≤ 2730

pub connections_counted : (s : Connections.Inside) → length s.sources ≡ 2730 → s.len ≤ 2730 → length (connections_of (connection_fronts s)) ≡ s.len
connections_counted s e h = connections-length (connection_fronts s) ∙ length-take-le s.len s.sources (omega arith)

module _ (s : Connections.Inside) (z : ConnectionsSized s) where
  connection_columns : ConnectionColumns (connection_fronts s)
  connection_columns = connection-columns (connection_fronts s) (record {
    sinks_length = front s.len 2730 s.sinks s.sources z.sinks z.sources;
    transfers_length = front s.len 2730 s.transfers s.sources z.transfers z.sources;
  })

  pub connections_are : connection_fronts s ≡ connection_fields (connections_of (connection_fronts s))
  connections_are = let c = connection_columns in rw (connection-sources (connection_fronts s), c.sinks_column, c.transfers_column)

  pub connection_more : (r : Connection) → s.len < 2730
      → connections_of (connection_lists (take (s.len + 1) (set s.sources s.len r.source)) (take (s.len + 1) (set s.sinks s.len r.sink)) (take (s.len + 1) (set s.transfers s.len r.transfer)))
      ≡ connections_of (connection_fronts s) ++ r ∷ []
  connection_more r h =
      let l = connection_fronts s in
      let rs = connections_of l in
      let c = connection_columns in
      let i = s.len in
      let a = grown (λ n. n.source) rs r s.sources r.source i (omega (arith, z.sources)) (connection-sources l) refl in
      let b = grown (λ n. n.sink) rs r s.sinks r.sink i (omega (arith, z.sinks)) c.sinks_column refl in
      let d = grown (λ n. n.transfer) rs r s.transfers r.transfer i (omega (arith, z.transfers)) c.transfers_column refl in
      rw (a, b, d) (fields-connections (rs ++ r ∷ []))
