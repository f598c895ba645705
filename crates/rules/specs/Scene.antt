-- The scene: components, connections, edges, and what a component is by its id. Assumes nothing: these are definitions.
use Rattle.std.specs.Prelude.{Bool, not, ◌&&◌, List, map, ℕ, eqb, ℤ, pos, length, get_or}
use Rattle.rules.specs.Lists.{keep, indices, rising}
use Rattle.rules.specs.Kinds.{kind_row, conductor, component_delay}
use Rattle.rules.specs.Graph.{Edge, ◌⟶◌}
use Rattle.rules.specs.declared.kinds.KindRow.{KindRow}

-- "A component has an id (64 bits), a kind code, a delay word (0 to 255, or 256 for absent), a locked flag (0 or 1; 1 means
-- `observed_properties` has `locked` equal to `true`) and a position of three signed 32-bit numbers."
pub record Component : Type 0 where
  pub id : ℕ
  pub kind : ℕ
  pub delay : ℕ
  pub locked : ℕ
  pub x : ℤ
  pub y : ℤ
  pub z : ℤ

-- "A connection has source id, sink id and a transfer code: 0 DustPropagation, 1 DirectSignal, 2 WeakPower, 3 StrongPower,
-- 4 DirectionalDevice, 5 SideControl, 6 StructuralSupport."
pub record Connection : Type 0 where
  pub source : ℕ
  pub sink : ℕ
  pub transfer : ℕ

pub record Scene : Type 0 where
  pub components : List Component
  pub connections : List Connection

-- The lists by which a scene is lent: one for each field
pub record ComponentLists : Type 0 where
  pub ids : List ℕ
  pub kinds : List ℕ
  pub delays : List ℕ
  pub locked : List ℕ
  pub xs : List ℤ
  pub ys : List ℤ
  pub zs : List ℤ

pub record ConnectionLists : Type 0 where
  pub sources : List ℕ
  pub sinks : List ℕ
  pub transfers : List ℕ

abbrev pub component_lists : (ids kinds delays locked : List ℕ) → (xs ys zs : List ℤ) → ComponentLists
component_lists is ks ds fs xs ys zs = record { ids = is; kinds = ks; delays = ds; locked = fs; xs = xs; ys = ys; zs = zs }

abbrev pub connection_lists : (sources sinks transfers : List ℕ) → ConnectionLists
connection_lists ss ts ks = record { sources = ss; sinks = ts; transfers = ks }

-- the component of one index
unfoldable pub component_at : ComponentLists → ℕ → Component
component_at l i =
    record {
      id = get_or l.ids i 0;
      kind = get_or l.kinds i 0;
      delay = get_or l.delays i 0;
      locked = get_or l.locked i 0;
      x = get_or l.xs i (pos 0);
      y = get_or l.ys i (pos 0);
      z = get_or l.zs i (pos 0);
    }

unfoldable pub connection_at : ConnectionLists → ℕ → Connection
connection_at l i = record { source = get_or l.sources i 0; sink = get_or l.sinks i 0; transfer = get_or l.transfers i 0 }

unfoldable pub components_of : ComponentLists → List Component
components_of l = map (component_at l) (indices (length l.ids))

unfoldable pub connections_of : ConnectionLists → List Connection
connections_of l = map (connection_at l) (indices (length l.sources))

abbrev pub scene_of : ComponentLists → ConnectionLists → Scene
scene_of cs ns = record { components = components_of cs; connections = connections_of ns }

-- "Code 6 yields evidence only and may name absent ids; "edge" below means every other connection."
abbrev pub is_edge : Connection → Bool
is_edge n = not (eqb n.transfer 6)

abbrev pub edge_of : Connection → Edge
edge_of n = n.source ⟶ n.sink

unfoldable pub edges_of : List Connection → List Edge
edges_of ns = map edge_of (keep is_edge ns)

-- the edges of a scene, in list order
abbrev pub edges : Scene → List Edge
edges s = edges_of s.connections

abbrev pub id_of : Component → ℕ
id_of c = c.id

abbrev pub has_id : ℕ → Component → Bool
has_id v c = eqb c.id v

-- the ids of the components, "by rising id"
unfoldable pub rising_ids : List Component → List ℕ
rising_ids cs = rising (map id_of cs)

-- "Two components, or two connections, are the same if they are equal in every field."
abbrev pub same_connection : Connection → Connection → Bool
same_connection a b = eqb a.source b.source && (eqb a.sink b.sink && eqb a.transfer b.transfer)

-- a component's row of the kind table, and its delay: a repeater's own, absent 1
unfoldable pub row_of : Component → KindRow
row_of c = kind_row c.kind

unfoldable pub delay_of : Component → ℕ
delay_of c = component_delay c.kind c.delay

-- what is said of the component with an id, or the given where there is none
module _ {A : Type 0} where
  unfoldable pub by_id : (Component → A) → A → List Component → ℕ → A
  by_id f other cs v = get_or (map f (keep (has_id v) cs)) 0 other

unfoldable pub row_at : List Component → ℕ → KindRow
row_at cs v = by_id row_of conductor cs v

unfoldable pub delay_at : List Component → ℕ → ℕ
delay_at cs v = by_id delay_of 0 cs v
