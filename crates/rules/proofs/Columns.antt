-- The lent lists are the fields of the components and connections. Assumes nothing.
use mathlib.Core.List.{map}
use mathlib.Core.Path.{◌≡◌, refl}
use lib.IntN.{pos}
use lib.ListN.{length}
use Rattle.rules.specs.Scene.{ComponentLists, ConnectionLists, component_at, connection_at, components_of, connections_of, id_of}
use Rattle.rules.proofs.Indices.{made-length, column}

-- the ids of the components are the lent ids, and there are as many components
pub component-ids : (l : ComponentLists) → map id_of (components_of l) ≡ l.ids
unfolding components_of component_at
component-ids l = column id_of (component_at l) (length l.ids) l.ids 0 refl (λ i. refl)

pub components_length : (l : ComponentLists) → length (components_of l) ≡ length l.ids
unfolding components_of
components_length l = made-length (component_at l) (length l.ids)

-- the sources of the connections are the lent sources, and there are as many connections
pub connection-sources : (m : ConnectionLists) → map (λ n. n.source) (connections_of m) ≡ m.sources
unfolding connections_of connection_at
connection-sources m = column (λ n. n.source) (connection_at m) (length m.sources) m.sources 0 refl (λ i. refl)

pub connections-length : (m : ConnectionLists) → length (connections_of m) ≡ length m.sources
unfolding connections_of
connections-length m = made-length (connection_at m) (length m.sources)

-- the lists of the components have one length
pub record ComponentsAligned (l : ComponentLists) : Type 0 where
  pub kinds_length : length l.kinds ≡ length l.ids
  pub delays_length : length l.delays ≡ length l.ids
  pub locked_length : length l.locked ≡ length l.ids
  pub xs_length : length l.xs ≡ length l.ids
  pub ys_length : length l.ys ≡ length l.ids
  pub zs_length : length l.zs ≡ length l.ids

-- and so have those of the connections
pub record ConnectionsAligned (m : ConnectionLists) : Type 0 where
  pub sinks_length : length m.sinks ≡ length m.sources
  pub transfers_length : length m.transfers ≡ length m.sources

-- each lent list is a field of the components, in order
pub record ComponentColumns (l : ComponentLists) : Type 0 where
  pub kinds_column : map (λ c. c.kind) (components_of l) ≡ l.kinds
  pub delays_column : map (λ c. c.delay) (components_of l) ≡ l.delays
  pub locked_column : map (λ c. c.locked) (components_of l) ≡ l.locked
  pub xs_column : map (λ c. c.x) (components_of l) ≡ l.xs
  pub ys_column : map (λ c. c.y) (components_of l) ≡ l.ys
  pub zs_column : map (λ c. c.z) (components_of l) ≡ l.zs

pub component-columns : (l : ComponentLists) → ComponentsAligned l → ComponentColumns l
unfolding components_of component_at
component-columns l a =
    record {
      kinds_column = column (λ c. c.kind) (component_at l) (length l.ids) l.kinds 0 a.kinds_length (λ i. refl);
      delays_column = column (λ c. c.delay) (component_at l) (length l.ids) l.delays 0 a.delays_length (λ i. refl);
      locked_column = column (λ c. c.locked) (component_at l) (length l.ids) l.locked 0 a.locked_length (λ i. refl);
      xs_column = column (λ c. c.x) (component_at l) (length l.ids) l.xs (pos 0) a.xs_length (λ i. refl);
      ys_column = column (λ c. c.y) (component_at l) (length l.ids) l.ys (pos 0) a.ys_length (λ i. refl);
      zs_column = column (λ c. c.z) (component_at l) (length l.ids) l.zs (pos 0) a.zs_length (λ i. refl);
    }

-- and so for the connections
pub record ConnectionColumns (m : ConnectionLists) : Type 0 where
  pub sinks_column : map (λ n. n.sink) (connections_of m) ≡ m.sinks
  pub transfers_column : map (λ n. n.transfer) (connections_of m) ≡ m.transfers

pub connection-columns : (m : ConnectionLists) → ConnectionsAligned m → ConnectionColumns m
unfolding connections_of connection_at
connection-columns m a =
    record {
      sinks_column = column (λ n. n.sink) (connection_at m) (length m.sources) m.sinks 0 a.sinks_length (λ i. refl);
      transfers_column = column (λ n. n.transfer) (connection_at m) (length m.sources) m.transfers 0 a.transfers_length (λ i. refl);
    }
