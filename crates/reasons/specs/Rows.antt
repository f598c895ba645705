-- List 3, column by column, and what its reasons are made of. Assumes nothing: these are definitions.
use Rattle.std.specs.Prelude.{◌≡◌, ℕ, ◌+◌, ◌≤◌, pos, length, get_or, set}
use mathlib.Core.List.{List, map, flat_map}
use Rattle.rules.specs.Lists.{written_from, indices}
use Rattle.rules.specs.Ordered.{key_at}
use Rattle.rules.specs.Positions.{id_at}
use Rattle.rules.specs.Scene.{Component}
use Rattle.graph.specs.Adjacency.{Below}
use Rattle.rules.specs.Reasons.{Reason, unequal_reconvergent_delay, own_reason, reason_kind, reason_component, reason_block, reason_minimum, reason_maximum}

-- the columns of list 3
pub record Columns : Type 0 where
  pub kinds : List ℕ
  pub components : List ℕ
  pub blocks : List ℕ
  pub minimums : List ℕ
  pub maximums : List ℕ

abbrev pub columns : (kinds components blocks minimums maximums : List ℕ) → Columns
columns ks cs bs ls hs = record { kinds = ks; components = cs; blocks = bs; minimums = ls; maximums = hs }

-- each column has room for n entries at least
pub record ReasonRoom (n : ℕ) (old : Columns) : Type 0 where
  pub kind_room : n ≤ length old.kinds
  pub component_room : n ≤ length old.components
  pub block_room : n ≤ length old.blocks
  pub minimum_room : n ≤ length old.minimums
  pub maximum_room : n ≤ length old.maximums

-- a reason is put in a place of the columns
pub record ReasonPut (at : ℕ) (reason : Reason) (old new : Columns) : Type 0 where
  pub kind_put : new.kinds ≡ set old.kinds at (reason_kind reason)
  pub component_put : new.components ≡ set old.components at (reason_component reason)
  pub block_put : new.blocks ≡ set old.blocks at (reason_block reason)
  pub minimum_put : new.minimums ≡ set old.minimums at (reason_minimum reason)
  pub maximum_put : new.maximums ≡ set old.maximums at (reason_maximum reason)

-- reasons are written to the columns from a place on
pub record ReasonsWritten (start : ℕ) (rs : List Reason) (old new : Columns) : Type 0 where
  pub kinds_written : new.kinds ≡ written_from start old.kinds (map reason_kind rs)
  pub components_written : new.components ≡ written_from start old.components (map reason_component rs)
  pub blocks_written : new.blocks ≡ written_from start old.blocks (map reason_block rs)
  pub minimums_written : new.minimums ≡ written_from start old.minimums (map reason_minimum rs)
  pub maximums_written : new.maximums ≡ written_from start old.maximums (map reason_maximum rs)

-- and counted; r is the next place
pub record ReasonsListed (start : ℕ) (rs : List Reason) (old new : Columns) (r : ℕ) : Type 0 where
  pub rows : ReasonsWritten start rs old new
  pub next : r ≡ start + length rs

-- a component as far as its own reason looks at it
abbrev pub plain : (id kind locked : ℕ) → Component
plain id kind locked = record { id = id; kind = kind; delay = 0; locked = locked; x = pos 0; y = pos 0; z = pos 0 }

-- the own reasons of the first n components
unfoldable pub own_reasons : (ids kinds locked : List ℕ) → ℕ → List Reason
own_reasons ids kinds locked n = flat_map (λ i. own_reason (plain (get_or ids i 0) (get_or kinds i 0) (get_or locked i 0))) (indices n)

-- an unequal delay by the sums that two lists have for a position
abbrev pub unequal_row : (ids smallest largest : List ℕ) → ℕ → Reason
unequal_row ids smallest largest i = unequal_reconvergent_delay (id_at ids i) (key_at smallest i) (key_at largest i)

-- the positions are of components, which have sums
pub record UnequalAsked (ids smallest largest unequal : List ℕ) : Type 0 where
  pub positions : Below (length ids) unequal
  pub smallest_room : length ids ≤ length smallest
  pub largest_room : length ids ≤ length largest
