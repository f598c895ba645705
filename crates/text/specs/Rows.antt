-- The rows of a scene as they stand in lists. Assumes nothing: these are definitions.
use Rattle.std.specs.Prelude.{take}
use Rattle.rules.specs.Scene.{ComponentLists, ConnectionLists, component_lists, connection_lists}
use Rattle.text.specs.declared.rows.ComponentRows.TheInside as Components
use Rattle.text.specs.declared.rows.ConnectionRows.TheInside as Connections

-- the entries in use
abbrev pub component_fronts : Components.Inside → ComponentLists
component_fronts s = component_lists (take s.len s.ids) (take s.len s.kinds) (take s.len s.delays) (take s.len s.locked) (take s.len s.xs) (take s.len s.ys) (take s.len s.zs)

abbrev pub connection_fronts : Connections.Inside → ConnectionLists
connection_fronts s = connection_lists (take s.len s.sources) (take s.len s.sinks) (take s.len s.transfers)
