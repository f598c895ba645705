-- Events lent as records. Assumes nothing: these are definitions.
use Rattle.std.specs.Prelude.{List, map}
use Rattle.rules.specs.Pulses.{EventLists, event_lists}
use Rattle.events.specs.declared.records.BehaviorEvent.{BehaviorEvent}

-- the lists of their fields
abbrev pub events_of_records : List BehaviorEvent → EventLists
events_of_records es = event_lists (map (λ e. e.tick) es) (map (λ e. e.component) es) (map (λ e. e.powered) es)
