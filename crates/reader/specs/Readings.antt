-- What the readers' answers say, in the words of a scene's text. Assumes nothing: these are definitions.
use Rattle.std.specs.Prelude.{Result, Ok, Err}
use Rattle.rules.specs.Scene.{Component, Connection}
use Rattle.rules.specs.Text.{Place, Reading, broken, read}
use Rattle.rules.specs.declared.answers.Refusal.{Refusal}
use Rattle.rules.specs.declared.answers.RefusalKind.TheVariants.{TextNotInForm}
use Rattle.reader.specs.declared.lines.BrokenLine.{BrokenLine}
use Rattle.reader.specs.declared.rows.ComponentRow.{ComponentRow}
use Rattle.reader.specs.declared.rows.ConnectionRow.{ConnectionRow}

-- what an answer says, and the place where reading stands then
module _ {A : Type 0} where
  abbrev pub reading : Result A BrokenLine → Place → Reading A
  reading (Ok x) p = read x p
  reading (Err e) p = broken e.line

-- the same of an answer that stands for something
module _ {R A : Type 0} (of : R → A) where
  abbrev pub reading_as : Result R BrokenLine → Place → Reading A
  reading_as (Ok r) p = read (of r) p
  reading_as (Err e) p = broken e.line

abbrev pub component_of : ComponentRow → Component
component_of r = record { id = r.id; kind = r.kind; delay = r.delay; locked = r.locked; x = r.x; y = r.y; z = r.z }

abbrev pub connection_of : ConnectionRow → Connection
connection_of r = record { source = r.source; sink = r.sink; transfer = r.transfer }

-- "14 text not in the form"; its place: "line from 1"
abbrev pub line_refused : BrokenLine → Refusal
line_refused e = record { kind = TextNotInForm; place = e.line }
