-- The rows that are still to be read. Assumes nothing.
use Rattle.std.proofs.Common.{◌≡◌, ◌+◌, ◌-◌, ◌≤◌, length}
use Rattle.rules.specs.Text.{max_text}
use Rattle.text.specs.Reading.{rows_more}
use Rattle.text.proofs.reading.read_counted.Given as goal

abbrev pub invariant-loop : goal.invariant-loop
invariant-loop g l =
    (length l.lines.rest ≤ length l.initial.lines.rest)
    × (g.R.ReadRows.taken l.rows + length l.lines.rest ≤ max_text)
    × (rows_more g.R.ReadRows.more l.count l.initial.rows l.initial.lines ≡ rows_more g.R.ReadRows.more (l.count - l.counter) l.rows l.lines)
