-- The forms of the fields' values.
use Rattle.rules.specs.Text.{number64, byte}
use Rattle.reader.proofs.rows.read_connection.Given as goal

abbrev pub ghost-field : goal.ghost-field
ghost-field a = number64

abbrev pub ghost-field-2 : goal.ghost-field-2
ghost-field-2 a = byte
