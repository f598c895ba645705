-- The forms of the fields' values.
use Rattle.rules.specs.Bytes.{signed_number}
use Rattle.rules.specs.Text.{number64, byte, flag, delay_word}
use Rattle.reader.proofs.rows.read_component.Given as goal

abbrev pub ghost-field : goal.ghost-field
ghost-field a = number64

abbrev pub ghost-field-2 : goal.ghost-field-2
ghost-field-2 a = byte

abbrev pub ghost-field-3 : goal.ghost-field-3
ghost-field-3 a = delay_word

abbrev pub ghost-field-4 : goal.ghost-field-4
ghost-field-4 a = flag

abbrev pub ghost-field-5 : goal.ghost-field-5
ghost-field-5 a = signed_number
