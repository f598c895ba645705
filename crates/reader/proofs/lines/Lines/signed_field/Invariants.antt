-- The form of the field's value.
use Rattle.rules.specs.Bytes.{signed_number}
use Rattle.reader.proofs.lines.Lines.signed_field.Given as goal

abbrev pub ghost-field : goal.ghost-field
ghost-field a = signed_number
