-- The form of the field's value.
use Rattle.rules.specs.Bytes.{number_up_to}
use Rattle.reader.proofs.lines.Lines.number_field.Given as goal

abbrev pub ghost-field : goal.ghost-field
ghost-field a = number_up_to a.form.0.now
