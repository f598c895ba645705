-- The form of the field's value.
use Rattle.rules.specs.Text.{delay_word}
use Rattle.reader.proofs.lines.Lines.delay_field.Given as goal

abbrev pub ghost-field : goal.ghost-field
ghost-field a = delay_word
