-- `number_up_to` reads digit by digit. Assumes nothing.
use Rattle.std.proofs.Common.{◌≡◌, ◌≤◌, drop}
use Rattle.rules.specs.Bytes.{number_up_to}
use Rattle.reader.proofs.NumberSteps.{digits_from}
use Rattle.reader.proofs.numbers.number_up_to.Given as goal

abbrev pub invariant-loop-byte : goal.invariant-loop-byte
invariant-loop-byte l = (l.value ≤ l.most) × (number_up_to l.most l.digits ≡ digits_from l.most l.value (drop l.byte-index l.digits))
