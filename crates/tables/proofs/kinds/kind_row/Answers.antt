-- The row at a code, and Air's past the table. Assumes nothing.
use native.Mathlib.Omega.{arith}
use Rattle.rules.specs.Kinds.{kind_row, conductor}
use Rattle.tables.proofs.kinds.kind_row.Goals as goal

pub returns : goal.returns
unfolding kind_row
returns c = cc (c.get.ensures.lookup.4 (omega arith) conductor)
