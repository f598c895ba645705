-- The reason is that of the block kind. Assumes nothing.
use native.Mathlib.Omega.{arith}
use Rattle.reasons.proofs.OwnReasons.{own-read}
use Rattle.reasons.proofs.rows.own_reason.Goals as goal

pub returns-in-Comparator : goal.returns-in-Comparator
returns-in-Comparator c = grind (arith, own-read c.args.id c.args.kind c.args.locked c.try_from.result c.try_from.ensures)

pub returns-in_err-ok : goal.returns-in_err-ok
returns-in_err-ok c = grind (arith, own-read c.args.id c.args.kind c.args.locked c.try_from.result c.try_from.ensures)

pub returns-in-Repeater : goal.returns-in-Repeater
returns-in-Repeater c = grind (arith, own-read c.args.id c.args.kind c.args.locked c.try_from.result c.try_from.ensures)

pub returns-in_default : goal.returns-in_default
returns-in_default c = grind (arith, own-read c.args.id c.args.kind c.args.locked c.try_from.result c.try_from.ensures)
