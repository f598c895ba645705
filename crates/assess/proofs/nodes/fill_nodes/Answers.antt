-- The components are gone through in order. Assumes nothing.
use Rattle.std.proofs.Common.{arith, rules}
use Rattle.rules.proofs.Made.{made_none, made_more}
use Rattle.tables.proofs.Table.{delay-of-row}
use Rattle.assess.proofs.nodes.fill_nodes.Goals as goal

pub loop-i-init : goal.loop-i-init
loop-i-init c = record { low = made_none _ 0 _; inverts = made_none _ 0 _; compressible = made_none _ 0 _ }

pub loop-i-preserved : goal.loop-i-preserved
loop-i-preserved c =
    let m = c.loop-i.invariant in
    let row = c.kind_row-row.ensures in
    record {
      low = made_more _ 0 _ c.loop-i.i _ _ _ (omega arith) (omega arith) (delay-of-row _ _ _ _ row c.delay_by.ensures) m.low;
      inverts = made_more _ 0 _ c.loop-i.i _ _ _ (omega arith) (omega arith) (rw (c.from.ensures, c.inverts.ensures, row) (search rules)) m.inverts;
      compressible = made_more _ 0 _ c.loop-i.i _ _ _ (omega arith) (omega arith) (rw (c.from-in-loop-i.ensures, c.is_compressible.ensures, row) (search rules)) m.compressible;
    }
