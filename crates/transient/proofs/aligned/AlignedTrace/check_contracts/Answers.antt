-- The contracts before the i-th are in range and rise. Assumes nothing.
use Rattle.std.proofs.Common.{Err, ap, ◌∙◌}
use Rattle.rules.specs.Lent.{contracts_lent}
use Rattle.rules.specs.Traces.{contract_out_of_range, contract_tests}
use Rattle.rules.proofs.FirstRefusal.{rows_start}
use Rattle.transient.proofs.Tests.{contract-out, contract-low, next-contract}
use Rattle.transient.proofs.aligned.AlignedTrace.check_contracts.Goals as goal

pub loop-i-init : goal.loop-i-init
loop-i-init c = rows_start (contract_tests (contracts_lent c.args.self.lent.contracts))

pub returns-then-out_of_range : goal.returns-then-out_of_range
returns-then-out_of_range c =
    ap Err c.out_of_range-then-out_of_range.ensures
    ∙ contract-out (contracts_lent c.args.self.lent.contracts) c.loop-i.i c.loop-i.invariant (c.out_of_range.ensures ∙ ap contract_out_of_range c.contract.ensures) c.loop-i-test.true c.if-out_of_range.true

pub returns-then-not_above_before : goal.returns-then-not_above_before
returns-then-not_above_before c =
    contract-low (contracts_lent c.args.self.lent.contracts) c.loop-i.i c.loop-i.invariant (c.out_of_range.ensures ∙ ap contract_out_of_range c.contract.ensures) c.if-out_of_range.false
    c.not_above_before.ensures c.loop-i-test.true c.if-not_above_before.true

pub loop-i-preserved : goal.loop-i-preserved
loop-i-preserved c =
    next-contract (contracts_lent c.args.self.lent.contracts) c.loop-i.i c.loop-i.invariant (c.out_of_range.ensures ∙ ap contract_out_of_range c.contract.ensures) c.if-out_of_range.false
    c.not_above_before.ensures c.if-not_above_before.false
