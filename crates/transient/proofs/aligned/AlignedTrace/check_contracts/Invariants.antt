-- The contracts before the i-th are in range and rise. Assumes nothing.
use Rattle.std.proofs.Common.{◌≡◌}
use Rattle.rules.specs.Lent.{contracts_lent}
use Rattle.rules.specs.Refusals.{accepted, first_refusal, rows}
use Rattle.rules.specs.Traces.{contract_tests}
use Rattle.transient.proofs.aligned.AlignedTrace.check_contracts.Given as goal

abbrev pub invariant-loop-i : goal.invariant-loop-i
invariant-loop-i l = accepted ≡ first_refusal (rows (contract_tests (contracts_lent l.self.lent.contracts)) l.i)
