-- The unit, the events, the contracts. Assumes nothing.
use Rattle.std.proofs.Common.{rules, ◌≡◌, Err, sym, ◌∙◌}
use Rattle.rules.specs.Lent.{trace_lent}
use Rattle.rules.specs.Traces.{event_count, contract_count}
use Rattle.transient.specs.Tested.{checked_of}
use Rattle.transient.proofs.Tests.{read-fits, event-refused, then-contracts}
use Rattle.transient.proofs.aligned.AlignedTrace.check_values.Goals as goal

pub returns-in_err-check_events-clause-checked : goal.returns-in_err-check_events-clause-checked
unfolding event_count
returns-in_err-check_events-clause-checked c =
    let e : checked_of c.from_residual.result ≡ Err c.in_err-check_events.field-0.0 = search rules in
    e ∙ event-refused (trace_lent c.args.self.lent) (read-fits c.args.self.lent.unit c.in-Ok.ensures) (sym c.in_err-check_events.was ∙ c.check_events.ensures)

pub returns-in_err-check_contracts-clause-checked : goal.returns-in_err-check_contracts-clause-checked
unfolding event_count contract_count
returns-in_err-check_contracts-clause-checked c =
    let e : checked_of c.from_residual-in_err-check_contracts.result ≡ Err c.in_err-check_contracts.field-0.0 = search rules in
    e ∙ then-contracts (trace_lent c.args.self.lent) (read-fits c.args.self.lent.unit c.in-Ok.ensures) (sym c.in_ok-check_events.was ∙ c.check_events.ensures) (sym c.in_err-check_contracts.was ∙ c.check_contracts.ensures)

pub returns-clause-checked : goal.returns-clause-checked
unfolding event_count contract_count
returns-clause-checked c =
    then-contracts (trace_lent c.args.self.lent) (read-fits c.args.self.lent.unit c.in-Ok.ensures) (sym c.in_ok-check_events.was ∙ c.check_events.ensures) (sym c.in_ok-check_contracts.was ∙ c.check_contracts.ensures)
