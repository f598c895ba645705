-- The component is looked up among the contracts. Assumes nothing.
use Rattle.std.proofs.Common.{arith, Some, ap, sym, ◌∙◌}
use Rattle.std.proofs.lemmas.Bool.{ltb-true, ltb-false}
use Rattle.std.proofs.lemmas.Grind.{get_or_default_zero}
use Rattle.rules.specs.Lent.{contracts_lent}
use Rattle.rules.specs.Verdicts.{intent_of}
use Rattle.transient.proofs.Registered.{registered, not-registered}
use Rattle.transient.proofs.accepted.AcceptedTrace.design_intent.Goals as goal

pub returns-in_err-found : goal.returns-in_err-found
returns-in_err-found c =
    let past = ltb-false _ _ (sym c.in_err-found.ensures.lookup.0) in
    c.from_residual.ensures ∙ not-registered (contracts_lent c.args.self.aligned.lent.contracts) c.args.component c.requires c.args.self.rises (λ h t. omega (arith, h, past))

pub returns-then-found-component : goal.returns-then-found-component
returns-then-found-component c =
    let here = c.in_ok-found.ensures.lookup.1 in
    not-registered (contracts_lent c.args.self.aligned.lent.contracts) c.args.component c.requires c.args.self.rises
    (λ h t. c.if-found-component.true (here ∙ get_or_default_zero c.args.self.aligned.lent.contracts.components.now c.args.below c.in_ok-found.field-0.now h ∙ t))

pub returns : goal.returns
returns c =
    let inside = ltb-true _ _ (sym c.in_ok-found.ensures.lookup.0) in
    let here = c.in_ok-found.ensures.lookup.1 in
    ap Some (c.signal_intent.ensures ∙ ap intent_of c.contract.ensures)
    ∙ registered (contracts_lent c.args.self.aligned.lent.contracts) c.args.component c.requires inside
    (sym (here ∙ get_or_default_zero c.args.self.aligned.lent.contracts.components.now c.args.below c.in_ok-found.field-0.now inside) ∙ c.if-found-component.false)
