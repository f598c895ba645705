-- The first level out of its range, if there is one. Assumes nothing.
use Rattle.std.proofs.Common.{arith, Err, length, sym, ap, ◌∙◌, nat_lt}
use Rattle.std.proofs.lemmas.List.Quantifiers.{position-Some}
use Rattle.rules.specs.Lent.{events_lent}
use Rattle.rules.specs.Pulses.{event_at}
use Rattle.rules.specs.Traces.{event_test}
use Rattle.transient.proofs.Tests.{first_of, none_of, position-none}
use Rattle.transient.proofs.aligned.AlignedTrace.check_events.Goals as goal

pub returns-in-Some : goal.returns-in-Some
unfolding event_at
returns-in-Some c =
    let l = c.args.self.lent.events in
    let s = position-Some (λ level. nat_lt 1 level) l.powered.now c.in-Some.i 0 (sym c.first_bad_level.ensures ∙ c.in-Some.is) in
    ap Err c.out_of_range.ensures ∙ first_of (event_test (events_lent l)) c.in-Some.i (length l.ticks.now) (omega (arith, s.0, c.args.self.events.powered_length)) s.1 s.2

pub returns-in-None : goal.returns-in-None
unfolding event_at
returns-in-None c =
    let l = c.args.self.lent.events in
    let n = position-none (λ level. nat_lt 1 level) l.powered.now 0 (sym c.first_bad_level.ensures ∙ c.in-None.is) in
    none_of (event_test (events_lent l)) (length l.ticks.now) (λ k h. n k (omega (arith, c.args.self.events.powered_length)))
