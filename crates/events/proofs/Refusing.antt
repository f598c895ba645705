-- The trace call refuses more events than a trace may have, and contract lists that differ in length before them. Assumes nothing.
use mathlib.Core.Bool.{Bool, true, false, cond}
use mathlib.Core.List.{List, [], ◌∷◌}
use mathlib.Core.Path.{◌≡◌, sym, ap, ◌∙◌}
use Prim.Native.Nat.{ℕ, ◌<◌}
use native.Mathlib.Omega.{arith}
use lib.Dec.{T, ltb, lt→ltb}
use lib.ListN.{length, length-map}
use Rattle.std.specs.Prelude.{Err}
use Rattle.rules.specs.Refusals.{Checked, Test, test, first_refusal, lengths_differ}
use Rattle.rules.specs.Verdicts.{ContractLists, FindingLists}
use Rattle.rules.specs.Traces.{TraceLists, trace_limits, trace_lists, event_lengths, contract_lengths, event_count, trace_tests, check_trace, TraceCall}
use Rattle.rules.specs.declared.answers.Refusal.{Refusal}
use Rattle.rules.specs.declared.answers.RefusalKind.TheVariants.{LengthsDiffer, TooManyEvents}
use Rattle.rules.proofs.FirstRefusal.{stop, more, same-all}
use Rattle.rules.proofs.TraceAcceptance.{refused-assessed}
use Rattle.events.specs.declared.records.BehaviorEvent.{BehaviorEvent}
use Rattle.events.specs.Records.{events_of_records}

module _ (unit : ℕ) (es : List BehaviorEvent) (contracts : ContractLists) (old : FindingLists) where
  abbrev t : TraceLists
  t = trace_lists unit (events_of_records es) contracts

  aligned : T (lengths_differ (event_lengths t.events)) → ⊥
  unfolding event_lengths
  aligned =
      let n = length-map es (λ e. e.tick) in
      same-all (length t.events.ticks) (length t.events.components ∷ length t.events.powered ∷ []) (length-map es (λ e. e.component) ∙ sym n, (length-map es (λ e. e.powered) ∙ sym n, tt))

  -- the tests of a trace begin so
  abbrev beginning : Bool → List Test → List Test
  beginning differ rest = test (lengths_differ (event_lengths t.events)) LengthsDiffer 2 ∷ test differ LengthsDiffer 3 ∷ test (ltb trace_limits.events (event_count t)) TooManyEvents (event_count t) ∷ rest

  pub too-many : 4096 < length es → {r : Refusal}
      → r ≡ cond (lengths_differ (contract_lengths contracts)) (record { kind = LengthsDiffer; place = 3 }) (record { kind = TooManyEvents; place = length es }) → TraceCall trace_limits t old old (Err r)
  unfolding check_trace trace_tests event_count
  too-many h e = refused-assessed old (sym (ap Err e ∙ go (lengths_differ (contract_lengths contracts)) _))
    where
      go : (differ : Bool) (rest : List Test) → ◌≡◌ {A = Checked} (Err (cond differ (record { kind = LengthsDiffer; place = 3 }) (record { kind = TooManyEvents; place = length es }))) (first_refusal (beginning differ rest))
      go true rest = more _ _ aligned (stop true _ tt)
      go false rest =
          let n = length-map es (λ e. e.tick) in
          ap (λ k. Err (record { kind = TooManyEvents; place = k })) (sym n)
          ∙ more _ _ aligned (more _ _ (λ x. x) (stop (ltb trace_limits.events (event_count t)) rest (lt→ltb trace_limits.events (event_count t) (omega (arith, n)))))
