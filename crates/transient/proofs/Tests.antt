-- The tests of events and contracts, row by row. Assumes nothing.
use mathlib.Core.Bool.{Bool, true, false, cond}
use mathlib.Core.List.{List, [], ◌∷◌, ◌++◌, map, map-append}
use mathlib.Core.Path.{◌≡◌, refl, sym, ap, ◌∙◌}
use Prim.Native.Nat.{ℕ, zero, suc, ◌+◌, ◌-◌, ◌<◌, ◌≤◌}
use native.Mathlib.Omega.{arith}
use borrow.Author.Tests.{ltb-false}
use lib.Dec.{ltb}
use lib.ListN.{length, get_or}
use Rattle.std.specs.Prelude.{Some, None, Ok, Err}
use Rattle.std.specs.List.{position, position_or_len}
use Rattle.std.proofs.lemmas.List.Sums.{fails_before_first}
use Rattle.rules.specs.Decoded.{ReadsUnit}
use Rattle.rules.specs.declared.transient.TraceTimeUnit.{TraceTimeUnit}
use Rattle.rules.specs.Lists.{from, indices}
use Rattle.rules.specs.Ordered.{Rises}
use Rattle.rules.specs.Refusals.{Test, test, Checked, accepted, refused, first_refusal, rows}
use Rattle.rules.specs.declared.answers.Refusal.{Refusal}
use Rattle.rules.specs.Verdicts.{ContractLists, contract_at}
use Rattle.rules.specs.Traces.{TraceLists, event_count, contract_count, contract_out_of_range, not_above_before, event_test, contract_tests, value_tests, trace_limits, trace_tests}
use Rattle.rules.specs.Lent.{trace_lent}
use Rattle.rules.specs.declared.lent.Trace.{Trace}
use Rattle.rules.proofs.TraceAcceptance.{accepted→trace}
use Rattle.transient.specs.Tested.{length_tests, size_tests}
use Rattle.rules.specs.declared.answers.RefusalKind.TheVariants.{TraceOutOfRange, ContractsNotRising}
use Rattle.rules.proofs.Indices.{indices-split, indices-below, from_next}
use Rattle.rules.proofs.FirstRefusal.{none-map, accepted-if, stop, more, end, skip, stay, within, flag-set, flag-clear, rows_more, rows-stop}

-- One test for each index: none holds, or one is the first
module _ (f : ℕ → Test) where
  pub none_of : (n : ℕ) → ((k : ℕ) → k < n → (f k).holds ≡ false) → accepted ≡ first_refusal (map f (indices n))
  none_of n h = sym (accepted-if (map f (indices n)) (none-map f (indices n) (λ k m t. flag-clear refl (h k (indices-below n m)) t)))

  pub first_of : (i n : ℕ) → i < n → (f i).holds ≡ true → ((k : ℕ) → k < i → (f k).holds ≡ false) → refused (f i).kind (f i).place ≡ first_refusal (map f (indices n))
  first_of i n h here before =
      let later : List Test = map f (from (suc i) (n - suc i)) in
      skip (map f (indices i)) (f i ∷ later) (none_of i before) (stop (f i).holds later (flag-set refl here))
      ∙ ap first_refusal (sym (ap (map f) (indices-split i n (omega arith) ∙ ap (λ l. indices i ++ l) (from_next i n h)) ∙ map-append f (indices i) (i ∷ from (suc i) (n - suc i))))

-- One contract more
module _ (l : ContractLists) (i : ℕ) (before : accepted ≡ first_refusal (rows (contract_tests l) i)) {out : Bool} (ranged : out ≡ contract_out_of_range (contract_at l i)) where
  pub contract-out : i < length l.components → out ≡ true → refused TraceOutOfRange i ≡ first_refusal (rows (contract_tests l) (length l.components))
  unfolding contract_tests
  contract-out h e = rows-stop (contract_tests l) i _ h before (stop (contract_out_of_range (contract_at l i)) _ (flag-set ranged e))

  module _ (clear : out ≡ false) {low : Bool} (compared : low ≡ not_above_before l.components i) where
    pub contract-low : i < length l.components → low ≡ true → refused ContractsNotRising i ≡ first_refusal (rows (contract_tests l) (length l.components))
    unfolding contract_tests
    contract-low h e =
        rows-stop (contract_tests l) i _ h before (more (test (contract_out_of_range (contract_at l i)) TraceOutOfRange i) _ (flag-clear ranged clear) (stop (not_above_before l.components i) [] (flag-set compared e)))

    pub next-contract : low ≡ false → accepted ≡ first_refusal (rows (contract_tests l) (i + 1))
    unfolding contract_tests
    next-contract e =
        let s : i + 1 ≡ suc i = omega arith in
        rw s (rows_more (contract_tests l) i before (more (test (contract_out_of_range (contract_at l i)) TraceOutOfRange i) _ (flag-clear ranged clear) (more (test (not_above_before l.components i) ContractsNotRising i) [] (flag-clear compared e) end)))

-- No entry is at a position that passes
pub position-none : {X : Type 0} (p : X → Bool) (xs : List X) (d : X) → position p xs ≡ None → (k : ℕ) → k < length xs → p (get_or xs k d) ≡ false
position-none p xs d e k h = let b : k < position_or_len p xs = go (ltb (position_or_len p xs) (length xs)) refl e in fails_before_first p xs k d b
  where
    go : (b : Bool) → ltb (position_or_len p xs) (length xs) ≡ b → cond b (Some (position_or_len p xs)) None ≡ None → k < position_or_len p xs
    go true q n = absurd (let z : ◌≡◌ {A = ℕ} 0 1 = cc in omega arith)
    go false q n = omega (arith, ltb-false (position_or_len p xs) (length xs) q)

-- The unit, the events, the contracts
pub read-fits : (code : ℕ) {unit : TraceTimeUnit} → ReadsUnit code (Ok unit) → code ≤ 1
read-fits zero e = omega arith
read-fits (suc zero) e = omega arith
read-fits (suc (suc code)) e = cc

module _ (t : TraceLists) (fits : t.unit ≤ 1) where
  abbrev event_tests : List Test
  event_tests = map (event_test t.events) (indices (event_count t))

  abbrev contract_rows : List Test
  contract_rows = rows (contract_tests t.contracts) (contract_count t)

  past-unit : {v : Checked} → v ≡ first_refusal (event_tests ++ contract_rows) → v ≡ first_refusal (value_tests t)
  past-unit = more (test (ltb 1 t.unit) TraceOutOfRange 0) _ (within 1 t.unit fits)

  pub event-refused : {r : Refusal} → Err r ≡ first_refusal event_tests → Err r ≡ first_refusal (value_tests t)
  event-refused e = past-unit (stay event_tests contract_rows e)

  pub then-contracts : {v : Checked} → accepted ≡ first_refusal event_tests → v ≡ first_refusal contract_rows → v ≡ first_refusal (value_tests t)
  then-contracts e c = past-unit (skip event_tests contract_rows e c)

-- The lengths, the sizes, the values. The trace that is aligned is this trace
module _ (start : ℕ) (trace : Trace) (room : ℕ) where
  abbrev t : TraceLists
  t = trace_lent trace

  abbrev need : ℕ
  need = start + length t.events.ticks

  abbrev sizes : List Test
  sizes = size_tests trace_limits t need room

  module _ (alike : accepted ≡ first_refusal (length_tests t)) where
    module _ (few : accepted ≡ first_refusal sizes) {it : Trace} (same : it ≡ trace) where
      then-values : {v : Checked} → v ≡ first_refusal (value_tests (trace_lent it)) → v ≡ first_refusal (trace_tests trace_limits t need (room ∷ []))
      unfolding trace_tests
      then-values e = skip (length_tests t) (sizes ++ value_tests t) alike (skip sizes (value_tests t) few (e ∙ ap (λ x. first_refusal (value_tests (trace_lent x))) same))

      pub then-rises : accepted ≡ first_refusal (value_tests (trace_lent it)) → Rises it.contracts.components.now
      then-rises e = rw same (accepted→trace trace_limits t need (room ∷ []) (sym (then-values e))).contracts_rise
