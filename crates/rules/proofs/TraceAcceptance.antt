-- What an accepted trace call and an accepted recording satisfy, what a refused one leaves, and that the lent lists are the fields of the events
-- and contracts. Assumes nothing.
use mathlib.Core.Bool.{not, ◌&&◌, ◌||◌}
use mathlib.Core.List.Memᴰ
use mathlib.Core.List.{List, map, map-map, map-id, flat_map, Memᴰ}
use mathlib.Core.Path.{◌≡◌, refl, subst, ◌∙◌}
use Prim.Native.Nat.{ℕ, zero, suc, ◌+◌, ◌-◌, ◌*◌, ◌≤◌, ◌<◌}
use native.Mathlib.Omega.{arith}
use lib.Dec.{T, T_not, not_T, eqb, ltb, leb, eqb→eq, nleb→lt, lt→ltb, leb→le}
use lib.ListN.{length, get_or}
use Rattle.rules.specs.Lists.{indices, sum}
use Rattle.rules.specs.Ordered.{Rises}
use Rattle.rules.specs.Refusals.{Test, Checked, accepted, first_refusal, lengths_differ, output}
use Rattle.rules.specs.Pulses.{Event, EventLists, EventsAligned, event_at, events_of}
use Rattle.rules.specs.Verdicts.{Contract, ContractLists, ContractsAligned, contract_at, contracts_of, Finding, FindingLists, FindingsListed}
use Rattle.rules.specs.Traces.{TraceLimits, TraceLists, event_count, contract_count, event_lengths, contract_lengths, contract_out_of_range, not_above_before, event_test, contract_tests, trace_tests, check_trace, trace_findings, AssessedBy}
use Rattle.rules.specs.Recording.{TransientRecord, record_false, record_tests, check_recording}
use Rattle.std.specs.Prelude.{Err}
use Rattle.rules.specs.declared.answers.Refusal.{Refusal}
use Rattle.rules.proofs.Lists.{passes, or-none, and_left, and_right, and_both, eq_test, tests}
use Rattle.rules.proofs.Indices.{made-length, column, indices-below, below-indices}
use Rattle.rules.proofs.FirstRefusal.{at_most, all_same, same-all, NoneHold, within, none-nil, none-cons, none-append, none-map, none-flat, none-parts, none_each, none-holds, accepted-if}
use Rattle.rules.proofs.Acceptance.{output-long, output-long-test}

-- the values that a contract's intent uses are in their ranges
pub record ContractFits (c : Contract) : Type 0 where
  pub intent_fits : c.intent ≤ 3
  pub stable_fits : c.intent ≡ 1 → c.powered ≤ 1
  pub pulse_fits : c.intent ≡ 2 → (c.polarity ≤ 1) × (c.unit ≤ 1)
  pub maximum_fits : c.intent ≡ 3 → (c.polarity ≤ 1) × (c.unit ≤ 1)

-- what acceptance says of a trace, if list 9 needs so many entries and its fields' lists have these lengths
pub record AcceptedTrace (limits : TraceLimits) (t : TraceLists) (need : ℕ) (lengths : List ℕ) : Type 0 where
  pub events_aligned : EventsAligned t.events
  pub contracts_aligned : ContractsAligned t.contracts
  pub events_few : event_count t ≤ limits.events
  pub contracts_few : contract_count t ≤ limits.contracts
  pub lists_long : (n : ℕ) → Memᴰ n lengths → need ≤ n
  pub unit_fits : t.unit ≤ 1
  pub events_fit : (e : Event) → Memᴰ e (events_of t.events) → e.powered ≤ 1
  pub contracts_fit : (c : Contract) → Memᴰ c (contracts_of t.contracts) → ContractFits c
  pub contracts_rise : Rises t.contracts.components

-- the tallies of a record sum to its findings, and these are no more than its traces can have
pub record RecordTrue (limits : TraceLimits) (r : TransientRecord) : Type 0 where
  pub tallies_counted : sum r.tallies ≡ r.findings
  pub findings_few : r.findings ≤ limits.findings_each * r.traces

-- what acceptance says of a recording
pub record AcceptedRecording (limits : TraceLimits) (r : TransientRecord) (t : TraceLists) (lengths : List ℕ) : Type 0 where
  pub record_true : RecordTrue limits r
  pub traces_few : r.traces < limits.traces
  pub trace_accepted : AcceptedTrace limits t (r.findings + event_count t) lengths

-- Each test of a trace fails exactly where its fact holds
module _ (l : EventLists) where
  pub aligned-events : (T (lengths_differ (event_lengths l)) → ⊥) → EventsAligned l
  unfolding event_lengths
  aligned-events h = let a = all_same _ _ h in record { components_length = a.0; powered_length = a.1.0 }

  aligned-events-test : EventsAligned l → T (lengths_differ (event_lengths l)) → ⊥
  unfolding event_lengths
  aligned-events-test a = same-all _ _ (a.components_length, (a.powered_length, tt))

module _ (l : ContractLists) where
  pub aligned-contracts : (T (lengths_differ (contract_lengths l)) → ⊥) → ContractsAligned l
  unfolding contract_lengths
  aligned-contracts h =
      let a = all_same _ _ h in
      record { intents_length = a.0; powered_length = a.1.0; polarities_length = a.1.1.0; units_length = a.1.1.1.0; smallest_length = a.1.1.1.1.0; largest_length = a.1.1.1.1.1.0 }

  aligned-contracts-test : ContractsAligned l → T (lengths_differ (contract_lengths l)) → ⊥
  unfolding contract_lengths
  aligned-contracts-test a = same-all _ _ (a.intents_length, (a.powered_length, (a.polarities_length, (a.units_length, (a.smallest_length, (a.largest_length, tt))))))

module _ (c : Contract) where
  contract-fits : (T (contract_out_of_range c) → ⊥) → ContractFits c
  unfolding contract_out_of_range
  contract-fits h = record {
    intent_fits = at_most 3 c.intent (λ t. h (search tests));
    stable_fits = λ e. let s = eq_test e in at_most 1 c.powered (λ t. h (search tests));
    pulse_fits = λ e. let s = eq_test e in (at_most 1 c.polarity (λ t. h (search tests)), at_most 1 c.unit (λ t. h (search tests)));
    maximum_fits = λ e. let s = eq_test e in (at_most 1 c.polarity (λ t. h (search tests)), at_most 1 c.unit (λ t. h (search tests)));
  }

  contract-fits-test : ContractFits c → T (contract_out_of_range c) → ⊥
  unfolding contract_out_of_range
  contract-fits-test a = or-none (ltb 3 c.intent) _ (within 3 _ a.intent_fits) (or-none (eqb c.intent 1 && ltb 1 c.powered) _ stable pulse)
    where
      stable : T (eqb c.intent 1 && ltb 1 c.powered) → ⊥
      stable t = within 1 _ (a.stable_fits (eqb→eq _ _ (and_left (eqb c.intent 1) _ t))) (and_right (eqb c.intent 1) _ t)

      both : (c.polarity ≤ 1) × (c.unit ≤ 1) → T (ltb 1 c.polarity || ltb 1 c.unit) → ⊥
      both k = or-none (ltb 1 c.polarity) _ (within 1 _ k.0) (within 1 _ k.1)

      pulse : T ((eqb c.intent 2 || eqb c.intent 3) && (ltb 1 c.polarity || ltb 1 c.unit)) → ⊥
      pulse t =
          let s = and_right (eqb c.intent 2 || eqb c.intent 3) _ t in
          or-none (eqb c.intent 2) _ (λ q. both (a.pulse_fits (eqb→eq _ _ q)) s) (λ q. both (a.maximum_fits (eqb→eq _ _ q)) s) (and_left (eqb c.intent 2 || eqb c.intent 3) _ t)

one-back : (i : ℕ) → suc i - 1 ≡ i
one-back i = omega arith

module _ (l : List ℕ) where
  rises : ((i : ℕ) → i < length l → T (not_above_before l i) → ⊥) → Rises l
  unfolding not_above_before
  rises h i k = nleb→lt _ _ (not_T (leb (get_or l (suc i) 0) (get_or l i 0)) (λ t. h (suc i) k (and_both (ltb 0 (suc i)) _ (lt→ltb 0 (suc i) (omega arith)) (rw one-back t))))

  rises-test : Rises l → (i : ℕ) → i < length l → T (not_above_before l i) → ⊥
  unfolding not_above_before
  rises-test a zero k t = t
  rises-test a (suc i) k t = omega (arith, a i k, leb→le (get_or l (suc i) 0) (get_or l i 0) (rw one-back at (and_right (ltb 0 (suc i)) _ t)))

module _ (limits : TraceLimits) (t : TraceLists) (need : ℕ) (lengths : List ℕ) where
  abbrev event_rows : List Test
  event_rows = map (event_test t.events) (indices (event_count t))

  abbrev contract_rows : List Test
  contract_rows = flat_map (contract_tests t.contracts) (indices (contract_count t))

  none→trace : NoneHold (trace_tests limits t need lengths) → AcceptedTrace limits t need lengths
  unfolding trace_tests contract_tests events_of contracts_of event_count contract_count
  none→trace h = record {
    events_aligned = aligned-events t.events (h _ (Memᴰ.head refl));
    contracts_aligned = aligned-contracts t.contracts (h _ (Memᴰ.tail (Memᴰ.head refl)));
    events_few = at_most _ _ (h _ (Memᴰ.tail (Memᴰ.tail (Memᴰ.head refl))));
    contracts_few = at_most _ _ (h _ (Memᴰ.tail (Memᴰ.tail (Memᴰ.tail (Memᴰ.head refl)))));
    lists_long = output-long (output 9 need lengths) (h _ (Memᴰ.tail (Memᴰ.tail (Memᴰ.tail (Memᴰ.tail (Memᴰ.head refl))))));
    unit_fits = at_most _ _ (h _ (Memᴰ.tail (Memᴰ.tail (Memᴰ.tail (Memᴰ.tail (Memᴰ.tail (Memᴰ.head refl)))))));
    events_fit = λ e k. let r = Memᴰ.of_map (event_at t.events) (indices (event_count t)) k in subst (λ e. e.powered ≤ 1) r.2 (at_most _ _ (rows.0 _ (Memᴰ.map (event_test t.events) r.1)));
    contracts_fit = λ c k. let r = Memᴰ.of_map (contract_at t.contracts) _ k in subst ContractFits r.2 (contract-fits _ (at-contract r.0 r.1 _ (Memᴰ.head refl)));
    contracts_rise = rises t.contracts.components (λ i k. at-contract i (below-indices _ k) _ (Memᴰ.tail (Memᴰ.head refl)));
  }
    where
      rows : NoneHold event_rows × NoneHold contract_rows
      rows = none-parts event_rows contract_rows (λ s m. h s (Memᴰ.tail (Memᴰ.tail (Memᴰ.tail (Memᴰ.tail (Memᴰ.tail (Memᴰ.tail m)))))))

      at-contract : (i : ℕ) → Memᴰ i (indices (contract_count t)) → NoneHold (contract_tests t.contracts i)
      at-contract = none_each (contract_tests t.contracts) _ rows.1

  trace→none : AcceptedTrace limits t need lengths → NoneHold (trace_tests limits t need lengths)
  unfolding trace_tests contract_tests events_of contracts_of event_count contract_count
  trace→none a =
      none-cons (aligned-events-test t.events a.events_aligned) (none-cons (aligned-contracts-test t.contracts a.contracts_aligned)
      (none-cons (within _ _ a.events_few) (none-cons (within _ _ a.contracts_few)
      (none-cons (output-long-test (output 9 need lengths) a.lists_long) (none-cons (within _ _ a.unit_fits)
      (none-append event_rows (none-map (event_test t.events) (indices (event_count t)) (λ i k. within 1 _ (a.events_fit _ (Memᴰ.map (event_at t.events) k))))
      (none-flat (contract_tests t.contracts) _ at-contract)))))))
    where
      at-contract : (i : ℕ) → Memᴰ i (indices (contract_count t)) → NoneHold (contract_tests t.contracts i)
      at-contract i k =
          none-cons (contract-fits-test _ (a.contracts_fit _ (Memᴰ.map (contract_at t.contracts) k))) (none-cons (rises-test t.contracts.components a.contracts_rise i (indices-below _ k)) none-nil)

  -- the tests accept a trace exactly where it has these facts
  pub accepted→trace : first_refusal (trace_tests limits t need lengths) ≡ accepted → AcceptedTrace limits t need lengths
  accepted→trace e = none→trace (none-holds _ e)

  pub trace→accepted : AcceptedTrace limits t need lengths → first_refusal (trace_tests limits t need lengths) ≡ accepted
  trace→accepted a = accepted-if _ (trace→none a)

-- so does the trace call, whose list 9 needs one entry for each event
module _ (limits : TraceLimits) (t : TraceLists) (lengths : List ℕ) where
  pub checked→trace : check_trace limits t lengths ≡ accepted → AcceptedTrace limits t (event_count t) lengths
  unfolding check_trace
  checked→trace = accepted→trace limits t (event_count t) lengths

  pub trace→checked : AcceptedTrace limits t (event_count t) lengths → check_trace limits t lengths ≡ accepted
  unfolding check_trace
  trace→checked = trace→accepted limits t (event_count t) lengths

-- the test of a false record fails exactly where the record is true
module _ (limits : TraceLimits) (r : TransientRecord) where
  pub not-false→true : (T (record_false limits r) → ⊥) → RecordTrue limits r
  unfolding record_false
  not-false→true h = record {
    tallies_counted = eqb→eq _ _ (passes (eqb (sum r.tallies) r.findings) (λ t. h (search tests)));
    findings_few = at_most _ _ (λ t. h (search tests));
  }

  pub true→not-false : RecordTrue limits r → T (record_false limits r) → ⊥
  unfolding record_false
  true→not-false a =
      or-none (not (eqb (sum r.tallies) r.findings)) _ (λ t. T_not (eqb (sum r.tallies) r.findings) t (eq_test a.tallies_counted)) (within _ _ a.findings_few)

-- a recording is accepted exactly where it has these facts
module _ (limits : TraceLimits) (r : TransientRecord) (t : TraceLists) (lengths : List ℕ) where
  pub checked→recording : check_recording limits r t lengths ≡ accepted → AcceptedRecording limits r t lengths
  unfolding check_recording record_tests
  checked→recording e = record {
    record_true = not-false→true limits r (none _ (Memᴰ.head refl));
    traces_few = nleb→lt _ _ (not_T (leb limits.traces r.traces) (none _ (Memᴰ.tail (Memᴰ.head refl))));
    trace_accepted = none→trace limits t _ lengths (λ s m. none s (Memᴰ.tail (Memᴰ.tail m)));
  }
    where
      none : NoneHold (record_tests limits r t lengths)
      none = none-holds _ e

  pub recording→checked : AcceptedRecording limits r t lengths → check_recording limits r t lengths ≡ accepted
  unfolding check_recording record_tests
  recording→checked a =
      accepted-if _ (none-cons (true→not-false limits r a.record_true) (none-cons (λ s. omega (arith, a.traces_few, leb→le limits.traces r.traces s))
      (trace→none limits t _ lengths a.trace_accepted)))

-- there are as many events as ticks, and as many contracts as contract components
pub events-length : (l : EventLists) → length (events_of l) ≡ length l.ticks
unfolding events_of
events-length l = made-length (event_at l) (length l.ticks)

pub contracts-length : (l : ContractLists) → length (contracts_of l) ≡ length l.components
unfolding contracts_of
contracts-length l = made-length (contract_at l) (length l.components)

-- the index of an event is its place
pub event-indices : (l : EventLists) → map (λ e. e.index) (events_of l) ≡ indices (length l.ticks)
unfolding events_of event_at
event-indices l = map-map (λ e. e.index) (event_at l) (indices (length l.ticks)) ∙ map-id (indices (length l.ticks))

-- each lent list is a field of the events, in order
pub record EventColumns (l : EventLists) : Type 0 where
  pub ticks_column : map (λ e. e.tick) (events_of l) ≡ l.ticks
  pub components_column : map (λ e. e.component) (events_of l) ≡ l.components
  pub powered_column : map (λ e. e.powered) (events_of l) ≡ l.powered

pub event-columns : (l : EventLists) → EventsAligned l → EventColumns l
unfolding events_of event_at
event-columns l a =
    record {
      ticks_column = column (λ e. e.tick) (event_at l) (length l.ticks) l.ticks 0 refl (λ i. refl);
      components_column = column (λ e. e.component) (event_at l) (length l.ticks) l.components 0 a.components_length (λ i. refl);
      powered_column = column (λ e. e.powered) (event_at l) (length l.ticks) l.powered 0 a.powered_length (λ i. refl);
    }

-- and so for the contracts
pub record ContractColumns (l : ContractLists) : Type 0 where
  pub components_column : map (λ c. c.component) (contracts_of l) ≡ l.components
  pub intents_column : map (λ c. c.intent) (contracts_of l) ≡ l.intents
  pub powered_column : map (λ c. c.powered) (contracts_of l) ≡ l.powered
  pub polarities_column : map (λ c. c.polarity) (contracts_of l) ≡ l.polarities
  pub units_column : map (λ c. c.unit) (contracts_of l) ≡ l.units
  pub smallest_column : map (λ c. c.smallest) (contracts_of l) ≡ l.smallest
  pub largest_column : map (λ c. c.largest) (contracts_of l) ≡ l.largest

pub contract-columns : (l : ContractLists) → ContractsAligned l → ContractColumns l
unfolding contracts_of contract_at
contract-columns l a =
    record {
      components_column = column (λ c. c.component) (contract_at l) (length l.components) l.components 0 refl (λ i. refl);
      intents_column = column (λ c. c.intent) (contract_at l) (length l.components) l.intents 0 a.intents_length (λ i. refl);
      powered_column = column (λ c. c.powered) (contract_at l) (length l.components) l.powered 0 a.powered_length (λ i. refl);
      polarities_column = column (λ c. c.polarity) (contract_at l) (length l.components) l.polarities 0 a.polarities_length (λ i. refl);
      units_column = column (λ c. c.unit) (contract_at l) (length l.components) l.units 0 a.units_length (λ i. refl);
      smallest_column = column (λ c. c.smallest) (contract_at l) (length l.components) l.smallest 0 a.smallest_length (λ i. refl);
      largest_column = column (λ c. c.largest) (contract_at l) (length l.components) l.largest 0 a.largest_length (λ i. refl);
    }

-- list 9 left as it was
pub untouched : (fs : List Finding) (o : FindingLists) → FindingsListed (λ a b. a) fs o o
untouched fs o =
    record {
      components_listed = refl;
      polarities_listed = refl;
      units_listed = refl;
      start_ticks_listed = refl;
      end_ticks_listed = refl;
      widths_listed = refl;
      steady_listed = refl;
      baselines_listed = refl;
      starts_listed = refl;
      ends_listed = refl;
      verdicts_listed = refl;
      rationales_listed = refl;
    }

-- the answer of a call that is refused
pub refused-assessed : {v : Checked} {start : ℕ} {r : Refusal} {t : TraceLists} (old : FindingLists) → v ≡ Err r → AssessedBy v start t old old (Err r)
refused-assessed {t = t} old e = rw e (record { assessed = refl; numbered = refl; tallied = refl; listed = untouched (trace_findings t) old })
