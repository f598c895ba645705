-- The trace call: its refusals in their order, and its answer. Assumes nothing: these are definitions.
use Rattle.std.specs.Prelude.{Result, Ok, Err, Bool, ◌&&◌, ◌||◌, List, [], ◌∷◌, ◌++◌, map, ◌≡◌, ℕ, ◌+◌, ◌-◌, eqb, leb, ltb, length, get_or, replicate}
use Rattle.rules.specs.Lists.{indices}
use Rattle.rules.specs.Codes.{unit_of, refusal_code}
use Rattle.rules.specs.Refusals.{Checked, Test, test, first_refusal, answer_of, after_from, output, output_test, lengths_differ, rows}
use Rattle.rules.specs.Pulses.{EventLists, event_at, events_of}
use Rattle.rules.specs.Verdicts.{Contract, ContractLists, contract_at, contracts_of, Finding, findings, tallies, FindingLists, finding_lengths, FindingsListed}
use Rattle.rules.specs.declared.answers.Refusal.{Refusal}
use Rattle.rules.specs.declared.answers.RefusalKind.TheVariants.{LengthsDiffer, TooManyEvents, TooManyContracts, TraceOutOfRange, ContractsNotRising}
use Rattle.rules.specs.declared.transient.TransientAssessment.{TransientAssessment}

-- the sizes that a trace, its contracts and a record may have
pub record TraceLimits : Type 0 where
  pub events : ℕ
  pub contracts : ℕ
  pub traces : ℕ
  pub findings_each : ℕ

-- "events over 4,096", "contracts over 512", "record already holds 64 traces or more", "findings exceed 4,096 times traces"
abbrev pub trace_limits : TraceLimits
trace_limits = record { events = 4096; contracts = 512; traces = 64; findings_each = 4096 }

-- what a trace call gets: a time unit, events and contracts
pub record TraceLists : Type 0 where
  pub unit : ℕ
  pub events : EventLists
  pub contracts : ContractLists

abbrev pub trace_lists : (unit : ℕ) → EventLists → ContractLists → TraceLists
trace_lists unit events contracts = record { unit = unit; events = events; contracts = contracts }

unfoldable pub event_count : TraceLists → ℕ
event_count t = length t.events.ticks

unfoldable pub contract_count : TraceLists → ℕ
contract_count t = length t.contracts.components

unfoldable pub event_lengths : EventLists → List ℕ
event_lengths l = length l.ticks ∷ length l.components ∷ length l.powered ∷ []

unfoldable pub contract_lengths : ContractLists → List ℕ
contract_lengths l =
    length l.components ∷ length l.intents ∷ length l.powered ∷ length l.polarities ∷ length l.units ∷ length l.smallest
    ∷ length l.largest ∷ []

-- 11: "time unit, event or contract code out of range"; "fields an intent doesn't use are not read, so 11 passes over them"
unfoldable pub contract_out_of_range : Contract → Bool
contract_out_of_range c =
    ltb 3 c.intent
    || ((eqb c.intent 1 && ltb 1 c.powered) || ((eqb c.intent 2 || eqb c.intent 3) && (ltb 1 c.polarity || ltb 1 c.unit)))

-- 12: "contract component not above the one before"
unfoldable pub not_above_before : List ℕ → ℕ → Bool
not_above_before components i = ltb 0 i && leb (get_or components i 0) (get_or components (i - 1) 0)

abbrev pub event_test : EventLists → ℕ → Test
event_test l i = test (ltb 1 (event_at l i).powered) TraceOutOfRange i

-- "contracts one by one (11 then 12)"
unfoldable pub contract_tests : ContractLists → ℕ → List Test
contract_tests l i = test (contract_out_of_range (contract_at l i)) TraceOutOfRange i ∷ test (not_above_before l.components i) ContractsNotRising i ∷ []

-- "11 for unit, then events, then contracts one by one (11 then 12)"
abbrev pub value_tests : TraceLists → List Test
value_tests t =
    test (ltb 1 t.unit) TraceOutOfRange 0 ∷ (map (event_test t.events) (indices (event_count t)) ++ rows (contract_tests t.contracts) (contract_count t))

-- "For a trace: 8, 9, 10, 7, 11 for unit, then events, then contracts one by one (11 then 12)."
-- `need` is the length that list 9 needs, `lengths` those of its fields' number lists
unfoldable pub trace_tests : TraceLimits → TraceLists → (need : ℕ) → (lengths : List ℕ) → List Test
trace_tests limits t need lengths =
    test (lengths_differ (event_lengths t.events)) LengthsDiffer 2 ∷ test (lengths_differ (contract_lengths t.contracts)) LengthsDiffer 3
    ∷ test (ltb limits.events (event_count t)) TooManyEvents (event_count t) ∷ test (ltb limits.contracts (contract_count t)) TooManyContracts (contract_count t)
    ∷ output_test (output 9 need lengths) ∷ value_tests t

-- the trace call: list 9 "then needs one entry for each event"
unfoldable pub check_trace : TraceLimits → TraceLists → (lengths : List ℕ) → Checked
check_trace limits t lengths = first_refusal (trace_tests limits t (event_count t) lengths)

unfoldable pub trace_findings : TraceLists → List Finding
trace_findings t = findings (unit_of t.unit) (events_of t.events) (contracts_of t.contracts)

-- the answer: the refusal, or how many findings were written, "`contracts_applied` is the contract count", and the tallies of this trace
abbrev pub transient_answer : Checked → TraceLists → Result TransientAssessment Refusal
transient_answer checked t =
    answer_of checked (record { findings = length (trace_findings t); contracts_applied = contract_count t; tallies = tallies (trace_findings t) })

-- the answer's numbers: refusal, place, findings written, contracts given
abbrev pub transient_numbers : Result TransientAssessment Refusal → List ℕ
transient_numbers (Err r) = refusal_code r.kind ∷ r.place ∷ 0 ∷ 0 ∷ []
transient_numbers (Ok a) = 0 ∷ 0 ∷ a.findings ∷ a.contracts_applied ∷ []

-- the tallies, all 0 under a refusal
abbrev pub transient_tallies : Result TransientAssessment Refusal → List ℕ
transient_tallies (Err r) = replicate 5 0
transient_tallies (Ok a) = a.tallies

-- given what the checks find, and the place from which findings are written: the answer, its numbers and its tallies, and what list 9 holds
-- after the call
pub record AssessedBy (checked : Checked) (start : ℕ) (t : TraceLists) (old new : FindingLists) (r : Result TransientAssessment Refusal) : Type 0 where
  pub assessed : r ≡ transient_answer checked t
  pub numbered : transient_numbers r ≡ transient_numbers (transient_answer checked t)
  pub tallied : transient_tallies r ≡ transient_tallies (transient_answer checked t)
  pub listed : FindingsListed (after_from checked start) (trace_findings t) old new

-- the trace call
abbrev pub TraceCall : TraceLimits → TraceLists → (old new : FindingLists) → Result TransientAssessment Refusal → Type 0
TraceCall limits t old new r = AssessedBy (check_trace limits t (finding_lengths old)) 0 t old new r

-- the same with its findings written from a place on, so that list 9 needs as many entries more
abbrev pub TraceCallFrom : TraceLimits → (start : ℕ) → TraceLists → (old new : FindingLists) → Result TransientAssessment Refusal → Type 0
TraceCallFrom limits start t old new r = AssessedBy (first_refusal (trace_tests limits t (start + event_count t) (finding_lengths old))) start t old new r
