-- The record of the calls, as the rules speak of it, and the numbers of what a recording answers. Assumes nothing: these are definitions.
use Rattle.std.specs.Prelude.{Result, Ok, Err, List, [], ◌∷◌, ℕ, ◌+◌, ◌<◌, ◌^◌, get_or}
use Rattle.rules.specs.Codes.{refusal_code}
use Rattle.rules.specs.Recording as Rules
use Rattle.rules.specs.declared.answers.Refusal.{Refusal}
use Rattle.recording.specs.declared.held.TransientRecord.{TransientRecord}
use Rattle.recording.specs.declared.held.TransientCounts.{TransientCounts}

-- a record by its fields
abbrev pub record_by : (traces findings : ℕ) → (tallies : List ℕ) → Rules.TransientRecord
record_by traces findings tallies = record { traces = traces; findings = findings; tallies = tallies }

abbrev pub record_of : TransientRecord → Rules.TransientRecord
record_of r = record_by r.traces r.findings r.tallies

-- refusal, place, findings of this trace, contracts given
abbrev pub recorded_numbers : Result TransientCounts Refusal → List ℕ
recorded_numbers (Err r) = refusal_code r.kind ∷ r.place ∷ 0 ∷ 0 ∷ []
recorded_numbers (Ok a) = 0 ∷ 0 ∷ a.findings ∷ a.contracts_applied ∷ []

-- two rows of five tallies whose sums are numbers of 64 bits
abbrev pub Addable : (held added : List ℕ) → Type 0
Addable held added = (k : ℕ) → k < 5 → get_or held k 0 + get_or added k 0 < 2 ^ 64
