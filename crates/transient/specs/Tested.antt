-- The tests of a trace, in their steps. Assumes nothing: these are definitions.
use Rattle.std.specs.Prelude.{Result, Ok, Err, List, [], ◌∷◌, ℕ, nat_lt as ltb}
use Rattle.rules.specs.Refusals.{Checked, accepted, Test, test, output, output_test, lengths_differ}
use Rattle.rules.specs.Traces.{TraceLimits, TraceLists, event_count, contract_count, event_lengths, contract_lengths}
use Rattle.rules.specs.declared.answers.Refusal.{Refusal}
use Rattle.rules.specs.declared.answers.RefusalKind.TheVariants.{LengthsDiffer, TooManyEvents, TooManyContracts}

-- what the checks find, where they also hand out what they accept
module _ {A : Type 0} where
  abbrev pub checked_of : Result A Refusal → Checked
  checked_of (Ok a) = accepted
  checked_of (Err r) = Err r

-- 8
abbrev pub length_tests : TraceLists → List Test
length_tests t =
    test (lengths_differ (event_lengths t.events)) LengthsDiffer 2 ∷ test (lengths_differ (contract_lengths t.contracts)) LengthsDiffer 3 ∷ []

-- 9, 10 and 7, where the one number list that counts for list 9 has room for so many entries
abbrev pub size_tests : TraceLimits → TraceLists → (need room : ℕ) → List Test
size_tests limits t need room =
    test (ltb limits.events (event_count t)) TooManyEvents (event_count t) ∷ test (ltb limits.contracts (contract_count t)) TooManyContracts (contract_count t)
    ∷ output_test (output 9 need (room ∷ [])) ∷ []
