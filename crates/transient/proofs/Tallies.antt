-- Tallies, finding by finding. Assumes nothing.
use mathlib.Core.Bool.{true, cond}
use mathlib.Core.List.{List, [], ◌∷◌, ◌++◌}
use mathlib.Core.Path.{◌≡◌, refl, ap}
use Prim.Native.Nat.{ℕ, ◌+◌, ◌≤◌}
use native.Mathlib.Omega.{arith}
use lib.Dec.{eqb}
use lib.ListN.{length, get_or, set, replicate}
use Rattle.rules.specs.Lists.{count, from, indices}
use Rattle.rules.specs.Codes.{verdict_code}
use Rattle.rules.specs.Verdicts.{Finding, tally, tallies}
use Rattle.rules.specs.declared.transient.TransientVerdict.{TransientVerdict}
use Rattle.rules.specs.declared.transient.TransientVerdict.TheVariants as Verdict
use Rattle.rules.proofs.Counts.{count-append, count_under, count-every}
use Rattle.rules.proofs.Indices.{made_at}
use Rattle.laws.proofs.TraceRoom.{verdict-below}

abbrev code_of : Finding → ℕ
code_of f = verdict_code f.judgement.verdict

-- what a verdict adds to the tally at k
abbrev step : ℕ → TransientVerdict → ℕ
step k w = cond (eqb (verdict_code w) k) 1 0

module _ (fs : List Finding) (f : Finding) where
  tally-more : (k : ℕ) → tally (fs ++ (f ∷ [])) k ≡ tally fs k + step k f.judgement.verdict
  unfolding tally count
  tally-more k = count-append (λ g. eqb (code_of g) k) fs (f ∷ [])

  module _ (v : TransientVerdict) (e : f.judgement.verdict ≡ v) (k : ℕ) where
    this : step k f.judgement.verdict ≡ step k v
    this = ap (step k) e

    kept : step k v ≡ 0 → tally fs k ≡ tally (fs ++ (f ∷ [])) k
    kept h = omega (arith, tally-more k, this, h)

    raised : step k v ≡ 1 → tally fs k + 1 ≡ tally (fs ++ (f ∷ [])) k
    raised h = omega (arith, tally-more k, this, h)

  more_of : (v : TransientVerdict) → f.judgement.verdict ≡ v → set (tallies fs) (verdict_code v) (get_or (tallies fs) (verdict_code v) 0 + 1) ≡ tallies (fs ++ (f ∷ []))
  unfolding tallies indices from
  more_of Verdict.PulseObserved e = rw (raised Verdict.PulseObserved e 0 refl, kept Verdict.PulseObserved e 1 refl, kept Verdict.PulseObserved e 2 refl, kept Verdict.PulseObserved e 3 refl, kept Verdict.PulseObserved e 4 refl)
  more_of Verdict.TransientDeviation e = rw (kept Verdict.TransientDeviation e 0 refl, raised Verdict.TransientDeviation e 1 refl, kept Verdict.TransientDeviation e 2 refl, kept Verdict.TransientDeviation e 3 refl, kept Verdict.TransientDeviation e 4 refl)
  more_of Verdict.HazardCandidate e = rw (kept Verdict.HazardCandidate e 0 refl, kept Verdict.HazardCandidate e 1 refl, raised Verdict.HazardCandidate e 2 refl, kept Verdict.HazardCandidate e 3 refl, kept Verdict.HazardCandidate e 4 refl)
  more_of Verdict.HazardConfirmed e = rw (kept Verdict.HazardConfirmed e 0 refl, kept Verdict.HazardConfirmed e 1 refl, kept Verdict.HazardConfirmed e 2 refl, raised Verdict.HazardConfirmed e 3 refl, kept Verdict.HazardConfirmed e 4 refl)
  more_of Verdict.IntentionalPulse e = rw (kept Verdict.IntentionalPulse e 0 refl, kept Verdict.IntentionalPulse e 1 refl, kept Verdict.IntentionalPulse e 2 refl, kept Verdict.IntentionalPulse e 3 refl, raised Verdict.IntentionalPulse e 4 refl)

  -- the tally of its verdict is one more
  pub one_tallied : set (tallies fs) (code_of f) (get_or (tallies fs) (code_of f) 0 + 1) ≡ tallies (fs ++ (f ∷ []))
  one_tallied = more_of f.judgement.verdict refl

  -- and was at most as many as there are findings
  pub tally_few : get_or (tallies fs) (code_of f) 0 ≤ length fs
  unfolding tallies tally
  tally_few =
      let k : ℕ = code_of f in
      omega (arith, made_at (tally fs) 5 k 0 (verdict-below f.judgement.verdict), count_under (λ g. eqb (code_of g) k) (λ g. true) fs (λ x m t. tt), count-every fs)

pub no_tallies : replicate 5 0 ≡ tallies []
unfolding tallies tally count indices from
no_tallies = refl
