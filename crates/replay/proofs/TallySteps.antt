-- One text more in a tally. Assumes nothing.
use Rattle.std.proofs.Common.{◌≡◌, ℕ, ◌+◌, Bool, true, false, not, cond, List, [], ◌∷◌, ◌++◌, Option, None, Some, length, refl, sym, ap, ◌∙◌, arith, length-append}
use Rattle.std.specs.Option.{option_or}
use Rattle.std.specs.declared.option.Option.{Option as Known}
use Rattle.replay.specs.declared.Tally.{Tally}
use Rattle.std.proofs.lemmas.List.Sums.{sum_by-append}
use Rattle.replay.specs.Sample.{first_other, others, line, line_of}
use Rattle.replay.specs.Replay.{Tells}

pub others-more : (sames : List Bool) (same : Bool) → others (sames ++ same ∷ []) ≡ others sames + cond same 0 1
others-more sames true = sum_by-append (λ b. cond (not b) 1 0) sames (true ∷ [])
others-more sames false = sum_by-append (λ b. cond (not b) 1 0) sames (false ∷ [])

pub first_other-more : (n : ℕ) (sames : List Bool) (same : Bool) → first_other n (sames ++ same ∷ []) ≡ option_or (first_other n sames) (cond same None (Some (n + length sames + 1)))
first_other-more n [] true = refl
first_other-more n [] false = ap Some (omega arith)
first_other-more n (true ∷ sames) same = first_other-more (n + 1) sames same ∙ ap (λ k. option_or (first_other (n + 1) sames) (cond same None (Some k))) (omega arith)
first_other-more n (false ∷ sames) same = refl

option_or-none : (o : Option ℕ) → option_or o None ≡ o
option_or-none None = refl
option_or-none (Some n) = refl

-- by what the text is found to be
pub same_more : (t : Tally) (sames : List Bool) (same : Bool) → same ≡ true → Tells t sames
    → Tells (record { count = t.count + 1; differ = t.differ; first = t.first }) (sames ++ same ∷ [])
same_more t sames true e tells = record {
  count_is = omega (arith, tells.count_is, length-append sames (true ∷ []));
  differ_is = omega (arith, tells.differ_is, others-more sames true);
  first_is = tells.first_is ∙ sym (first_other-more 0 sames true ∙ option_or-none (first_other 0 sames));
}
same_more t sames false e tells = cc

pub other_more : (t : Tally) (sames : List Bool) (same : Bool) (first : Known ℕ) → same ≡ false → first ≡ option_or t.first (Some (t.count + 1)) → Tells t sames
    → Tells (record { count = t.count + 1; differ = t.differ + 1; first = first }) (sames ++ same ∷ [])
other_more t sames true first e f tells = cc
other_more t sames false first e f tells =
    let count : t.count + 1 ≡ 0 + length sames + 1 = omega (arith, tells.count_is) in
    record {
      count_is = omega (arith, tells.count_is, length-append sames (false ∷ []));
      differ_is = omega (arith, tells.differ_is, others-more sames false);
      first_is = f ∙ ap (λ o. option_or o (Some (t.count + 1))) tells.first_is ∙ ap (λ k. option_or (first_other 0 sames) (Some k)) count ∙ sym (first_other-more 0 sames false);
    }

-- the line of a tally is that of the texts it tells of
pub line_told : (t : Tally) (sames : List Bool) (ending : List ℕ) → Tells t sames → line t.count t.differ t.first ending ≡ line_of sames ending
line_told t sames ending tells = rw (tells.count_is, tells.differ_is, tells.first_is) refl
