-- A list that is filled from the front until it is a given list. Assumes nothing.
use mathlib.Core.List.{List, [], ◌∷◌, ◌++◌}
use mathlib.Core.Path.{◌≡◌, refl, sym, ◌∙◌}
use Prim.Native.Nat.{ℕ, ◌+◌, ◌≤◌, ◌<◌}
use native.Mathlib.Omega.{arith}
use native.Mathlib.Numerals.{add-one}
use lib.ListN.{length, get_or, take, set, length-set}
use lib.Seq.{take-suc, take-suc-set, take_all}

-- the first k entries are those of the goal
pub record Filling (goal now : List ℕ) (k : ℕ) : Type 0 where
  pub size : length now ≡ length goal
  pub front : take k now ≡ take k goal

pub filling-none : (goal now : List ℕ) → length now ≡ length goal → Filling goal now 0
filling-none goal now e = record { size = e; front = refl }

pub filling-more : (goal now : List ℕ) (k x : ℕ) → Filling goal now k → k < length goal → get_or goal k 0 ≡ x → Filling goal (set now k x) (k + 1)
filling-more goal now k x f h e = rw add-one (record {
  size = length-set now k x ∙ f.size;
  front = take-suc-set now k x (omega (arith, f.size)) ∙ more ∙ sym (take-suc goal k 0 h);
})
  where
    more : take k now ++ (x ∷ []) ≡ take k goal ++ (get_or goal k 0 ∷ [])
    more = cc f.front

pub filling-done : (goal now : List ℕ) (k : ℕ) → Filling goal now k → length now ≤ k → now ≡ goal
filling-done goal now k f h = sym (take_all k now h) ∙ f.front ∙ take_all k goal (omega (arith, f.size))
