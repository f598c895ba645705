-- A list of several fields is long enough exactly if its shortest number list is. Assumes nothing.
use mathlib.Core.Bool.{◌||◌, or-false}
use mathlib.Core.List.{List, [], ◌∷◌, map}
use mathlib.Core.Path.{◌≡◌, refl, sym, ap, ap₂, ◌∙◌}
use mathlib.Core.Logic.{◌⊎◌, inl, inr, ⊎_elim}
use Prim.Native.Nat.{ℕ, suc, ◌≤◌, ◌<◌, min}
use native.Mathlib.Omega.{arith}
use lib.ListN.{length}
use lib.Dec.{T, ltb, ltb→lt, lt→ltb}
use Rattle.rules.specs.Lists.{any}
use Rattle.rules.specs.declared.answers.RefusalKind.TheVariants.{ListTooShort}
use Rattle.rules.specs.Refusals.{SceneLimits, test, need_of, shortest, EachListed, outputs_from, output_test, room_outputs, size_tests, scene_tests, check_scene}
use Rattle.rules.specs.Scene.{ComponentLists, ConnectionLists}
use Rattle.rules.specs.Describe.{check_describe}
use Rattle.rules.specs.Assess.{check_assess}
use Rattle.rules.proofs.Lists.{same_test, or_cases, or_left, or_right}
use Rattle.rules.proofs.Sums.{order}

-- the smaller of two lengths is too short exactly if one of them is
smaller-short : (n m need : ℕ) → (ltb n need || ltb m need) ≡ ltb (min n m) need
smaller-short n m need = same_test (ltb n need || ltb m need) (ltb (min n m) need)
    (λ t. lt→ltb (min n m) need (⊎_elim (λ s. omega (arith, ltb→lt n need s)) (λ s. omega (arith, ltb→lt m need s)) (or_cases (ltb n need) (ltb m need) t)))
    (λ t. go (ltb→lt (min n m) need t) (order n m))
  where
    go : min n m < need → (n ≤ m) ⊎ (m < n) → T (ltb n need || ltb m need)
    go h (inl k) = or_left (ltb n need) _ (lt→ltb n need (omega arith))
    go h (inr k) = or_right (ltb n need) _ (lt→ltb m need (omega arith))

-- a list of several fields is too short exactly if its shortest number list is
pub short-any : (need n : ℕ) (ns : List ℕ) → any (λ x. ltb x need) (n ∷ ns) ≡ any (λ x. ltb x need) (shortest (n ∷ ns) ∷ [])
unfolding any
short-any need n [] = refl
short-any need n (m ∷ ns) =
    ap (λ b. ltb n need || b) (short-any need m ns ∙ or-false (ltb (shortest (m ∷ ns)) need)) ∙ smaller-short n (shortest (m ∷ ns)) need ∙ sym (or-false (ltb (min n (shortest (m ∷ ns))) need))

module _ (n m : ℕ) where
  same_tests : (k : ℕ) (lists : List (List ℕ)) → EachListed lists → map output_test (outputs_from k n m lists) ≡ map output_test (room_outputs n m k (map shortest lists))
  same_tests k [] e = refl
  same_tests k ([] ∷ lists) e = absurd e.0
  same_tests k ((x ∷ xs) ∷ lists) e = ap₂ (λ b ts. test b ListTooShort k ∷ ts) (short-any (need_of n m k) x xs) (same_tests (suc k) lists e.1)

-- a scene is tested by the shortest lengths as by all of them
pub shortest-enough : (limits : SceneLimits) (l : ComponentLists) (m : ConnectionLists) (k : ℕ) (lists : List (List ℕ)) → EachListed lists
    → check_scene limits l m (outputs_from k (length l.ids) (length m.sources) lists) ≡ check_scene limits l m (room_outputs (length l.ids) (length m.sources) k (map shortest lists))
unfolding check_scene scene_tests size_tests
shortest-enough limits l m k lists e = rw (same_tests (length l.ids) (length m.sources) k lists e)

-- so is it by the two parts of the scene call
pub shortest-describe : (limits : SceneLimits) (l : ComponentLists) (m : ConnectionLists) (l0 l1 l2 : List ℕ) → EachListed (l0 ∷ l1 ∷ l2 ∷ [])
    → check_describe limits l m l0 l1 l2 ≡ check_scene limits l m (room_outputs (length l.ids) (length m.sources) 0 (shortest l0 ∷ shortest l1 ∷ shortest l2 ∷ []))
unfolding check_describe
shortest-describe limits l m l0 l1 l2 e = shortest-enough limits l m 0 (l0 ∷ l1 ∷ l2 ∷ []) e

pub shortest-assess : (limits : SceneLimits) (l : ComponentLists) (m : ConnectionLists) (l3 l4 l5 l6 l7 l8 : List ℕ) → EachListed (l3 ∷ l4 ∷ l5 ∷ l6 ∷ l7 ∷ l8 ∷ [])
    → check_assess limits l m l3 l4 l5 l6 l7 l8
    ≡ check_scene limits l m (room_outputs (length l.ids) (length m.sources) 3 (shortest l3 ∷ shortest l4 ∷ shortest l5 ∷ shortest l6 ∷ shortest l7 ∷ shortest l8 ∷ []))
unfolding check_assess
shortest-assess limits l m l3 l4 l5 l6 l7 l8 e = shortest-enough limits l m 3 (l3 ∷ l4 ∷ l5 ∷ l6 ∷ l7 ∷ l8 ∷ []) e
