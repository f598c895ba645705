-- The call that writes list 4 alone: its numbers and its list on a few scenes, and that it accepts what the assessment accepts. Assumes nothing.
use mathlib.Core.List.Memᴰ
use mathlib.Core.List.{List, [], ◌∷◌}
use mathlib.Core.Path.{◌≡◌, refl, sym, subst}
use mathlib.Core.Logic.{⊎_elim}
use Prim.Native.Nat.{ℕ}
use lib.ListN.{length}
use Rattle.rules.specs.Scene.{ComponentLists, ConnectionLists, components_of, scene_of, edges}
use Rattle.rules.specs.Reasons.{feedback}
use Rattle.rules.specs.Refusals.{accepted, SceneLimits, scene_limits, after, Output, output}
use Rattle.rules.specs.Assess.{check_assess}
use Rattle.rules.specs.Report.{connection_fields}
use Rattle.rules.specs.Feedback.{check_feedback, feedback_answer, feedback_numbers}
use Rattle.rules.proofs.Acceptance.{OutputLong, accepted→, →accepted}
use Rattle.rules.proofs.Questions.{plain, selves, ◌to◌, computes}

-- a call with a list 4 of these entries: its numbers, and the list after it
abbrev asked : ComponentLists → ConnectionLists → List ℕ → List (List ℕ)
asked l m old =
    let c = check_feedback scene_limits l m (length old ∷ []) in
    feedback_numbers (feedback_answer c (scene_of l m)) ∷ after c old (feedback (components_of l) (edges (scene_of l m))) ∷ []

-- lever 1, repeater 2 and wire 3 in a loop, lever 4 outside: two ids, one reason,
-- the entries past them stay; a self-edge alone: none; list 4 too short: 7 at 4; a used id: 3 at 1
feedback-calls :
    asked (plain (4 ∷ 1 ∷ 2 ∷ 3 ∷ []) (3 ∷ 3 ∷ 10 ∷ 8 ∷ [])) (connection_fields (1 to 2 ∷ 2 to 3 ∷ 3 to 1 ∷ [])) (9 ∷ 8 ∷ 7 ∷ 6 ∷ 5 ∷ []) ∷ asked (plain (1 ∷ []) (3 ∷ [])) (selves 1) (9 ∷ [])
    ∷ asked (plain (1 ∷ 2 ∷ []) (3 ∷ 10 ∷ [])) (connection_fields (1 to 2 ∷ 2 to 1 ∷ [])) (9 ∷ []) ∷ asked (plain (1 ∷ 1 ∷ []) (3 ∷ 10 ∷ [])) (selves 1) (9 ∷ 8 ∷ []) ∷ []
    ≡ ((0 ∷ 0 ∷ 2 ∷ 1 ∷ []) ∷ (1 ∷ 2 ∷ 7 ∷ 6 ∷ 5 ∷ []) ∷ []) ∷ ((0 ∷ 0 ∷ 0 ∷ 0 ∷ []) ∷ (9 ∷ []) ∷ []) ∷ ((7 ∷ 4 ∷ 0 ∷ 0 ∷ []) ∷ (9 ∷ []) ∷ [])
    ∷ ((3 ∷ 1 ∷ 0 ∷ 0 ∷ []) ∷ (9 ∷ 8 ∷ []) ∷ []) ∷ []
unfolding computes check_feedback
feedback-calls = refl

-- where the assessment is accepted, this call is, with the same list 4
module _ (limits : SceneLimits) (l : ComponentLists) (m : ConnectionLists) where
  pub assess→feedback : (l3 l4 l5 l6 l7 l8 : List ℕ) → check_assess limits l m l3 l4 l5 l6 l7 l8 ≡ accepted → check_feedback limits l m l4 ≡ accepted
  unfolding check_assess check_feedback
  assess→feedback l3 l4 l5 l6 l7 l8 e =
      let a = accepted→ limits l m _ e in
      →accepted limits l m _ record {
        components_aligned = a.components_aligned;
        connections_aligned = a.connections_aligned;
        components_few = a.components_few;
        connections_few = a.connections_few;
        outputs_long = λ o k. ⊎_elim (λ q. subst OutputLong (sym q) (a.outputs_long fourth (Memᴰ.tail (Memᴰ.head refl)))) (λ n. absurd (Memᴰ.not-nil n)) (Memᴰ.cases_cons {b = fourth} {l = []} k);
        components_fit = a.components_fit;
        ids_distinct = a.ids_distinct;
        connections_fit = a.connections_fit;
      }
    where
      fourth : Output
      fourth = output 4 (length l.ids) l4
