-- The answer of the call that writes list 4 alone. Assumes nothing: these are definitions.
use Rattle.std.specs.Prelude.{Result, Ok, Err, List, [], ◌∷◌, ◌≡◌, ℕ, length}
use Rattle.rules.specs.Codes.{refusal_code}
use Rattle.rules.specs.Scene.{Scene, ComponentLists, ConnectionLists, components_of, scene_of, edges}
use Rattle.rules.specs.Reasons.{feedback, feedback_reason}
use Rattle.rules.specs.Refusals.{Checked, SceneLimits, after, answer_of, outputs_from, check_scene}
use Rattle.rules.specs.declared.answers.Refusal.{Refusal}
use Rattle.rules.specs.declared.answers.FeedbackListed.{FeedbackListed}

-- the checks of the call: "A call tests only the lists it writes."
unfoldable pub check_feedback : SceneLimits → ComponentLists → ConnectionLists → (feedback_lengths : List ℕ) → Checked
check_feedback limits l m l4 = check_scene limits l m (outputs_from 4 (length l.ids) (length m.sources) (l4 ∷ []))

-- the answer: the refusal, or how many ids are listed and how many Feedback reasons there are
abbrev pub feedback_answer : Checked → Scene → Result FeedbackListed Refusal
feedback_answer checked s =
    answer_of checked (record { feedback = length (feedback s.components (edges s)); reasons = length (feedback_reason (feedback s.components (edges s))) })

-- the answer's numbers: refusal, place, then the counts
abbrev pub feedback_numbers : Result FeedbackListed Refusal → List ℕ
feedback_numbers (Err r) = refusal_code r.kind ∷ r.place ∷ 0 ∷ 0 ∷ []
feedback_numbers (Ok a) = 0 ∷ 0 ∷ a.feedback ∷ a.reasons ∷ []

-- the call: its answer, and what list 4 holds after it
pub record FeedbackCall (limits : SceneLimits) (l : ComponentLists) (m : ConnectionLists) (old new : List ℕ) (answer : Result FeedbackListed Refusal) : Type 0 where
  pub answered : answer ≡ feedback_answer (check_feedback limits l m (length old ∷ [])) (scene_of l m)
  pub numbered : feedback_numbers answer ≡ feedback_numbers (feedback_answer (check_feedback limits l m (length old ∷ [])) (scene_of l m))
  pub content : new ≡ after (check_feedback limits l m (length old ∷ [])) old (feedback (components_of l) (edges (scene_of l m)))
