-- The answer of the call that writes lists 3 to 8. Assumes nothing: these are definitions.
use Rattle.std.specs.Prelude.{Result, Ok, Err, not, List, [], ◌∷◌, map, ◌≡◌, ℕ, length, get_or}
use Rattle.rules.specs.Lists.{count}
use Rattle.rules.specs.Codes.{scope_code, pattern_code, refusal_code}
use Rattle.rules.specs.Scene.{Component, Scene, ComponentLists, ConnectionLists, scene_of, edges}
use Rattle.rules.specs.Labels.{labels, settled_flag, low_sum, high_sum}
use Rattle.rules.specs.Reasons.{reasons, reason_kind, reason_component, reason_block, reason_minimum, reason_maximum, feedback, scope, pattern}
use Rattle.rules.specs.Projection.{ProjectedEdge, compressed, marks, projected, path_starts, path_length, path_ids, projected_path}
use Rattle.rules.specs.Graph.{Edge}
use Rattle.rules.specs.Refusals.{Checked, SceneLimits, Output, after, answer_of, outputs_from, check_scene}
use Rattle.rules.specs.declared.answers.Assessment.{Assessment}
use Rattle.rules.specs.declared.answers.Refusal.{Refusal}

-- the output lists of the call: 3 to 8
abbrev pub assess_outputs : (n m : ℕ) → (reason_lengths feedback_lengths mark_lengths projected_lengths path_lengths label_lengths : List ℕ) → List Output
assess_outputs n m l3 l4 l5 l6 l7 l8 = outputs_from 3 n m (l3 ∷ l4 ∷ l5 ∷ l6 ∷ l7 ∷ l8 ∷ [])

-- the checks of the call
unfoldable pub check_assess : SceneLimits → ComponentLists → ConnectionLists → (reason_lengths feedback_lengths mark_lengths projected_lengths path_lengths label_lengths : List ℕ) → Checked
check_assess limits l m l3 l4 l5 l6 l7 l8 = check_scene limits l m (assess_outputs (length l.ids) (length m.sources) l3 l4 l5 l6 l7 l8)

-- scope, pattern, "Confidence is 100", how many entries of lists 3, 4, 6 and 7 are used, and how many of list 5 are 1 and 0
unfoldable pub assessment : List Component → List Edge → Assessment
assessment cs es =
    record {
      scope = scope cs es;
      pattern = pattern cs es;
      confidence = 100;
      reasons = length (reasons cs es);
      feedback = length (feedback cs es);
      retained = count (λ c. not (compressed cs es c.id)) cs;
      compressed = count (λ c. compressed cs es c.id) cs;
      projected = length (projected cs es);
      path_ids = length (path_ids (projected cs es));
    }

-- the answer: the refusal, or the assessment
abbrev pub scene_answer : Checked → Scene → Result Assessment Refusal
scene_answer checked s = answer_of checked (assessment s.components (edges s))

-- the answer's numbers: refusal, place, scope, pattern, confidence, then the counts
abbrev pub scene_numbers : Result Assessment Refusal → List ℕ
scene_numbers (Err r) = refusal_code r.kind ∷ r.place ∷ 0 ∷ 0 ∷ 0 ∷ 0 ∷ 0 ∷ 0 ∷ 0 ∷ 0 ∷ 0 ∷ []
scene_numbers (Ok a) =
    0 ∷ 0 ∷ scope_code a.scope ∷ pattern_code a.pattern ∷ a.confidence ∷ a.reasons ∷ a.feedback ∷ a.retained ∷ a.compressed ∷ a.projected
    ∷ a.path_ids ∷ []

-- the number lists that the call is lent to write, one for each field of lists 3 to 8
pub record AssessLists : Type 0 where
  pub reason_kinds : List ℕ
  pub reason_components : List ℕ
  pub reason_blocks : List ℕ
  pub reason_minimums : List ℕ
  pub reason_maximums : List ℕ
  pub feedback_ids : List ℕ
  pub marks : List ℕ
  pub projected_sources : List ℕ
  pub projected_sinks : List ℕ
  pub projected_inverted : List ℕ
  pub projected_minimums : List ℕ
  pub projected_maximums : List ℕ
  pub projected_starts : List ℕ
  pub projected_lengths : List ℕ
  pub path_ids : List ℕ
  pub label_settled : List ℕ
  pub label_lows : List ℕ
  pub label_highs : List ℕ

-- these lists, one by one in the order of the fields
abbrev pub assess_lists : (reason_kinds reason_components reason_blocks reason_minimums reason_maximums feedback_ids marks projected_sources projected_sinks projected_inverted projected_minimums projected_maximums projected_starts projected_lengths path_ids label_settled label_lows label_highs : List ℕ) → AssessLists
assess_lists x0 x1 x2 x3 x4 x5 x6 x7 x8 x9 x10 x11 x12 x13 x14 x15 x16 x17 =
    record { reason_kinds = x0; reason_components = x1; reason_blocks = x2; reason_minimums = x3; reason_maximums = x4; feedback_ids = x5; marks = x6; projected_sources = x7; projected_sinks = x8; projected_inverted = x9; projected_minimums = x10; projected_maximums = x11; projected_starts = x12; projected_lengths = x13; path_ids = x14; label_settled = x15; label_lows = x16; label_highs = x17 }

-- the entry of list 6 at one index, "in all fields but its path's start, with that path's ids in order"
unfoldable pub stored_edge : AssessLists → ℕ → ProjectedEdge
stored_edge o k =
    record {
      source = get_or o.projected_sources k 0;
      sink = get_or o.projected_sinks k 0;
      inverted = get_or o.projected_inverted k 0;
      minimum = get_or o.projected_minimums k 0;
      maximum = get_or o.projected_maximums k 0;
      path = projected_path o.path_ids o.projected_starts o.projected_lengths k;
    }

-- what the checks find, given the lists lent
abbrev pub assess_checked : SceneLimits → ComponentLists → ConnectionLists → AssessLists → Checked
assess_checked limits l m o =
    check_assess limits l m
    (length o.reason_kinds ∷ length o.reason_components ∷ length o.reason_blocks ∷ length o.reason_minimums ∷ length o.reason_maximums ∷ [])
    (length o.feedback_ids ∷ [])
    (length o.marks ∷ [])
    (length o.projected_sources ∷ length o.projected_sinks ∷ length o.projected_inverted ∷ length o.projected_minimums ∷ length o.projected_maximums ∷ length o.projected_starts ∷ length o.projected_lengths ∷ [])
    (length o.path_ids ∷ [])
    (length o.label_settled ∷ length o.label_lows ∷ length o.label_highs ∷ [])

-- given what the checks find: the answer, and what each list holds after the call
pub record AssessedBy (checked : Checked) (s : Scene) (old new : AssessLists) (answer : Result Assessment Refusal) : Type 0 where
  pub answered : answer ≡ scene_answer checked s
  pub numbered : scene_numbers answer ≡ scene_numbers (scene_answer checked s)
  pub reason_kinds : new.reason_kinds ≡ after checked old.reason_kinds (map reason_kind (reasons s.components (edges s)))
  pub reason_components : new.reason_components ≡ after checked old.reason_components (map reason_component (reasons s.components (edges s)))
  pub reason_blocks : new.reason_blocks ≡ after checked old.reason_blocks (map reason_block (reasons s.components (edges s)))
  pub reason_minimums : new.reason_minimums ≡ after checked old.reason_minimums (map reason_minimum (reasons s.components (edges s)))
  pub reason_maximums : new.reason_maximums ≡ after checked old.reason_maximums (map reason_maximum (reasons s.components (edges s)))
  pub feedback_ids : new.feedback_ids ≡ after checked old.feedback_ids (feedback s.components (edges s))
  pub marks : new.marks ≡ after checked old.marks (marks s.components (edges s))
  pub projected_sources : new.projected_sources ≡ after checked old.projected_sources (map (λ p. p.source) (projected s.components (edges s)))
  pub projected_sinks : new.projected_sinks ≡ after checked old.projected_sinks (map (λ p. p.sink) (projected s.components (edges s)))
  pub projected_inverted : new.projected_inverted ≡ after checked old.projected_inverted (map (λ p. p.inverted) (projected s.components (edges s)))
  pub projected_minimums : new.projected_minimums ≡ after checked old.projected_minimums (map (λ p. p.minimum) (projected s.components (edges s)))
  pub projected_maximums : new.projected_maximums ≡ after checked old.projected_maximums (map (λ p. p.maximum) (projected s.components (edges s)))
  pub projected_starts : new.projected_starts ≡ after checked old.projected_starts (path_starts (projected s.components (edges s)))
  pub projected_lengths : new.projected_lengths ≡ after checked old.projected_lengths (map path_length (projected s.components (edges s)))
  pub path_ids : new.path_ids ≡ after checked old.path_ids (path_ids (projected s.components (edges s)))
  pub label_settled : new.label_settled ≡ after checked old.label_settled (map settled_flag (labels s.components (edges s)))
  pub label_lows : new.label_lows ≡ after checked old.label_lows (map low_sum (labels s.components (edges s)))
  pub label_highs : new.label_highs ≡ after checked old.label_highs (map high_sum (labels s.components (edges s)))

-- the call
abbrev pub AssessCall : SceneLimits → ComponentLists → ConnectionLists → (old new : AssessLists) → Result Assessment Refusal → Type 0
AssessCall limits l m old new answer = AssessedBy (assess_checked limits l m old) (scene_of l m) old new answer
