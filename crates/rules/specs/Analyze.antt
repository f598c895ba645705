-- The answer of the call that writes lists 0 to 8. Assumes nothing: these are definitions.
use Rattle.std.specs.Prelude.{Result, Ok, Err, List, [], ◌∷◌, ◌≡◌, ℕ, length}
use Rattle.rules.specs.Scene.{Scene, ComponentLists, ConnectionLists, scene_of, edges}
use Rattle.rules.specs.Codes.{scope_code, pattern_code, refusal_code}
use Rattle.rules.specs.Refusals.{Checked, SceneLimits, answer_of, outputs_from, check_scene}
use Rattle.rules.specs.Describe.{DescribeLists, DescribedBy, timed_edges, devices, evidence}
use Rattle.rules.specs.Assess.{AssessLists, AssessedBy, assessment}
use Rattle.rules.specs.declared.answers.Description.{Description}
use Rattle.rules.specs.declared.answers.Assessment.{Assessment}
use Rattle.rules.specs.declared.answers.Analysis.{Analysis}
use Rattle.rules.specs.declared.answers.Refusal.{Refusal}

-- the number lists that the call is lent to write
pub record AnalyzeLists : Type 0 where
  pub description : DescribeLists
  pub assessment : AssessLists

-- the lengths of the number lists of lists 0 to 8
abbrev pub analysis_lengths : AnalyzeLists → List (List ℕ)
analysis_lengths o =
    let d = o.description in
    let a = o.assessment in
    (length d.edge_sources ∷ length d.edge_sinks ∷ length d.edge_minimums ∷ length d.edge_maximums ∷ length d.edge_behaviors ∷ [])
    ∷ (length d.device_components ∷ length d.device_xs ∷ length d.device_ys ∷ length d.device_zs ∷ length d.device_semantics ∷ length d.device_delays ∷ [])
    ∷ (length d.evidence_kinds ∷ length d.evidence_sources ∷ length d.evidence_sinks ∷ length d.evidence_components ∷ length d.evidence_blocks ∷ [])
    ∷ (length a.reason_kinds ∷ length a.reason_components ∷ length a.reason_blocks ∷ length a.reason_minimums ∷ length a.reason_maximums ∷ [])
    ∷ (length a.feedback_ids ∷ [])
    ∷ (length a.marks ∷ [])
    ∷ (length a.projected_sources ∷ length a.projected_sinks ∷ length a.projected_inverted ∷ length a.projected_minimums ∷ length a.projected_maximums ∷ length a.projected_starts ∷ length a.projected_lengths ∷ [])
    ∷ (length a.path_ids ∷ [])
    ∷ (length a.label_settled ∷ length a.label_lows ∷ length a.label_highs ∷ [])
    ∷ []

-- what the checks find, given the lists lent: all nine are tested
abbrev pub analysis_checked : SceneLimits → ComponentLists → ConnectionLists → AnalyzeLists → Checked
analysis_checked limits l m o = check_scene limits l m (outputs_from 0 (length l.ids) (length m.sources) (analysis_lengths o))

-- what is said of a scene
abbrev pub analysis : Scene → Analysis
analysis s =
    record {
      description = record {
        timed_edges = length (timed_edges s.components s.connections);
        devices = length (devices s.components);
        evidence = length (evidence s.components s.connections);
      };
      assessment = assessment s.components (edges s);
    }

-- the two parts of an answer
abbrev pub description_part : Result Analysis Refusal → Result Description Refusal
description_part (Ok a) = Ok a.description
description_part (Err r) = Err r

abbrev pub assessment_part : Result Analysis Refusal → Result Assessment Refusal
assessment_part (Ok a) = Ok a.assessment
assessment_part (Err r) = Err r

-- the answer's numbers: refusal, place, the counts of lists 0, 1 and 2, scope, pattern, confidence, then the other counts
abbrev pub analysis_numbers : Result Analysis Refusal → List ℕ
analysis_numbers (Err r) = refusal_code r.kind ∷ r.place ∷ 0 ∷ 0 ∷ 0 ∷ 0 ∷ 0 ∷ 0 ∷ 0 ∷ 0 ∷ 0 ∷ 0 ∷ 0 ∷ 0 ∷ []
analysis_numbers (Ok x) =
    let d = x.description in
    let a = x.assessment in
    0 ∷ 0 ∷ d.timed_edges ∷ d.devices ∷ d.evidence ∷ scope_code a.scope ∷ pattern_code a.pattern ∷ a.confidence ∷ a.reasons ∷ a.feedback ∷ a.retained
    ∷ a.compressed ∷ a.projected ∷ a.path_ids ∷ []

-- given what the checks find: the answer, and what each list holds after the call
pub record AnalyzedBy (checked : Checked) (s : Scene) (old new : AnalyzeLists) (answer : Result Analysis Refusal) : Type 0 where
  pub answered : answer ≡ answer_of checked (analysis s)
  pub numbered : analysis_numbers answer ≡ analysis_numbers (answer_of checked (analysis s))
  pub described : DescribedBy checked s old.description new.description (description_part answer)
  pub assessed : AssessedBy checked s old.assessment new.assessment (assessment_part answer)

-- the call
abbrev pub AnalyzeCall : SceneLimits → ComponentLists → ConnectionLists → (old new : AnalyzeLists) → Result Analysis Refusal → Type 0
AnalyzeCall limits l m old new answer = AnalyzedBy (analysis_checked limits l m old) (scene_of l m) old new answer
