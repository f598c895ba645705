-- From the checks and the two parts to the call. Assumes nothing.
use Rattle.std.proofs.Common.{Result, Ok, ◌≡◌, ℕ, List, length, sym, ap, ◌∙◌}
use Rattle.rules.specs.Scene.{ComponentLists, ConnectionLists, scene_of}
use Rattle.rules.specs.Refusals.{Checked, accepted, scene_limits, room_outputs, check_scene}
use Rattle.rules.specs.Describe.{describe_checked, DescribedBy}
use Rattle.rules.specs.Assess.{assess_checked, AssessedBy}
use Rattle.rules.specs.declared.answers.Description.{Description}
use Rattle.rules.specs.declared.answers.Assessment.{Assessment}
use Rattle.rules.specs.declared.answers.Refusal.{Refusal}
use Rattle.rules.proofs.Shortest.{shortest-enough}
use Rattle.laws.proofs.CallsTogether.{calls-accepted}
use Rattle.scene.specs.Ends.{checked_of}
use Rattle.scene.specs.Placed.{ScenePlaced}
use Rattle.scene.specs.declared.place.Placed.{Placed}
use Rattle.assess.specs.Ready.{assessment_room}
use Rattle.rules.specs.declared.answers.Analysis.{Analysis}
use Rattle.rules.specs.Analyze.{AnalyzeLists, analysis_lengths, analysis_checked, analysis, analysis_numbers, AnalyzedBy}
use Rattle.analyze.specs.Analyze.{analysis_room}

module _ (l : ComponentLists) (m : ConnectionLists) (old : AnalyzeLists) where
  -- the scene tested by the shortest lengths
  pub by_room : {room : List ℕ} → room ≡ analysis_room old → {answer : Result Placed Refusal}
      → ScenePlaced (check_scene scene_limits l m (room_outputs (length l.ids) (length m.sources) 0 room)) l.ids m answer → checked_of answer ≡ analysis_checked scene_limits l m old
  unfolding assessment_room
  by_room e t = t.checked ∙ rw e (sym (shortest-enough scene_limits l m 0 (analysis_lengths old) (tt, (tt, (tt, (tt, (tt, (tt, (tt, (tt, (tt, tt)))))))))))

  -- what all nine lists pass, the lists of each part pass
  pub parts-accepted : analysis_checked scene_limits l m old ≡ accepted → (describe_checked scene_limits l m old.description ≡ accepted) × (assess_checked scene_limits l m old.assessment ≡ accepted)
  parts-accepted e = calls-accepted scene_limits l m _ _ _ _ _ _ _ _ _ e

  -- what the parts write are the lists of the call
  pub call-analyzed : {checked : Checked} → checked ≡ accepted → (new : AnalyzeLists) (d : Description) (a : Assessment)
      → DescribedBy accepted (scene_of l m) old.description new.description (Ok d) → AssessedBy accepted (scene_of l m) old.assessment new.assessment (Ok a)
      → AnalyzedBy checked (scene_of l m) old new (Ok (record { description = d; assessment = a }))
  call-analyzed e new d a described assessed =
      let told : ◌≡◌ {A = Result Analysis Refusal} (Ok (record { description = d; assessment = a })) (Ok (analysis (scene_of l m))) = cc (described.answered, assessed.answered) in
      rw e (record { answered = told; numbered = ap analysis_numbers told; described = described; assessed = assessed })
