-- What is listed by positions is list 4. Assumes nothing.
use mathlib.Core.List.Memᴰ
use mathlib.Core.List.{List, [], ◌∷◌}
use mathlib.Core.Path.{◌≡◌, refl, sym, ap, ◌∙◌}
use Prim.Native.Nat.{ℕ}
use native.Mathlib.Omega.{arith}
use borrow.Author.Tests.{lt-ltb}
use mir.Val.{bool_byte}
use lib.Dec.{ltb}
use lib.ListN.{length}
use Rattle.std.specs.Prelude.{Option, Some, Ok, Err}
use Rattle.rules.specs.Lists.{written}
use Rattle.rules.specs.Scene.{ComponentLists, ConnectionLists, components_of, connections_of, edges_of, scene_of}
use Rattle.rules.specs.Reasons.{feedback, feedback_reason}
use Rattle.rules.specs.Feedback.{feedback_numbers, check_feedback, feedback_answer, FeedbackCall}
use Rattle.rules.specs.Refusals.{Checked, scene_limits, after, check_scene, room_outputs}
use Rattle.rules.specs.declared.answers.Refusal.{Refusal}
use Rattle.rules.proofs.Acceptance.{AcceptedScene, accepted→}
use Rattle.scene.specs.Placed.{ScenePlaced}
use Rattle.scene.specs.declared.place.Placed.{Placed}
use Rattle.reasons.specs.FeedbackListed.{FeedbackIds}
use Rattle.reasons.specs.Listing.{shared_ids, Linked}
use Rattle.reasons.proofs.ByIds.{shared-feedback}
use Rattle.reasons.proofs.Fitting.{linked-fits}
use Rattle.reasons.proofs.Promises.{fitting-ids}

-- one reason where something is listed
pub reasons-counted : (n : ℕ) (ids : List ℕ) → n ≡ length ids → bool_byte (ltb 0 n) ≡ length (feedback_reason ids)
unfolding feedback_reason
reasons-counted n [] e = rw e refl
reasons-counted n (x ∷ ids) e = simp (lt-ltb 0 n (omega arith))

module _ (l : ComponentLists) (m : ConnectionLists) (old : List ℕ) where
  abbrev found : Checked
  found = check_scene scene_limits l m (room_outputs (length l.ids) (length m.sources) 4 (length old ∷ []))

  pub call-refused : (r : Refusal) → ScenePlaced found l.ids m (Err r) → FeedbackCall scene_limits l m old old (Err r)
  unfolding check_feedback
  call-refused r t = record {
    answered = ap (λ c. feedback_answer c (scene_of l m)) t.checked;
    numbered = ap (λ c. feedback_numbers (feedback_answer c (scene_of l m))) t.checked;
    content = ap (λ c. after c old (feedback (components_of l) (edges_of (connections_of m)))) t.checked;
  }

  module _ (p : Placed) (t : ScenePlaced found l.ids m (Ok p)) where
    scene : AcceptedScene scene_limits l m (room_outputs (length l.ids) (length m.sources) 4 (length old ∷ []))
    scene = accepted→ scene_limits l m _ (sym t.checked)

    abbrev starts : List ℕ
    starts = p.edges.sources.now

    abbrev stops : List ℕ
    stops = p.edges.sinks.now

    -- the edges of an accepted scene over positions
    linked : Linked starts stops (length l.ids)
    linked = record { pairs = t.accepted.pairs; nodes_few = scene.components_few; edges_few = omega (arith, t.accepted.edges_few, scene.connections_few); inside = t.accepted.positioned.inside }

    module _ (new : List ℕ) (r : Option ℕ) (f : FeedbackIds l.ids l.kinds starts stops old new r) where
      listed : (new ≡ written old (shared_ids l.ids l.kinds starts stops)) × (r ≡ Some (length (shared_ids l.ids l.kinds starts stops)))
      listed = fitting-ids f (linked-fits starts stops (length l.ids) (length l.kinds) (length old) linked scene.components_aligned.kinds_length (scene.outputs_long _ (Memᴰ.head refl) (length old) (Memᴰ.head refl)))

      same : shared_ids l.ids l.kinds starts stops ≡ feedback (components_of l) (edges_of (connections_of m))
      same = shared-feedback l scene.ids_distinct (edges_of (connections_of m)) starts stops t.accepted.positioned

      -- something is answered
      pub told : r ≡ Some (length (feedback (components_of l) (edges_of (connections_of m))))
      told = listed.1 ∙ ap (λ ids. Some (length ids)) same

      pub call-listed : (count reasons : ℕ) → r ≡ Some count → ((ids : List ℕ) → count ≡ length ids → reasons ≡ length (feedback_reason ids)) → FeedbackCall scene_limits l m old new (Ok (record { feedback = count; reasons = reasons }))
      unfolding check_feedback
      call-listed count reasons e h =
          let counted : count ≡ length (feedback (components_of l) (edges_of (connections_of m))) = let q = told in cc in
          let answer = cc (counted, h (feedback (components_of l) (edges_of (connections_of m))) counted) ∙ ap (λ c. feedback_answer c (scene_of l m)) t.checked in
          record {
            answered = answer;
            numbered = ap feedback_numbers answer;
            content = listed.0 ∙ ap (written old) same ∙ ap (λ c. after c old (feedback (components_of l) (edges_of (connections_of m)))) t.checked;
          }
