-- Demand 3, first half: what the order of the connections does not change in what the rules define. CallReordering has it for what the
-- lists hold after two calls. Assumes nothing.
use mathlib.Core.Bool.{Bool}
use mathlib.Core.List.Permᴰ
use mathlib.Core.List.{List, map, Permᴰ}
use mathlib.Core.Path.{◌≡◌, refl, sym, ◌∙◌}
use Prim.Native.Nat.{ℕ}
use native.Mathlib.Omega.{arith}
use lib.ListN.{length}
use lib.Dec.{T, eqb→eq, eqb_refl}
use Rattle.rules.specs.Lists.{count}
use Rattle.rules.specs.Scene.{Component, Connection, Scene, ComponentLists, ConnectionLists, scene_of, edges, is_edge, same_connection, delay_at}
use Rattle.rules.specs.Graph.{Edge}
use Rattle.rules.specs.Reasons.{feedback, reasons}
use Rattle.rules.specs.Projection.{ProjectedEdge, marks, projected}
use Rattle.rules.specs.Refusals.{accepted, SceneLimits, Output, outputs_from, check_scene}
use Rattle.rules.specs.Describe.{TimedEdge, timed_edge, timed_edges, device_components, devices, Evidence, evidence, connection_evidence, device_evidence, description, describe_outputs, check_describe}
use Rattle.rules.specs.Assess.{assessment, assess_outputs, check_assess}
use Rattle.rules.specs.Labels.{labels}
use Rattle.rules.proofs.Lists.{tests, and_left, and_right}
use Rattle.rules.proofs.Permutations.{perm-count, perm-length, perm-keep}
use Rattle.rules.proofs.EquallyOften.{often→perm}
use Rattle.rules.proofs.Columns.{ConnectionsAligned, connections-length}
use Rattle.rules.proofs.Acceptance.{acceptance-order, edges-order}
use Rattle.laws.proofs.Order.{feedback-order, reasons-order, scope-order, pattern-order, labels-order}
use Rattle.laws.proofs.Projection.{compressed-order, marks-order, projected-order, projected-length-order, path-ids-length-order}

-- "two accepted scenes that list the same components in the same order, and the same connections, each equally often, in any order"
pub record Reordered (s t : Scene) : Type 0 where
  pub same_components : s.components ≡ t.components
  pub same_connections : (n : Connection) → count (same_connection n) s.connections ≡ count (same_connection n) t.connections

-- "the same labels, the same reasons in the same order, the same retained and compressed components, and each projected edge with its path's
-- ids .. equally often"; scope, pattern and every count are in the assessment
pub record SameAnswers (s t : Scene) : Type 0 where
  pub same_labels : labels s.components (edges s) ≡ labels t.components (edges t)
  pub same_reasons : reasons s.components (edges s) ≡ reasons t.components (edges t)
  pub same_feedback : feedback s.components (edges s) ≡ feedback t.components (edges t)
  pub same_marks : marks s.components (edges s) ≡ marks t.components (edges t)
  pub same_assessment : assessment s.components (edges s) ≡ assessment t.components (edges t)
  pub same_projected : (test : ProjectedEdge → Bool) → count test (projected s.components (edges s)) ≡ count test (projected t.components (edges t))

-- lists 0, 1 and 2: as many entries, each equally often
pub record SameDescription (s t : Scene) : Type 0 where
  pub same_counts : description accepted s ≡ description accepted t
  pub same_timed : (test : TimedEdge → Bool) → count test (timed_edges s.components s.connections) ≡ count test (timed_edges t.components t.connections)
  pub same_devices : devices s.components ≡ devices t.components
  pub same_evidence : (test : Evidence → Bool) → count test (evidence s.components s.connections) ≡ count test (evidence t.components t.connections)

same-sound : (a b : Connection) → T (same_connection a b) → a ≡ b
same-sound a b t = grind (arith, eqb→eq, and_left, and_right)

same-own : (a : Connection) → T (same_connection a a)
same-own a = search (tests, eqb_refl)

module _ (cs : List Component) {es fs : List Edge} (p : Permᴰ es fs) where
  assessment-order : assessment cs es ≡ assessment cs fs
  unfolding assessment
  assessment-order =
      rw (scope-order p cs, pattern-order p cs, reasons-order p cs, feedback-order p cs, compressed-order p cs, projected-length-order p cs, path-ids-length-order p cs)

module _ (cs : List Component) {ns ms : List Connection} (p : Permᴰ ns ms) where
  timed-order : Permᴰ (timed_edges cs ns) (timed_edges cs ms)
  unfolding timed_edges
  timed-order = Permᴰ.map (timed_edge (delay_at cs) (delay_at cs) cs) (perm-keep is_edge p)

  evidence-order : Permᴰ (evidence cs ns) (evidence cs ms)
  unfolding evidence
  evidence-order = Permᴰ.append_right (map device_evidence (device_components cs)) (Permᴰ.map connection_evidence p)

module _ (s t : Scene) (r : Reordered s t) where
  -- the connections of the one are those of the other in another order
  perm : Permᴰ s.connections t.connections
  perm = often→perm same_connection same-sound same-own s.connections t.connections r.same_connections

  abbrev cs : List Component
  cs = t.components

  -- the answers are the same
  pub same-answers : SameAnswers s t
  same-answers =
      rw r.same_components record {
        same_labels = labels-order (edges-order perm) cs;
        same_reasons = reasons-order (edges-order perm) cs;
        same_feedback = feedback-order (edges-order perm) cs;
        same_marks = marks-order (edges-order perm) cs;
        same_assessment = assessment-order cs (edges-order perm);
        same_projected = λ test. perm-count test (projected-order (edges-order perm) cs);
      }

  pub same-description : SameDescription s t
  same-description =
      rw r.same_components record {
        same_counts = rw (perm-length (timed-order cs perm), perm-length (evidence-order cs perm));
        same_timed = λ test. perm-count test (timed-order cs perm);
        same_devices = refl;
        same_evidence = λ test. perm-count test (evidence-order cs perm);
      }

-- The one is accepted if the other is. `Reordered` reads the connection lists up to the length of the sources, so it is said that the
-- three lists have one length
module _ (limits : SceneLimits) (l : ComponentLists) (m m' : ConnectionLists) (r : Reordered (scene_of l m) (scene_of l m')) (aligned : ConnectionsAligned m') where
  pub same-acceptance : (outputs : List Output) → check_scene limits l m outputs ≡ accepted → check_scene limits l m' outputs ≡ accepted
  same-acceptance outputs = acceptance-order limits l m m' outputs (perm (scene_of l m) (scene_of l m') r) aligned

  same_length : length m.sources ≡ length m'.sources
  same_length = sym (connections-length m) ∙ perm-length (perm (scene_of l m) (scene_of l m') r) ∙ connections-length m'

  -- by the scene call and by each of its two parts
  pub same-analyze : (lengths : List (List ℕ)) → check_scene limits l m (outputs_from 0 (length l.ids) (length m.sources) lengths) ≡ accepted
      → check_scene limits l m' (outputs_from 0 (length l.ids) (length m'.sources) lengths) ≡ accepted
  same-analyze lengths e = rw (← same_length) (same-acceptance (outputs_from 0 (length l.ids) (length m.sources) lengths) e)

  pub same-describe : (l0 l1 l2 : List ℕ) → check_describe limits l m l0 l1 l2 ≡ accepted → check_describe limits l m' l0 l1 l2 ≡ accepted
  unfolding check_describe
  same-describe l0 l1 l2 e = rw (← same_length) (same-acceptance (describe_outputs (length l.ids) (length m.sources) l0 l1 l2) e)

  pub same-assess : (l3 l4 l5 l6 l7 l8 : List ℕ) → check_assess limits l m l3 l4 l5 l6 l7 l8 ≡ accepted → check_assess limits l m' l3 l4 l5 l6 l7 l8 ≡ accepted
  unfolding check_assess
  same-assess l3 l4 l5 l6 l7 l8 e = rw (← same_length) (same-acceptance (assess_outputs (length l.ids) (length m.sources) l3 l4 l5 l6 l7 l8) e)
