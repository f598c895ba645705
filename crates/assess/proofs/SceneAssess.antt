-- From the checks and the passes to the call. Assumes nothing.
use mathlib.Core.List.Memᴰ
use Rattle.std.proofs.Common.{Result, Ok, ◌≡◌, ℕ, ◌-◌, ◌≤◌, List, [], ◌∷◌, map, length, refl, sym, ap, ◌∙◌, arith}
use Rattle.rules.specs.Lists.{count, written}
use Rattle.rules.specs.Ordered.{ordered}
use Rattle.rules.specs.Graph.{Edge, edges_between}
use Rattle.rules.specs.Scene.{ComponentLists, ConnectionLists, components_of, connections_of, edges_of, scene_of}
use Rattle.rules.specs.Labels.{settled_flag, low_sum, high_sum}
use Rattle.rules.specs.Reasons.{reason_kind, reason_component, reason_block, reason_minimum, reason_maximum}
use Rattle.rules.specs.Projection.{compressed, path_ids, path_starts, path_length}
use Rattle.rules.specs.Refusals.{accepted, scene_limits, room_outputs, check_scene}
use Rattle.rules.specs.Assess.{scene_answer, scene_numbers, assess_outputs, check_assess, assessment, AssessLists, assess_checked, AssessedBy}
use Rattle.rules.specs.declared.answers.Assessment.{Assessment}
use Rattle.rules.specs.declared.answers.Refusal.{Refusal}
use Rattle.rules.proofs.Acceptance.{AcceptedScene, accepted→}
use Rattle.rules.proofs.Counts.{count-both}
use Rattle.rules.proofs.Columns.{components_length}
use Rattle.rules.proofs.Ordering.{ordered-below, ordered-length}
use Rattle.rules.proofs.Shortest.{shortest-assess}
use Rattle.laws.proofs.PositionEdges.{inside-sources, inside-sinks}
use Rattle.graph.specs.Adjacency.{Below}
use Rattle.projection.specs.declared.Projected.{Projected}
use Rattle.projection.specs.Entries.{retained_count}
use Rattle.projection.specs.Projecting.{ProjectedLists, projected_lists, Projecting}
use Rattle.reasons.specs.declared.ReasonsAssessed.{ReasonsAssessed}
use Rattle.reasons.specs.Assessed.{Assessable, OutputRoom, ReasonsFound}
use Rattle.reasons.specs.Rows.{Columns, columns}
use Rattle.reasons.specs.Sums.{LabelColumns, label_columns}
use Rattle.reasons.proofs.ByIds.{shared-feedback, reasons-by-ids, labels-by-ids, scope-by-ids, pattern-by-ids}
use Rattle.scene.specs.Ends.{checked_of}
use Rattle.scene.specs.Placed.{PlacedRows, ScenePlaced}
use Rattle.scene.specs.declared.place.Placed.{Placed}
use Rattle.assess.specs.Answer.{assessed_of}
use Rattle.assess.specs.Nodes.{compressible_of}
use Rattle.assess.specs.Ready.{assessment_room, scene_nodes, ProjectionReady}
use Rattle.assess.proofs.ProjectedByIds.{marks-by-ids, entries-by-ids, retained-by-ids}
use Rattle.assess.proofs.Rising.{ids-rise}

-- the columns of lists 3, 6 with 7, and 8
abbrev reason_columns : AssessLists → Columns
reason_columns o = columns o.reason_kinds o.reason_components o.reason_blocks o.reason_minimums o.reason_maximums

abbrev projection_columns : AssessLists → ProjectedLists
projection_columns o =
    projected_lists o.projected_sources o.projected_sinks o.projected_inverted o.projected_minimums o.projected_maximums o.projected_starts o.projected_lengths o.path_ids

abbrev labels_of : AssessLists → LabelColumns
labels_of o = label_columns o.label_settled o.label_lows o.label_highs

module _ (l : ComponentLists) (m : ConnectionLists) (old : AssessLists) where
  module _ {room : List ℕ} (e : room ≡ assessment_room old) where
    -- the scene tested by the shortest lengths
    pub by_room : {answer : Result Placed Refusal} → ScenePlaced (check_scene scene_limits l m (room_outputs (length l.ids) (length m.sources) 3 room)) l.ids m answer → checked_of answer ≡ assess_checked scene_limits l m old
    unfolding assessment_room
    by_room t = t.checked ∙ rw e (sym (shortest-assess scene_limits l m _ _ _ _ _ _ (tt, (tt, (tt, (tt, (tt, (tt, tt))))))))

  module _ {p : Placed} (at : PlacedRows l.ids m p) (fits : assess_checked scene_limits l m old ≡ accepted) where
    abbrev sources : List ℕ
    sources = p.edges.sources.now

    abbrev sinks : List ℕ
    sinks = p.edges.sinks.now

    abbrev order : List ℕ
    order = p.order.now

    here : AcceptedScene scene_limits l m (assess_outputs (length l.ids) (length m.sources)
        (length old.reason_kinds ∷ length old.reason_components ∷ length old.reason_blocks ∷ length old.reason_minimums ∷ length old.reason_maximums ∷ [])
        (length old.feedback_ids ∷ []) (length old.marks ∷ [])
        (length old.projected_sources ∷ length old.projected_sinks ∷ length old.projected_inverted ∷ length old.projected_minimums ∷ length old.projected_maximums ∷ length old.projected_starts ∷ length old.projected_lengths ∷ [])
        (length old.path_ids ∷ []) (length old.label_settled ∷ length old.label_lows ∷ length old.label_highs ∷ []))
    unfolding check_assess
    here = accepted→ scene_limits l m _ fits

    sources_below : Below (length l.ids) sources
    sources_below = inside-sources (length l.ids) sources sinks (sym at.pairs) at.positioned.inside

    sinks_below : Below (length l.ids) sinks
    sinks_below = inside-sinks (length l.ids) sources sinks (sym at.pairs) at.positioned.inside

    order_below : Below (length l.ids) order
    order_below = rw at.sorted (λ k h. ordered-below l.ids k (omega (arith, ordered-length l.ids)))

    pub assessable : Assessable l sources sinks order
    assessable =
        let a = here.components_aligned in
        record {
          kinds_length = a.kinds_length;
          delays_length = a.delays_length;
          locked_length = a.locked_length;
          linked = record { pairs = at.pairs; nodes_few = here.components_few; edges_few = omega (arith, at.edges_few, here.connections_few); inside = at.positioned.inside };
          order_few = omega (arith, ap length at.sorted, ordered-length l.ids);
          positions = order_below;
        }

    pub output-room : OutputRoom (length l.ids) (reason_columns old) old.feedback_ids (labels_of old)
    output-room =
        let three = here.outputs_long _ (Memᴰ.head refl) in
        let eight = here.outputs_long _ (Memᴰ.tail (Memᴰ.tail (Memᴰ.tail (Memᴰ.tail (Memᴰ.tail (Memᴰ.head refl)))))) in
        record {
          reason_room = record {
            kind_room = three _ (Memᴰ.head refl);
            component_room = three _ (Memᴰ.tail (Memᴰ.head refl));
            block_room = three _ (Memᴰ.tail (Memᴰ.tail (Memᴰ.head refl)));
            minimum_room = three _ (Memᴰ.tail (Memᴰ.tail (Memᴰ.tail (Memᴰ.head refl))));
            maximum_room = three _ (Memᴰ.tail (Memᴰ.tail (Memᴰ.tail (Memᴰ.tail (Memᴰ.head refl)))));
          };
          feedback_room = here.outputs_long _ (Memᴰ.tail (Memᴰ.head refl)) _ (Memᴰ.head refl);
          settled_room = eight _ (Memᴰ.head refl);
          lows_room = eight _ (Memᴰ.tail (Memᴰ.head refl));
          highs_room = eight _ (Memᴰ.tail (Memᴰ.tail (Memᴰ.head refl)));
        }

    pub projection_ready : ProjectionReady l sources sinks order old.marks (projection_columns old)
    projection_ready =
        let a = here.components_aligned in
        let few = at.edges_few in
        let six = here.outputs_long _ (Memᴰ.tail (Memᴰ.tail (Memᴰ.tail (Memᴰ.head refl)))) in
        record {
          kinds_length = a.kinds_length;
          delays_length = a.delays_length;
          nodes_few = here.components_few;
          edges_few = omega (arith, few, here.connections_few);
          pairs = at.pairs;
          sources_below = sources_below;
          sinks_below = sinks_below;
          order_below = order_below;
          rising = rw at.sorted (ids-rise l.ids here.ids_distinct);
          marks_room = here.outputs_long _ (Memᴰ.tail (Memᴰ.tail (Memᴰ.head refl))) _ (Memᴰ.head refl);
          sources_room = omega (arith, few, six _ (Memᴰ.head refl));
          sinks_room = omega (arith, few, six _ (Memᴰ.tail (Memᴰ.head refl)));
          inverted_room = omega (arith, few, six _ (Memᴰ.tail (Memᴰ.tail (Memᴰ.head refl))));
          minimums_room = omega (arith, few, six _ (Memᴰ.tail (Memᴰ.tail (Memᴰ.tail (Memᴰ.head refl)))));
          maximums_room = omega (arith, few, six _ (Memᴰ.tail (Memᴰ.tail (Memᴰ.tail (Memᴰ.tail (Memᴰ.head refl))))));
          path_starts_room = omega (arith, few, six _ (Memᴰ.tail (Memᴰ.tail (Memᴰ.tail (Memᴰ.tail (Memᴰ.tail (Memᴰ.head refl)))))));
          path_lengths_room = omega (arith, few, six _ (Memᴰ.tail (Memᴰ.tail (Memᴰ.tail (Memᴰ.tail (Memᴰ.tail (Memᴰ.tail (Memᴰ.head refl))))))));
          paths_room = omega (arith, few, here.outputs_long _ (Memᴰ.tail (Memᴰ.tail (Memᴰ.tail (Memᴰ.tail (Memᴰ.head refl))))) _ (Memᴰ.head refl));
        }

    abbrev es : List Edge
    es = edges_of (connections_of m)

    abbrev taken : List Edge
    taken = edges_between sources sinks

    -- the components that are not retained are compressed
    retained-few : (r : ℕ) → r ≡ retained_count (edges_between sources sinks) (compressible_of l.kinds) (length l.ids) → (r ≤ length l.ids) × (length l.ids - r ≡ count (λ c. compressed (components_of l) (edges_of (connections_of m)) c.id) (components_of l))
    retained-few r e =
        let both = count-both (λ c. compressed (components_of l) es c.id) (components_of l) in
        let kept = retained-by-ids l here.ids_distinct here.components_aligned.kinds_length es taken at.positioned in
        (omega (arith, both, kept, components_length l), omega (arith, both, kept, components_length l))

    pub retained-bound : {marks' : List ℕ} {c' : ProjectedLists} (q : Projected) → Projecting (scene_nodes l sources sinks order) old.marks marks' (projection_columns old) c' q → q.retained ≤ length l.ids
    retained-bound q made = (retained-few q.retained made.retained).0

    -- what the passes write are the lists of the call
    pub call-assessed : (new : AssessLists) (r : ReasonsAssessed) (q : Projected) (answer : Assessment)
        → ReasonsFound l sources sinks order (reason_columns old) old.feedback_ids (labels_of old) (reason_columns new) new.feedback_ids (labels_of new) r
        → Projecting (scene_nodes l sources sinks order) old.marks new.marks (projection_columns old) (projection_columns new) q
        → answer ≡ assessed_of (length l.ids) r q
        → AssessedBy accepted (scene_of l m) old new (Ok answer)
    unfolding assessment
    call-assessed new r q answer found made e =
        let d = here.ids_distinct in
        let same = here.components_aligned.kinds_length in
        let f : ReasonsFound l sources sinks (ordered l.ids) (reason_columns old) old.feedback_ids (labels_of old) (reason_columns new) new.feedback_ids (labels_of new) r = rw at.sorted at found in
        let j : Projecting (scene_nodes l sources sinks (ordered l.ids)) old.marks new.marks (projection_columns old) (projection_columns new) q = rw at.sorted at made in
        let reasoned = reasons-by-ids l d es sources sinks at.positioned in
        let fed = shared-feedback l d es sources sinks at.positioned in
        let labelled = labels-by-ids l d es sources sinks at.positioned in
        let marked = marks-by-ids l d same es taken at.positioned in
        let listed = entries-by-ids l d same es taken at.positioned in
        let scoped = f.scope_told ∙ scope-by-ids l d es sources sinks at.positioned in
        let patterned = f.pattern_told ∙ pattern-by-ids l d es sources sinks at.positioned in
        let kept = made.retained ∙ retained-by-ids l d same es taken at.positioned in
        let rest = (retained-few q.retained made.retained).1 in
        let c3 = f.reasons_counted ∙ ap length reasoned in
        let c4 = f.feedback_counted ∙ ap length fed in
        let c6 = j.projected ∙ ap length listed in
        let c7 = j.path_ids ∙ ap (λ ps. length (path_ids ps)) listed in
        let told : ◌≡◌ {A = Result Assessment Refusal} (Ok answer) (scene_answer accepted (scene_of l m)) = cc (e, scoped, patterned, kept, rest, c3, c4, c6, c7) in
        (record {
          answered = told;
          numbered = ap scene_numbers told;
          reason_kinds = f.rows.kinds_written ∙ ap (λ rs. written old.reason_kinds (map reason_kind rs)) reasoned;
          reason_components = f.rows.components_written ∙ ap (λ rs. written old.reason_components (map reason_component rs)) reasoned;
          reason_blocks = f.rows.blocks_written ∙ ap (λ rs. written old.reason_blocks (map reason_block rs)) reasoned;
          reason_minimums = f.rows.minimums_written ∙ ap (λ rs. written old.reason_minimums (map reason_minimum rs)) reasoned;
          reason_maximums = f.rows.maximums_written ∙ ap (λ rs. written old.reason_maximums (map reason_maximum rs)) reasoned;
          feedback_ids = f.feedback_ids ∙ ap (written old.feedback_ids) fed;
          marks = j.marked ∙ ap (written old.marks) marked;
          projected_sources = j.listed.sources ∙ ap (λ ps. written old.projected_sources (map (λ e. e.source) ps)) listed;
          projected_sinks = j.listed.sinks ∙ ap (λ ps. written old.projected_sinks (map (λ e. e.sink) ps)) listed;
          projected_inverted = j.listed.inverted ∙ ap (λ ps. written old.projected_inverted (map (λ e. e.inverted) ps)) listed;
          projected_minimums = j.listed.minimums ∙ ap (λ ps. written old.projected_minimums (map (λ e. e.minimum) ps)) listed;
          projected_maximums = j.listed.maximums ∙ ap (λ ps. written old.projected_maximums (map (λ e. e.maximum) ps)) listed;
          projected_starts = j.listed.starts ∙ ap (λ ps. written old.projected_starts (path_starts ps)) listed;
          projected_lengths = j.listed.lengths ∙ ap (λ ps. written old.projected_lengths (map path_length ps)) listed;
          path_ids = j.listed.ids ∙ ap (λ ps. written old.path_ids (path_ids ps)) listed;
          label_settled = f.label_settled ∙ ap (λ ls. written old.label_settled (map settled_flag ls)) labelled;
          label_lows = f.label_lows ∙ ap (λ ls. written old.label_lows (map low_sum ls)) labelled;
          label_highs = f.label_highs ∙ ap (λ ls. written old.label_highs (map high_sum ls)) labelled;
        })
