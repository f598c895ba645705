-- What is said over positions is what is said of the scene by ids. Assumes nothing.
use mathlib.Core.Bool.{not, cond, ◌&&◌}
use mathlib.Core.List.{List, ◌++◌, map, flat_map}
use mathlib.Core.Path.{◌≡◌, refl, sym, ap, ap₂, ◌∙◌}
use Prim.Native.Nat.{ℕ, ◌<◌}
use lib.Dec.{eqb}
use lib.ListN.{length, get_or}
use Rattle.rules.specs.Lists.{not_empty, any, indices, Distinct}
use Rattle.rules.specs.Kinds.{kind_row, is_device}
use Rattle.rules.specs.Ordered.{ordered}
use Rattle.rules.specs.Graph.{Edge, edges_between, shares_component, shared_marks}
use Rattle.rules.specs.Positions.{Positioned}
use Rattle.rules.specs.Scene.{ComponentLists, component_at, components_of, row_of, row_at, delay_of}
use Rattle.rules.specs.Labels.{labels}
use Rattle.rules.specs.Reasons.{passive, is_inverter, feedback, feedback_reason, own_reason, unequal_reasons, temporal_reasons, reasons, scope, pattern}
use Rattle.rules.specs.declared.answers.BehaviorPattern.TheVariants.{DelayedPath, ClockCandidate, LatchCandidate, Nothing}
use Rattle.rules.proofs.Lists.{flag-set, any_same, any-map, keep_out, keep_same}
use Rattle.rules.proofs.Indices.{indices-below}
use Rattle.rules.proofs.Ordering.{ordered-inside}
use Rattle.laws.proofs.PositionEdges.{feedback-by-position, mark-at}
use Rattle.laws.proofs.ByPosition.{rising-by-position, row-by-position, labels-by-position, unequal-by-position}
use Rattle.reasons.specs.Listing.{is_listed, listed_ids, shared_positions, shared_ids}
use Rattle.reasons.specs.Over.{position_delay, temporal_over, unequal_over, reasons_over, labels_over, scope_of, scope_over, pattern_over}

module _ (l : ComponentLists) (distinct : Distinct l.ids) (es : List Edge) (starts stops : List ℕ) (positioned : Positioned l.ids es (edges_between starts stops)) where
  -- list 4
  pub shared-feedback : shared_ids l.ids l.kinds starts stops ≡ feedback (components_of l) es
  unfolding shared_ids listed_ids row_of component_at
  shared-feedback =
      ap (map (λ i. get_or l.ids i 0)) (keep_same _ _ (indices n) (λ i k. ap (λ b. not (passive (kind_row (get_or l.kinds i 0)).node) && b) (marked i (indices-below n k))))
      ∙ sym (feedback-by-position l distinct es positions positioned)
    where
      n : ℕ
      n = length l.ids

      positions : List Edge
      positions = edges_between starts stops

      marked : (i : ℕ) → i < n → not (eqb (get_or (shared_marks positions n) i 0) 0) ≡ shares_component positions n i
      marked i h = ap (λ x. not (eqb x 0)) (mark-at positions n (shared_marks positions n) refl i h) ∙ flag-set (shares_component positions n i)

  pub temporal-by-ids : temporal_over l starts stops ≡ temporal_reasons (components_of l) es
  unfolding temporal_over temporal_reasons
  temporal-by-ids = ap (λ fs. feedback_reason fs ++ flat_map own_reason (components_of l)) shared-feedback

  delays-same : (i : ℕ) → i < length l.ids → delay_of (component_at l i) ≡ position_delay l.kinds l.delays i
  unfolding delay_of component_at position_delay
  delays-same i h = refl

  pub unequal-by-ids : unequal_over l starts stops (ordered l.ids) ≡ unequal_reasons (components_of l) es
  unfolding unequal_over
  unequal-by-ids =
      sym (unequal-by-position l distinct es (edges_between starts stops) positioned (position_delay l.kinds l.delays) delays-same (ordered l.ids) (rising-by-position l)
      (ordered-inside l.ids))

  -- list 3
  pub reasons-by-ids : reasons_over l starts stops (ordered l.ids) ≡ reasons (components_of l) es
  unfolding reasons_over reasons
  reasons-by-ids = ap₂ ◌++◌ temporal-by-ids unequal-by-ids

  -- list 8
  pub labels-by-ids : labels_over l starts stops ≡ labels (components_of l) es
  unfolding labels_over
  labels-by-ids = sym (labels-by-position l distinct es (edges_between starts stops) positioned (position_delay l.kinds l.delays) delays-same)

  pub scope-by-ids : scope_over l starts stops (ordered l.ids) ≡ scope (components_of l) es
  unfolding scope scope_of
  scope-by-ids = ap₂ scope_of temporal-by-ids unequal-by-ids

  -- a listed id's row is that of its position
  inverters : any (λ i. is_inverter (kind_row (get_or l.kinds i 0)).node) (shared_positions l.kinds starts stops (length l.ids))
      ≡ any (λ v. is_inverter (row_at (components_of l) v).node) (shared_ids l.ids l.kinds starts stops)
  unfolding shared_ids listed_ids shared_positions row_of component_at
  inverters =
      any_same _ _ _ (λ i m. ap (λ r. is_inverter r.node) (sym (row-by-position l distinct i (indices-below (length l.ids) (keep_out (is_listed l.kinds marks) (indices (length l.ids)) m).0))))
      ∙ sym (any-map (λ v. is_inverter (row_at (components_of l) v).node) (λ i. get_or l.ids i 0) _)
    where
      marks : List ℕ
      marks = shared_marks (edges_between starts stops) (length l.ids)

  pub pattern-by-ids : pattern_over l starts stops ≡ pattern (components_of l) es
  unfolding pattern_over pattern
  pattern-by-ids =
      ap (λ b. cond (not_empty (shared_ids l.ids l.kinds starts stops)) (cond b ClockCandidate LatchCandidate) (cond (any (λ c. is_device (row_of c)) (components_of l)) DelayedPath Nothing)) inverters
      ∙ ap (λ fs. cond (not_empty fs) (cond (any (λ v. is_inverter (row_at (components_of l) v).node) fs) ClockCandidate LatchCandidate) (cond (any (λ c. is_device (row_of c)) (components_of l)) DelayedPath Nothing)) shared-feedback
