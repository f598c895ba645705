-- Reasons, labels, scope and pattern over positions: the edges lead from the positions in starts to those in stops, and order has the positions at which
-- unequal delays are looked for, in that order. Assumes nothing: these are definitions.
use Rattle.std.specs.Prelude.{cond, ℕ, length, get_or}
use mathlib.Core.List.{List, ◌++◌, map, flat_map}
use Rattle.rules.specs.Lists.{not_empty, any, keep, indices}
use Rattle.rules.specs.Kinds.{kind_row, component_delay, is_device}
use Rattle.rules.specs.Graph.{edges_between}
use Rattle.rules.specs.Positions.{id_at}
use Rattle.rules.specs.Paths.{smallest_sum, largest_sum}
use Rattle.rules.specs.Labels.{Label, label}
use Rattle.rules.specs.Reasons.{Reason, unequal_reconvergent_delay, feedback_reason, own_reason, unequal_at, is_inverter}
use Rattle.rules.specs.Scene.{ComponentLists, components_of, row_of}
use Rattle.rules.specs.declared.answers.TemporalScope.{TemporalScope}
use Rattle.rules.specs.declared.answers.TemporalScope.TheVariants.{SteadyStateSafe, TimingSensitive, TemporalRequired}
use Rattle.rules.specs.declared.answers.BehaviorPattern.{BehaviorPattern}
use Rattle.rules.specs.declared.answers.BehaviorPattern.TheVariants.{DelayedPath, ClockCandidate, LatchCandidate, Nothing}
use Rattle.reasons.specs.Listing.{shared_positions, shared_ids}

-- the delay of the component at a position
unfoldable pub position_delay : (kinds delays : List ℕ) → ℕ → ℕ
position_delay kinds delays i = component_delay (get_or kinds i 0) (get_or delays i 0)

-- "Any of the first three gives TemporalRequired; unequal delays alone TimingSensitive; none SteadyStateSafe."
unfoldable pub scope_of : (temporal unequal : List Reason) → TemporalScope
scope_of temporal unequal = cond (not_empty temporal) TemporalRequired (cond (not_empty unequal) TimingSensitive SteadyStateSafe)

module _ (l : ComponentLists) (starts stops : List ℕ) where
  -- list 4
  abbrev pub feedback_over : List ℕ
  feedback_over = shared_ids l.ids l.kinds starts stops

  -- the first three kinds of reason
  unfoldable pub temporal_over : List Reason
  temporal_over = feedback_reason feedback_over ++ flat_map own_reason (components_of l)

  -- an unequal-delay reason for a position
  abbrev pub unequal_reason_over : ℕ → Reason
  unequal_reason_over i =
      unequal_reconvergent_delay (id_at l.ids i) (smallest_sum (edges_between starts stops) (position_delay l.kinds l.delays) i)
      (largest_sum (edges_between starts stops) (position_delay l.kinds l.delays) i)

  unfoldable pub unequal_over : (order : List ℕ) → List Reason
  unequal_over order = map unequal_reason_over (keep (unequal_at (edges_between starts stops) (position_delay l.kinds l.delays) (position_delay l.kinds l.delays)) order)

  -- list 3
  unfoldable pub reasons_over : (order : List ℕ) → List Reason
  reasons_over order = temporal_over ++ unequal_over order

  -- list 8
  unfoldable pub labels_over : List Label
  labels_over = map (label (edges_between starts stops) (position_delay l.kinds l.delays) (position_delay l.kinds l.delays)) (indices (length l.ids))

  abbrev pub scope_over : (order : List ℕ) → TemporalScope
  scope_over order = scope_of temporal_over (unequal_over order)

  -- "without Feedback, DelayedPath if any device exists, else nothing; with it, ClockCandidate if the list has an Inverter, else LatchCandidate"
  unfoldable pub pattern_over : BehaviorPattern
  pattern_over =
      cond (not_empty feedback_over)
      (cond (any (λ i. is_inverter (kind_row (get_or l.kinds i 0)).node) (shared_positions l.kinds starts stops (length l.ids))) ClockCandidate LatchCandidate)
      (cond (any (λ c. is_device (row_of c)) (components_of l)) DelayedPath Nothing)
