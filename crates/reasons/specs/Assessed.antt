-- What assessing the reasons needs and promises. Assumes nothing: these are definitions.
use Rattle.std.specs.Prelude.{cond, List, map, Option, IfSome, is_some, ◌≡◌, ℕ, ◌+◌, ◌*◌, ◌≤◌, length}
use Rattle.rules.specs.Lists.{written}
use Rattle.rules.specs.Labels.{settled_flag, low_sum, high_sum}
use Rattle.rules.specs.Reasons.{reason_kind, reason_component, reason_block, reason_minimum, reason_maximum}
use Rattle.rules.specs.Scene.{ComponentLists}
use Rattle.graph.specs.Adjacency.{Below}
use Rattle.reasons.specs.Fits.{reasons_fit}
use Rattle.reasons.specs.Listing.{Linked}
use Rattle.reasons.specs.Over.{feedback_over, reasons_over, labels_over, scope_over, pattern_over}
use Rattle.reasons.specs.Rows.{Columns, ReasonRoom, ReasonsWritten}
use Rattle.reasons.specs.Sums.{LabelColumns}
use Rattle.reasons.specs.declared.ReasonsAssessed.{ReasonsAssessed}

-- the call: its answer, and what the columns of lists 3, 4 and 8 hold after it
pub record ReasonsCall (l : ComponentLists) (starts stops order : List ℕ)
    (reasons : Columns) (feedback : List ℕ) (labels : LabelColumns) (reasons' : Columns) (feedback' : List ℕ) (labels' : LabelColumns) (r : Option ReasonsAssessed) : Type 0 where
  pub answer : is_some r ≡ reasons_fit l starts stops order reasons feedback labels
  pub reason_kinds : reasons'.kinds ≡ cond (is_some r) (written reasons.kinds (map reason_kind (reasons_over l starts stops order))) reasons.kinds
  pub reason_components : reasons'.components ≡ cond (is_some r) (written reasons.components (map reason_component (reasons_over l starts stops order))) reasons.components
  pub reason_blocks : reasons'.blocks ≡ cond (is_some r) (written reasons.blocks (map reason_block (reasons_over l starts stops order))) reasons.blocks
  pub reason_minimums : reasons'.minimums ≡ cond (is_some r) (written reasons.minimums (map reason_minimum (reasons_over l starts stops order))) reasons.minimums
  pub reason_maximums : reasons'.maximums ≡ cond (is_some r) (written reasons.maximums (map reason_maximum (reasons_over l starts stops order))) reasons.maximums
  pub feedback_ids : feedback' ≡ cond (is_some r) (written feedback (feedback_over l starts stops)) feedback
  pub label_settled : labels'.settled ≡ cond (is_some r) (written labels.settled (map settled_flag (labels_over l starts stops))) labels.settled
  pub label_lows : labels'.lows ≡ cond (is_some r) (written labels.lows (map low_sum (labels_over l starts stops))) labels.lows
  pub label_highs : labels'.highs ≡ cond (is_some r) (written labels.highs (map high_sum (labels_over l starts stops))) labels.highs
  pub reasons_counted : IfSome r (λ a. a.reasons ≡ length (reasons_over l starts stops order))
  pub feedback_counted : IfSome r (λ a. a.feedback ≡ length (feedback_over l starts stops))
  pub scope_told : IfSome r (λ a. a.scope ≡ scope_over l starts stops order)
  pub pattern_told : IfSome r (λ a. a.pattern ≡ pattern_over l starts stops)

-- The same where the lists fit

-- components and edges over their positions, and positions to look at
pub record Assessable (l : ComponentLists) (starts stops order : List ℕ) : Type 0 where
  pub kinds_length : length l.kinds ≡ length l.ids
  pub delays_length : length l.delays ≡ length l.ids
  pub locked_length : length l.locked ≡ length l.ids
  pub linked : Linked starts stops (length l.ids)
  pub order_few : length order ≤ length l.ids
  pub positions : Below (length l.ids) order

-- room for what is said of n components
pub record OutputRoom (n : ℕ) (reasons : Columns) (feedback : List ℕ) (labels : LabelColumns) : Type 0 where
  pub reason_room : ReasonRoom (2 * n + 1) reasons
  pub feedback_room : n ≤ length feedback
  pub settled_room : n ≤ length labels.settled
  pub lows_room : n ≤ length labels.lows
  pub highs_room : n ≤ length labels.highs

pub record ReasonsFound (l : ComponentLists) (starts stops order : List ℕ)
    (reasons : Columns) (feedback : List ℕ) (labels : LabelColumns) (reasons' : Columns) (feedback' : List ℕ) (labels' : LabelColumns) (r : ReasonsAssessed) : Type 0 where
  pub rows : ReasonsWritten 0 (reasons_over l starts stops order) reasons reasons'
  pub feedback_ids : feedback' ≡ written feedback (feedback_over l starts stops)
  pub label_settled : labels'.settled ≡ written labels.settled (map settled_flag (labels_over l starts stops))
  pub label_lows : labels'.lows ≡ written labels.lows (map low_sum (labels_over l starts stops))
  pub label_highs : labels'.highs ≡ written labels.highs (map high_sum (labels_over l starts stops))
  pub reasons_counted : r.reasons ≡ length (reasons_over l starts stops order)
  pub feedback_counted : r.feedback ≡ length (feedback_over l starts stops)
  pub scope_told : r.scope ≡ scope_over l starts stops order
  pub pattern_told : r.pattern ≡ pattern_over l starts stops
