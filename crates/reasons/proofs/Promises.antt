-- What the contracts give a caller whose lists fit. Assumes nothing.
use mathlib.Core.List.{List}
use mathlib.Core.Path.{◌≡◌, refl, sym, ap, subst}
use Prim.Native.Nat.{ℕ}
use lib.Dec.{T}
use lib.ListN.{length}
use Rattle.std.specs.Prelude.{Option, Some, None}
use Rattle.rules.specs.Lists.{written}
use Rattle.rules.specs.Scene.{ComponentLists}
use Rattle.reasons.specs.Assessed.{ReasonsCall, ReasonsFound}
use Rattle.reasons.specs.FeedbackListed.{FeedbackIds}
use Rattle.reasons.specs.Fits.{feedback_fits, reasons_fit}
use Rattle.reasons.specs.Listing.{shared_ids}
use Rattle.reasons.specs.Rows.{Columns}
use Rattle.reasons.specs.Sums.{LabelColumns}
use Rattle.reasons.specs.declared.ReasonsAssessed.{ReasonsAssessed}

pub fitting-ids : {ids kinds starts stops feedback feedback' : List ℕ} {r : Option ℕ} → FeedbackIds ids kinds starts stops feedback feedback' r → T (feedback_fits starts stops (length ids) (length kinds) (length feedback))
    → (feedback' ≡ written feedback (shared_ids ids kinds starts stops)) × (r ≡ Some (length (shared_ids ids kinds starts stops)))
fitting-ids {r = Some n} p t = (p.lists, ap Some p.counts)
fitting-ids {r = None} p t = elim (subst T (sym p.answer) t) [ ]

module _ {l : ComponentLists} {starts stops order : List ℕ} {reasons : Columns} {feedback : List ℕ} {labels : LabelColumns} {reasons' : Columns} {feedback' : List ℕ} {labels' : LabelColumns} where
  pub fitting-reasons : {r : Option ReasonsAssessed} → ReasonsCall l starts stops order reasons feedback labels reasons' feedback' labels' r → T (reasons_fit l starts stops order reasons feedback labels)
      → (a : ReasonsAssessed) × (r ≡ Some a) × ReasonsFound l starts stops order reasons feedback labels reasons' feedback' labels' a
  fitting-reasons {r = Some a} p t = (
    a,
    refl,
    record {
      rows = record {
        kinds_written = p.reason_kinds;
        components_written = p.reason_components;
        blocks_written = p.reason_blocks;
        minimums_written = p.reason_minimums;
        maximums_written = p.reason_maximums;
      };
      feedback_ids = p.feedback_ids;
      label_settled = p.label_settled;
      label_lows = p.label_lows;
      label_highs = p.label_highs;
      reasons_counted = p.reasons_counted;
      feedback_counted = p.feedback_counted;
      scope_told = p.scope_told;
      pattern_told = p.pattern_told;
    },
  )
  fitting-reasons {r = None} p t = elim (subst T (sym p.answer) t) [ ]
