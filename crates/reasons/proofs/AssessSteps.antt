-- What the passes found, put together. Assumes nothing.
use mathlib.Core.Bool.{cond}
use mathlib.Core.List.{List, ◌++◌, map, flat_map, Memᴰ}
use mathlib.Core.Path.{◌≡◌, sym, ap, ap₂, subst, ◌∙◌}
use Prim.Native.Nat.{ℕ, ◌+◌, ◌*◌, ◌<◌, ◌≤◌}
use native.Mathlib.Nat.{zero-add}
use native.Mathlib.Omega.{arith}
use lib.ListN.{length, get_or, take, replicate, length-append, length-map, length-replicate}
use Rattle.rules.specs.Lists.{keep, indices, written}
use Rattle.rules.specs.Ordered.{key_at}
use Rattle.rules.specs.Graph.{Edge, edges_between, settled}
use Rattle.rules.specs.Paths.{smallest_sum, largest_sum}
use Rattle.rules.specs.Labels.{low_sum, high_sum}
use Rattle.rules.specs.Reasons.{Reason, unequal_reconvergent_delay, feedback_reason, own_reason, unequal_at}
use Rattle.rules.specs.Scene.{ComponentLists, component_at, components_of}
use Rattle.rules.specs.declared.answers.TemporalScope.{TemporalScope}
use Rattle.rules.specs.declared.answers.BehaviorPattern.{BehaviorPattern}
use Rattle.rules.proofs.Lists.{keep_out, map_same, flat-map}
use Rattle.rules.proofs.Indices.{at_mem, mem-at, made-length, made_at}
use Rattle.rules.proofs.Written.{from-length, written-front, written_at}
use Rattle.laws.proofs.Room.{keep-fewer, loop-one}
use Rattle.reasons.specs.Assessed.{Assessable, ReasonsFound}
use Rattle.reconvergence.specs.Fits.{settled_marks}
use Rattle.reasons.specs.Listing.{shared_ids, Flagged}
use Rattle.reasons.specs.Over.{position_delay, unequal_reason_over, temporal_over, unequal_over, reasons_over, labels_over, scope_of}
use Rattle.reasons.specs.Pattern.{shared_pattern}
use Rattle.reasons.specs.Rows.{Columns, ReasonRoom, ReasonsWritten, ReasonsListed, own_reasons, unequal_row, UnequalAsked}
use Rattle.reasons.specs.Sums.{LabelColumns, PathsSummed, Cleared}
use Rattle.reasons.proofs.PatternSteps.{pattern-shared}
use Rattle.reasons.proofs.RowSteps.{rows-kept, room-kept, rows_next, own-count}
use Rattle.reasons.proofs.SumSteps.{flags-written, sums-written, low-shown, high-shown}

module _ (l : ComponentLists) (starts stops order : List ℕ) (asked : Assessable l starts stops order) where
  abbrev es : List Edge
  es = edges_between starts stops

  abbrev d : ℕ → ℕ
  d = position_delay l.kinds l.delays

  -- the own reasons are those of the components
  own-rows : own_reasons l.ids l.kinds l.locked (length l.ids) ≡ flat_map own_reason (components_of l)
  unfolding own_reasons own_reason components_of component_at
  own-rows = sym (flat-map own_reason (component_at l) (indices (length l.ids)))

  temporal-rows : feedback_reason (shared_ids l.ids l.kinds starts stops) ++ own_reasons l.ids l.kinds l.locked (length l.ids) ≡ temporal_over l starts stops
  unfolding temporal_over
  temporal-rows = ap (λ o. feedback_reason (shared_ids l.ids l.kinds starts stops) ++ o) own-rows

  module _ {labels labels' : LabelColumns} {unequal : List ℕ}
      (room : (length l.ids ≤ length labels.settled) × (length l.ids ≤ length labels.lows) × (length l.ids ≤ length labels.highs))
      (sums : PathsSummed (edges_between starts stops) (position_delay l.kinds l.delays) (length l.kinds) order labels labels' unequal) where
    -- list 8 is as long as it was
    made_long : (f : ℕ → ℕ) (old new : List ℕ) → length l.ids ≤ length old → new ≡ written old (map f (indices (length l.kinds))) → length l.ids ≤ length new
    made_long f old new h e = omega (arith, asked.kinds_length, ap length e ∙ from-length old (map f (indices (length l.kinds))) 0 (omega (arith, made-length f (length l.kinds), asked.kinds_length)))

    pub labels-long : (length l.ids ≤ length labels'.settled) × (length l.ids ≤ length labels'.lows) × (length l.ids ≤ length labels'.highs)
    labels-long = (made_long _ labels.settled labels'.settled room.0 sums.settled_marked, made_long _ labels.lows labels'.lows room.1 sums.smallest_found, made_long _ labels.highs labels'.highs room.2 sums.largest_found)

    -- the flags of list 8 tell which components are settled
    pub flagged : (marks : List ℕ) → take (length l.ids) marks ≡ replicate (length l.ids) 0 → Flagged starts stops (length l.ids) labels'.settled marks
    unfolding settled_marks
    flagged marks e =
        let old = rw asked.kinds_length at sums.settled_marked in
        record {
          flags_room = labels-long.0;
          flags = ap (take (length l.ids)) old ∙ written-front labels.settled (map (λ v. cond (settled es v) 1 0) (indices (length l.ids))) (length l.ids) (made-length (λ v. cond (settled es v) 1 0) (length l.ids));
          unmarked = e;
        }

    listed_below : (v : ℕ) → Memᴰ v (keep (unequal_at es d d) order) → v < length l.ids
    listed_below v m = let r = mem-at 0 (keep_out (unequal_at es d d) order m).0 in omega (arith, asked.positions r.0 r.1, r.2)

    pub unequal-asked : UnequalAsked l.ids labels'.lows labels'.highs unequal
    unequal-asked = record {
      positions = λ k h. listed_below _ (subst (λ m. Memᴰ (get_or unequal k 0) m) sums.unequal_found (at_mem 0 unequal k h));
      smallest_room = labels-long.1;
      largest_room = labels-long.2;
    }

    -- room for the unequal delays after the other reasons
    pub unequal_room : {reasons reasons' : Columns} (listed temporal : ℕ) → ReasonRoom (2 * length l.ids + 1) reasons
        → ((fs : List ℕ) → listed ≡ length fs → ReasonsListed 0 (feedback_reason fs ++ own_reasons l.ids l.kinds l.locked (length l.ids)) reasons reasons' temporal) → ReasonRoom (temporal + length unequal) reasons'
    unequal_room listed temporal r rows =
        let some : List ℕ = replicate listed 0 in
        let p = rows some (sym (length-replicate listed 0)) in
        let few : length (feedback_reason some ++ own_reasons l.ids l.kinds l.locked (length l.ids)) ≤ 1 + length l.ids =
        omega (arith, length-append (feedback_reason some) (own_reasons l.ids l.kinds l.locked (length l.ids)), loop-one some, own-count l.ids l.kinds l.locked (length l.ids)) in
        let most : length unequal ≤ length l.ids = omega (arith, ap length sums.unequal_found, keep-fewer (unequal_at es d d) order, asked.order_few) in
        room-kept (2 * length l.ids + 1) (temporal + length unequal) (omega (arith, p.next)) r (rows-kept (2 * length l.ids + 1) (omega arith) r p.rows)

    sum-at : (f : ℕ → ℕ) (old new : List ℕ) → new ≡ written old (map f (indices (length l.kinds))) → (v : ℕ) → v < length l.ids → key_at new v ≡ f v
    sum-at f old new e v h =
        let k : v < length l.kinds = omega (arith, asked.kinds_length) in
        ap (λ l. get_or l v 0) e ∙ written_at old (map f (indices (length l.kinds))) v 0 (omega (arith, made-length f (length l.kinds))) ∙ made_at f (length l.kinds) v 0 k

    -- the unequal delays are listed with their sums
    unequal-rows : map (unequal_row l.ids labels'.lows labels'.highs) unequal ≡ unequal_over l starts stops order
    unfolding unequal_over
    unequal-rows =
        ap (map (unequal_row l.ids labels'.lows labels'.highs)) sums.unequal_found
        ∙ map_same _ (unequal_reason_over l starts stops) (keep (unequal_at es d d) order)
        (λ v m. ap₂ (unequal_reconvergent_delay (get_or l.ids v 0)) (sum-at (smallest_sum es d) labels.lows labels'.lows sums.smallest_found v (listed_below v m)) (sum-at (largest_sum es d) labels.highs labels'.highs sums.largest_found v (listed_below v m)))

    all-rows : (feedback_reason (shared_ids l.ids l.kinds starts stops) ++ own_reasons l.ids l.kinds l.locked (length l.ids)) ++ map (unequal_row l.ids labels'.lows labels'.highs) unequal ≡ reasons_over l starts stops order
    unfolding reasons_over
    all-rows = ap₂ ◌++◌ temporal-rows unequal-rows

    module _ {reasons reasons' reasons'' : Columns} {feedback feedback' : List ℕ} {labels'' : LabelColumns} {listed temporal all : ℕ} {s : TemporalScope} {p : BehaviorPattern}
        (reason_room : ReasonRoom (2 * length l.ids + 1) reasons)
        (listed_ids : feedback' ≡ written feedback (shared_ids l.ids l.kinds starts stops))
        (counted : listed ≡ length (shared_ids l.ids l.kinds starts stops))
        (firsts : (fs : List ℕ) → listed ≡ length fs → ReasonsListed 0 (feedback_reason fs ++ own_reasons l.ids l.kinds l.locked (length l.ids)) reasons reasons' temporal)
        (lasts : ReasonsListed temporal (map (unequal_row l.ids labels'.lows labels'.highs) unequal) reasons' reasons'' all)
        (cleared : Cleared (length l.ids) labels' labels'')
        (scoped : (ts us : List Reason) → temporal ≡ length ts → length unequal ≡ length us → s ≡ scope_of ts us)
        (patterned : p ≡ shared_pattern l.ids l.kinds starts stops) where
      pub reasons-found : ReasonsFound l starts stops order reasons feedback labels reasons'' feedback' labels'' (record { reasons = all; feedback = listed; scope = s; pattern = p })
      unfolding labels_over
      reasons-found =
          let first = firsts (shared_ids l.ids l.kinds starts stops) counted in
          let r = rows_next (2 * length l.ids + 1) (omega arith) reason_room first lasts in
          let n = asked.kinds_length in
          let settles = rw n at sums.settled_marked in
          record {
            rows = subst (λ rs. ReasonsWritten 0 rs reasons reasons'') all-rows r.rows;
            feedback_ids = listed_ids;
            label_settled = flags-written es d (length l.ids) labels''.settled labels.settled (cleared.flags_kept ∙ settles);
            label_lows = sums-written es d (length l.ids) labels'.settled (smallest_sum es d) low_sum (low-shown es d) labels.settled labels.lows labels'.lows labels''.lows settles (rw n at sums.smallest_found) cleared.lows_cleared;
            label_highs = sums-written es d (length l.ids) labels'.settled (largest_sum es d) high_sum (high-shown es d) labels.settled labels.highs labels'.highs labels''.highs settles (rw n at sums.largest_found) cleared.highs_cleared;
            reasons_counted = r.next ∙ zero-add _ ∙ ap length all-rows;
            feedback_counted = counted;
            scope_told = scoped (temporal_over l starts stops) (unequal_over l starts stops order) (first.next ∙ zero-add _ ∙ ap length temporal-rows) (sym (length-map unequal (unequal_row l.ids labels'.lows labels'.highs)) ∙ ap length unequal-rows);
            pattern_told = patterned ∙ pattern-shared l starts stops n;
          }
