-- The tests of the lists' shapes, one by one. Assumes nothing.
use mathlib.Core.Bool.{true}
use mathlib.Core.List.{List}
use mathlib.Core.Path.{◌≡◌, sym}
use Prim.Native.Nat.{ℕ, ◌+◌, ◌*◌, ◌≤◌}
use native.Mathlib.Omega.{arith}
use borrow.Author.Tests.{le-leb}
use lib.Dec.{T}
use lib.ListN.{length}
use Rattle.rules.specs.Refusals.{scene_limits}
use Rattle.rules.specs.Scene.{ComponentLists}
use Rattle.rules.proofs.Lists.{tests}
use Rattle.laws.proofs.PositionEdges.{edges_between-inside, inside-sources, inside-sinks}
use Rattle.graph.specs.Fits.{ends_below}
use Rattle.graph.proofs.Fitting.{ends-all, ends-below}
use Rattle.reasons.specs.Fits.{edges_fit, feedback_fits, components_fit, order_fits, reasons_room, labels_room, reasons_fit}
use Rattle.reasons.specs.Listing.{Linked}
use Rattle.reasons.specs.Rows.{Columns, ReasonRoom}
use Rattle.reasons.specs.Sums.{LabelColumns}
use Rattle.reasons.specs.Assessed.{Assessable, OutputRoom}

-- edges that pass are edges between n positions
edges-linked : (starts stops : List ℕ) (n : ℕ) → n ≤ scene_limits.components → edges_fit starts stops n ≡ true → Linked starts stops n
unfolding edges_fit
edges-linked starts stops n h e =
    let a : ends_below n starts ≡ true = grind arith in
    let b : ends_below n stops ≡ true = grind arith in
    record {
      pairs = grind arith;
      nodes_few = h;
      edges_few = grind arith;
      inside = edges_between-inside n starts stops (ends-below n starts a) (ends-below n stops b);
    }

-- what the tests for list 4 say when all pass
pub feedback_fitted : (starts stops : List ℕ) (n kinds feedback : ℕ) → feedback_fits starts stops n kinds feedback ≡ true → Linked starts stops n × (kinds ≡ n) × (n ≤ feedback)
unfolding feedback_fits
feedback_fitted starts stops n kinds feedback e = (edges-linked starts stops n (grind arith) (grind arith), grind arith, grind arith)

-- what all tests say when all pass
pub reasons_fitted : (l : ComponentLists) (starts stops order : List ℕ) (reasons : Columns) (feedback : List ℕ) (labels : LabelColumns) → reasons_fit l starts stops order reasons feedback labels ≡ true
    → Assessable l starts stops order × OutputRoom (length l.ids) reasons feedback labels
unfolding reasons_fit components_fit order_fits reasons_room labels_room
reasons_fitted l starts stops order reasons feedback labels e =
    let a : edges_fit starts stops (length l.ids) ≡ true = grind arith in
    let b : ends_below (length l.ids) order ≡ true = grind arith in (
      record {
        kinds_length = grind arith;
        delays_length = grind arith;
        locked_length = grind arith;
        linked = edges-linked starts stops (length l.ids) (grind arith) a;
        order_few = grind arith;
        positions = ends-below (length l.ids) order b;
      },
      record {
        reason_room = record { kind_room = grind arith; component_room = grind arith; block_room = grind arith; minimum_room = grind arith; maximum_room = grind arith };
        feedback_room = grind arith;
        settled_room = grind arith;
        lows_room = grind arith;
        highs_room = grind arith;
      },
    )

-- Lists that fit pass all tests

linked-edges : (starts stops : List ℕ) (n : ℕ) → Linked starts stops n → T (edges_fit starts stops n)
unfolding edges_fit
linked-edges starts stops n l =
    let a = ends-all n starts (inside-sources n starts stops (sym l.pairs) l.inside) in
    let b = ends-all n stops (inside-sinks n starts stops (sym l.pairs) l.inside) in
    grind arith

pub linked-fits : (starts stops : List ℕ) (n kinds feedback : ℕ) → Linked starts stops n → kinds ≡ n → n ≤ feedback → T (feedback_fits starts stops n kinds feedback)
unfolding feedback_fits
linked-fits starts stops n kinds feedback l e h = let a = linked-edges starts stops n l in grind arith

room_fits : (need : ℕ) (reasons : Columns) → ReasonRoom need reasons → T (reasons_room need reasons)
unfolding reasons_room
room_fits need reasons r = rw (le-leb _ _ r.kind_room, le-leb _ _ r.component_room, le-leb _ _ r.block_room, le-leb _ _ r.minimum_room, le-leb _ _ r.maximum_room) tt

pub assessable-fits : (l : ComponentLists) (starts stops order : List ℕ) → Assessable l starts stops order → (reasons : Columns) (feedback : List ℕ) (labels : LabelColumns) → OutputRoom (length l.ids) reasons feedback labels
    → T (reasons_fit l starts stops order reasons feedback labels)
unfolding reasons_fit components_fit order_fits labels_room
assessable-fits l starts stops order asked reasons feedback labels room =
    let a = linked-edges starts stops (length l.ids) asked.linked in
    let b = ends-all (length l.ids) order asked.positions in
    let c : T (components_fit l) = grind arith in
    let d : T (order_fits order (length l.ids)) = grind arith in
    let e = room_fits (2 * length l.ids + 1) reasons room.reason_room in
    let f : T (labels_room (length l.ids) feedback labels) = rw (le-leb _ _ room.feedback_room, le-leb _ _ room.settled_room, le-leb _ _ room.lows_room, le-leb _ _ room.highs_room) tt in
    search tests depth 9
