-- Which lists can be assessed: the tests of their shapes. Assumes nothing: these are definitions.
use Rattle.std.specs.Prelude.{Bool, ◌&&◌, List, ℕ, ◌+◌, ◌*◌, eqb, leb, length}
use Rattle.rules.specs.Refusals.{scene_limits}
use Rattle.rules.specs.Scene.{ComponentLists}
use Rattle.graph.specs.Fits.{ends_below}
use Rattle.reasons.specs.Rows.{Columns}
use Rattle.reasons.specs.Sums.{LabelColumns}

-- as many stops as starts, no more than a scene may have, each of them one of n positions
unfoldable pub edges_fit : (starts stops : List ℕ) (n : ℕ) → Bool
edges_fit starts stops n = eqb (length stops) (length starts) && leb (length starts) scene_limits.connections && ends_below n starts && ends_below n stops

-- for list 4; kinds and list 4 are given by their lengths
unfoldable pub feedback_fits : (starts stops : List ℕ) (n kinds feedback : ℕ) → Bool
feedback_fits starts stops n kinds feedback = eqb kinds n && leb n scene_limits.components && leb n feedback && edges_fit starts stops n

-- as many kinds, delays and locked flags as ids, and no more than a scene may have
unfoldable pub components_fit : ComponentLists → Bool
components_fit l = eqb (length l.kinds) (length l.ids) && eqb (length l.delays) (length l.ids) && eqb (length l.locked) (length l.ids) && leb (length l.ids) scene_limits.components

-- no more positions in order than there are, each of them one of n
unfoldable pub order_fits : List ℕ → ℕ → Bool
order_fits order n = leb (length order) n && ends_below n order

-- room for list 3 in each of its columns
unfoldable pub reasons_room : (need : ℕ) → Columns → Bool
reasons_room need reasons = leb need (length reasons.kinds) && leb need (length reasons.components) && leb need (length reasons.blocks) && leb need (length reasons.minimums) && leb need (length reasons.maximums)

-- room for n entries of list 4, and in each column of list 8
unfoldable pub labels_room : (n : ℕ) → (feedback : List ℕ) → LabelColumns → Bool
labels_room n feedback labels = leb n (length feedback) && leb n (length labels.settled) && leb n (length labels.lows) && leb n (length labels.highs)

-- all of it
unfoldable pub reasons_fit : ComponentLists → (starts stops order : List ℕ) → Columns → (feedback : List ℕ) → LabelColumns → Bool
reasons_fit l starts stops order reasons feedback labels =
    components_fit l
    && edges_fit starts stops (length l.ids)
    && order_fits order (length l.ids)
    && reasons_room (2 * length l.ids + 1) reasons
    && labels_room (length l.ids) feedback labels
