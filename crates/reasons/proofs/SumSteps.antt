-- Delays, path sums and labels, step by step. Assumes nothing.
use mathlib.Core.Bool.{Bool, true, cond}
use mathlib.Core.List.{List, [], ◌∷◌, ◌++◌, map, map-map, map-append}
use mathlib.Core.Path.{◌≡◌, refl, sym, ap, ap₂, subst, fun_ext, ◌∙◌}
use mathlib.Core.Logic.{⊎_elim}
use Prim.Native.Nat.{ℕ, ◌+◌, ◌<◌, ◌≤◌}
use native.Mathlib.Omega.{arith}
use native.Mathlib.Nat.{add-zero}
use borrow.Author.Tests.{ne_eqb}
use lib.Dec.{eqb}
use Rattle.std.specs.Prelude.{Option, Some, None, is_some}
use Rattle.std.proofs.lemmas.List.{set-get_or}
use lib.ListN.{length, get_or, drop, take, set, length-map, get_or-eq_default}
use lib.Seq.{drop_at, get_or-drop, get_or-append-add}
use Rattle.rules.specs.Lists.{from, indices, keep, written}
use Rattle.rules.specs.Kinds.{kind_row, delay_by, component_delay}
use Rattle.rules.specs.Ordered.{key_at}
use Rattle.rules.specs.Graph.{Edge, edges_between, settled}
use Rattle.rules.specs.Paths.{smallest_sum, largest_sum}
use Rattle.rules.specs.Labels.{Label, label, settled_flag, low_sum, high_sum}
use Rattle.rules.specs.Reasons.{unequal_at}
use Rattle.rules.specs.Refusals.{scene_limits}
use Rattle.rules.proofs.Lists.{map_same}
use Rattle.rules.proofs.Sums.{order}
use Rattle.rules.proofs.Indices.{made-length, made_at, indices-below, indices-more}
use Rattle.rules.proofs.Written.{written-front, written-parts, written_at, written_none, written-more}
use Rattle.laws.proofs.PositionEdges.{inside-sources, inside-sinks}
use Rattle.graph.specs.Groups.{Between}
use Rattle.reconvergence.specs.Fits.{reconvergence_fits, settled_marks, ReconvergentDelays}
use Rattle.reconvergence.proofs.Fitting.{→fits}
use Rattle.reasons.specs.Over.{position_delay}
use Rattle.reasons.specs.Sums.{LabelColumns, label_columns, Summable, PathsSummed, cleared_sum, Cleared}

-- The column of delays

module _ (kinds words : List ℕ) where
  abbrev pub column : List ℕ
  column = map (position_delay kinds words) (indices (length kinds))

  -- past the components every delay is 0
  no-delay : (i : ℕ) → length kinds ≤ i → 0 ≡ position_delay kinds words i
  unfolding position_delay component_delay kind_row delay_by
  no-delay i h = rw (get_or-eq_default kinds 0 h)

  pub delays-all : (i : ℕ) → key_at column i ≡ position_delay kinds words i
  delays-all i =
      ⊎_elim (λ h. get_or-eq_default column 0 (omega (arith, made-length (position_delay kinds words) (length kinds))) ∙ no-delay i h)
      (λ h. made_at (position_delay kinds words) (length kinds) i 0 h) (order (length kinds) i)

  pub delay-next : (i : ℕ) → i < length kinds → get_or column i 0 ≡ component_delay (get_or kinds i 0) (get_or words i 0)
  unfolding position_delay
  delay-next i h = made_at (position_delay kinds words) (length kinds) i 0 h

  pub by-delays : {es : List Edge} {delays order unequal : List ℕ} {labels labels' : LabelColumns} → delays ≡ column
      → PathsSummed es (key_at delays) (length delays) order labels labels' unequal → PathsSummed es (position_delay kinds words) (length kinds) order labels labels' unequal
  by-delays {es} {delays} {order} {unequal} {labels} {labels'} e p =
      subst (λ n. PathsSummed es (position_delay kinds words) n order labels labels' unequal) (ap length e ∙ made-length (position_delay kinds words) (length kinds))
      (subst (λ d. PathsSummed es d (length delays) order labels labels' unequal) (ap key_at e ∙ fun_ext delays-all) p)

-- The call for the path sums

module _ (n : ℕ) (starts stops order : List ℕ) (labels : LabelColumns) (unequal : List ℕ) (asked : Summable n starts stops order labels unequal) where
  -- lists to work in are as long as the limits of a scene
  abbrev fits : Bool
  fits =
      reconvergence_fits starts stops order n n (length labels.settled) (length labels.lows) (length labels.highs) (length unequal)
      scene_limits.components scene_limits.connections scene_limits.components scene_limits.components scene_limits.components

  sums-fit : fits ≡ true
  sums-fit =
      let l = asked.linked in
      let edges : Between starts stops n = record { pairs = l.pairs; low = inside-sources n starts stops (sym l.pairs) l.inside; high = inside-sinks n starts stops (sym l.pairs) l.inside } in
      →fits record {
        given = record { edges = edges; delays = refl; positions = asked.positions };
        answers = record { marks = asked.settled_room; smallests = asked.smallest_room; largests = asked.largest_room; room = asked.places };
        work = record { heads = l.nodes_few; links = l.edges_few; incomings = l.nodes_few; lefts = l.nodes_few; places = l.nodes_few };
      }

module _ (delays starts stops order : List ℕ) (labels : LabelColumns) (unequal : List ℕ) (asked : Summable (length delays) starts stops order labels unequal) where
  -- the call with such lists to work in, and what it answers
  module _ {head next incoming left queue unequal' head' next' incoming' left' queue' : List ℕ} {labels' : LabelColumns} {r : Option ℕ}
      (h : length head ≡ scene_limits.components) (i : length next ≡ scene_limits.connections) (j : length incoming ≡ scene_limits.components) (k : length left ≡ scene_limits.components) (l : length queue ≡ scene_limits.components)
      (p : ReconvergentDelays starts stops delays delays order labels.settled labels.lows labels.highs unequal head next incoming left queue labels'.settled labels'.lows labels'.highs unequal' head' next' incoming' left' queue' r) where
    pub sums-some : is_some r ≡ true
    sums-some = rw (h, i, j, k, l) at p.answer ∙ sums-fit (length delays) starts stops order labels unequal asked

    module _ {n : ℕ} (e : r ≡ Some n) where
      pub sums-given : PathsSummed (edges_between starts stops) (key_at delays) (length delays) order labels labels' (take n unequal')
      unfolding settled_marks
      sums-given =
          let q = rw e at p in
          record {
            settled_marked = q.settles;
            smallest_found = q.smallests;
            largest_found = q.largests;
            unequal_found = ap (take n) q.lists ∙ written-front unequal (keep (unequal_at (edges_between starts stops) (key_at delays) (key_at delays)) order) n (sym q.counts);
          }

      pub sums-counted : n ≡ length (take n unequal')
      sums-counted = let q = rw e at p in q.counts ∙ sym (ap length sums-given.unequal_found)

      sums-listed : unequal' ≡ written unequal (keep (unequal_at (edges_between starts stops) (key_at delays) (key_at delays)) order)
      sums-listed = let q = rw e at p in q.lists

    -- such lists fit: the sums are found, and what the list of unequal delays holds is known to its end
    pub sums-found : (n : ℕ) × (r ≡ Some n) × PathsSummed (edges_between starts stops) (key_at delays) (length delays) order labels labels' (take n unequal') × (n ≡ length (take n unequal'))
        × (unequal' ≡ written unequal (keep (unequal_at (edges_between starts stops) (key_at delays) (key_at delays)) order))
    sums-found = found r refl sums-some
      where
        found : (s : Option ℕ) → r ≡ s → is_some s ≡ true
            → (n : ℕ) × (r ≡ Some n) × PathsSummed (edges_between starts stops) (key_at delays) (length delays) order labels labels' (take n unequal') × (n ≡ length (take n unequal'))
            × (unequal' ≡ written unequal (keep (unequal_at (edges_between starts stops) (key_at delays) (key_at delays)) order))
        found None e h = cc
        found (Some n) e h = (n, e, sums-given e, sums-counted e, sums-listed e)

-- Sums set to 0 one by one where a component is not settled

-- the entry past those written is the old one
past-written : (old new : List ℕ) (k : ℕ) → length new ≡ k → get_or (written old new) k 0 ≡ get_or old k 0
past-written old new k e =
    ap (λ l. get_or l k 0) (written-parts old new)
    ∙ ap (λ m. get_or (new ++ drop (length new) old) m 0) (sym e ∙ sym (add-zero (length new)))
    ∙ get_or-append-add new (drop (length new) old) 0 0
    ∙ get_or-drop (length new) old 0 0
    ∙ ap (λ m. get_or old m 0) (add-zero (length new) ∙ e)

-- one entry more
module _ (f : ℕ → ℕ) (old : List ℕ) where
  made_more : (i : ℕ) (now : List ℕ) (x : ℕ) → i < length old → now ≡ written old (map f (indices i)) → x ≡ f i → set now i x ≡ written old (map f (indices (i + 1)))
  made_more i now x h e q =
      ap₂ (λ l m. set l m x) e (sym (made-length f i))
      ∙ ap (set (written old (map f (indices i))) (length (map f (indices i)))) q
      ∙ sym (written-more old (map f (indices i)) (f i) (omega (arith, made-length f i)))
      ∙ ap (written old) (sym (ap (map f) (indices-more i) ∙ map-append f (indices i) (i ∷ [])))

module _ (settles old : List ℕ) (i : ℕ) (now : List ℕ) (h : i < length old) (e : now ≡ written old (map (cleared_sum settles old) (indices i))) where
  still : get_or now i 0 ≡ get_or old i 0
  still = ap (λ l. get_or l i 0) e ∙ past-written old (map (cleared_sum settles old) (indices i)) i (made-length (cleared_sum settles old) i)

  clear-more : get_or settles i 0 ≡ 0 → set now i 0 ≡ written old (map (cleared_sum settles old) (indices (i + 1)))
  clear-more z = made_more (cleared_sum settles old) old i now 0 h e (rw z)

  keep-more : (get_or settles i 0 ≡ 0 → ⊥) → now ≡ written old (map (cleared_sum settles old) (indices (i + 1)))
  keep-more z = sym (set-get_or now i 0) ∙ made_more (cleared_sum settles old) old i now (get_or now i 0) h e (rw (ne_eqb _ _ z) still)

-- all sums of the first components
module _ (labels : LabelColumns) where
  pub cleared-none : Cleared 0 labels labels
  unfolding indices from
  cleared-none = record { flags_kept = refl; lows_cleared = sym (written_none labels.lows); highs_cleared = sym (written_none labels.highs) }

  module _ (v : ℕ) (now : LabelColumns) (low : v < length labels.lows) (high : v < length labels.highs) (was : Cleared v labels now) where
    pub cleared-more : get_or now.settled v 0 ≡ 0 → Cleared (v + 1) labels (label_columns now.settled (set now.lows v 0) (set now.highs v 0))
    cleared-more z =
        let y = rw was.flags_kept at z in
        record {
          flags_kept = was.flags_kept;
          lows_cleared = clear-more labels.settled labels.lows v now.lows low was.lows_cleared y;
          highs_cleared = clear-more labels.settled labels.highs v now.highs high was.highs_cleared y;
        }

    pub cleared-same : (get_or now.settled v 0 ≡ 0 → ⊥) → Cleared (v + 1) labels now
    cleared-same z =
        let y = rw was.flags_kept at z in
        record {
          flags_kept = was.flags_kept;
          lows_cleared = keep-more labels.settled labels.lows v now.lows low was.lows_cleared y;
          highs_cleared = keep-more labels.settled labels.highs v now.highs high was.highs_cleared y;
        }

-- Labels

-- what is written over earlier entries stands alone
written_over : (old new over : List ℕ) → length over ≡ length new → written (written old new) over ≡ written old over
written_over old new over e =
    written-parts (written old new) over
    ∙ ap₂ (λ m l. over ++ drop m l) e (written-parts old new)
    ∙ ap (λ l. over ++ l) (drop_at new (drop (length new) old) (length new) refl)
    ∙ ap (λ m. over ++ drop m old) (sym e)
    ∙ sym (written-parts old over)

module _ (es : List Edge) (d : ℕ → ℕ) (n : ℕ) (settles : List ℕ) where
  abbrev mark : ℕ → ℕ
  mark v = cond (settled es v) 1 0

  flag-of : (v : ℕ) → mark v ≡ settled_flag (label es d d v)
  unfolding label
  flag-of v = grind arith

  -- the marks are the labels' flags
  pub flags-written : (old : List ℕ) → settles ≡ written old (map mark (indices n)) → settles ≡ written old (map settled_flag (map (label es d d) (indices n)))
  flags-written old e = e ∙ ap (written old) (map_same mark _ (indices n) (λ v m. flag-of v) ∙ sym (map-map settled_flag (label es d d) (indices n)))

  -- a sum is the label's, or 0 where there is none
  clear-mark : (b : Bool) (x : ℕ) → cond (eqb (cond b 1 0) 0) 0 x ≡ cond b x 0
  clear-mark b x = grind arith

  module _ (sum : ℕ → ℕ) (field : Label → ℕ) (shown : (v : ℕ) → field (label es d d v) ≡ cond (settled es v) (sum v) 0) where
    pub sums-written : (marks old raw sums : List ℕ) → settles ≡ written marks (map mark (indices n)) → raw ≡ written old (map sum (indices n)) → sums ≡ written raw (map (cleared_sum settles raw) (indices n))
        → sums ≡ written old (map field (map (label es d d) (indices n)))
    sums-written marks old raw sums e p q =
        q
        ∙ ap (written raw) (map_same (cleared_sum settles raw) (λ v. field (label es d d v)) (indices n) (λ v m. one v (indices-below n m)) ∙ sym (map-map field (label es d d) (indices n)))
        ∙ ap (λ l. written l (map field (map (label es d d) (indices n)))) p
        ∙ written_over old (map sum (indices n)) (map field (map (label es d d) (indices n))) (length-map (map (label es d d) (indices n)) field ∙ made-length (label es d d) n ∙ sym (made-length sum n))
      where
        entry : (f : ℕ → ℕ) (base l : List ℕ) → l ≡ written base (map f (indices n)) → (v : ℕ) → v < n → key_at l v ≡ f v
        entry f base l h v k = ap (λ l. get_or l v 0) h ∙ written_at base (map f (indices n)) v 0 (omega (arith, made-length f n)) ∙ made_at f n v 0 k

        one : (v : ℕ) → v < n → cleared_sum settles raw v ≡ field (label es d d v)
        one v k = ap₂ (λ x y. cond (eqb x 0) 0 y) (entry mark marks settles e v k) (entry sum old raw p v k) ∙ clear-mark (settled es v) (sum v) ∙ sym (shown v)

pub low-shown : (es : List Edge) (d : ℕ → ℕ) (v : ℕ) → low_sum (label es d d v) ≡ cond (settled es v) (smallest_sum es d v) 0
unfolding label
low-shown es d v = grind arith

pub high-shown : (es : List Edge) (d : ℕ → ℕ) (v : ℕ) → high_sum (label es d d v) ≡ cond (settled es v) (largest_sum es d v) 0
unfolding label
high-shown es d v = grind arith
