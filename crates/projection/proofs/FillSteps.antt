-- The projected edges and their paths are written, one by one. Assumes nothing.
use mathlib.Core.Bool.{Bool, true, false, cond}
use mathlib.Core.List.{List, [], ◌∷◌, ◌++◌, map, map-append, flat_map}
use mathlib.Core.Path.{◌≡◌, refl, sym, ap, ◌∙◌}
use Prim.Native.Nat.{ℕ, ◌+◌, ◌-◌, ◌<◌, ◌≤◌}
use native.Mathlib.Nat.{zero-add}
use native.Mathlib.Numerals.{add-one}
use native.Mathlib.Omega.{arith}
use lib.ListN.{length, get_or, set, take, drop, length-append, length-map, take-append-drop}
use lib.Seq.{take-suc, length-take-le}
use mir.Val.{bool_byte}
use Rattle.rules.specs.Lists.{written}
use Rattle.rules.specs.Positions.{id_at}
use Rattle.rules.specs.Projection.{ProjectedEdge, projected_by, starts_from, path_starts, path_length, path_ids}
use Rattle.rules.proofs.Indices.{at_mem}
use Rattle.rules.proofs.Lists.{flat_append, flat-more}
use Rattle.rules.proofs.Written.{written_none, written-more, from-twice, from-length}
use Rattle.laws.proofs.PathParts.{starts-length}
use Rattle.projection.specs.declared.walk.Walked.{Walked}
use Rattle.projection.specs.Projecting.{ProjectedLists, projected_lists}
use Rattle.projection.specs.Walking.{Net, edge_at, entry_of, entries_from, FirstEdge, Walking, Fillable, Filled}

-- Paths, one more

pub paths-append : (ps qs : List ProjectedEdge) → path_ids (ps ++ qs) ≡ path_ids ps ++ path_ids qs
unfolding path_ids
paths-append ps qs = flat_append (λ p. p.path) ps qs

paths-more : (ps : List ProjectedEdge) (p : ProjectedEdge) → path_ids (ps ++ (p ∷ [])) ≡ path_ids ps ++ p.path
unfolding path_ids
paths-more ps p = flat-more (λ p. p.path) ps p

starts_more : (at : ℕ) (ps : List ProjectedEdge) (p : ProjectedEdge) → starts_from at (ps ++ (p ∷ [])) ≡ starts_from at ps ++ ((at + length (path_ids ps)) ∷ [])
unfolding starts_from path_ids flat_map
starts_more at [] p = ap (λ k. k ∷ []) (let e : at ≡ at + 0 = omega arith in e)
starts_more at (q ∷ ps) p = ap (λ l. at ∷ l) (starts_more (at + length q.path) ps p ∙ ap (λ k. starts_from (at + length q.path) ps ++ (k ∷ [])) same)
  where
    same : (at + length q.path) + length (path_ids ps) ≡ at + length (q.path ++ path_ids ps)
    same = omega (arith, length-append q.path (path_ids ps))

-- A column, one entry more

module _ (old row new : List ℕ) (k : ℕ) (size : length row ≡ k) (w : new ≡ written old row) where
  column-length : k ≤ length old → length new ≡ length old
  column-length h = ap length w ∙ from-length old row 0 (omega arith)

  column-more : (x : ℕ) → k < length old → set new k x ≡ written old (row ++ (x ∷ []))
  column-more x h = rw (w, ← size) (sym (written-more old row x (omega arith)))

byte : (b : Bool) → ◌≡◌ {A = ℕ} (bool_byte b) (cond b 1 0)
byte true = refl
byte false = refl

-- the columns keep their lengths
pub record Sizes (old new : ProjectedLists) : Type 0 where
  pub sources : length new.sources ≡ length old.sources
  pub sinks : length new.sinks ≡ length old.sinks
  pub inverted : length new.inverted ≡ length old.inverted
  pub minimums : length new.minimums ≡ length old.minimums
  pub maximums : length new.maximums ≡ length old.maximums
  pub starts : length new.starts ≡ length old.starts
  pub lengths : length new.lengths ≡ length old.lengths
  pub ids : length new.ids ≡ length old.ids

module _ {N : Net} {fs : List ℕ} {old : ProjectedLists} (R : Fillable N fs old) where
  abbrev entry : ℕ → ProjectedEdge
  entry e = entry_of N (edge_at N e)

  pub filled_none : Filled N (take 0 fs) old old 0
  unfolding starts_from path_ids flat_map
  filled_none = record {
    written = record {
      sources = sym (written_none old.sources);
      sinks = sym (written_none old.sinks);
      inverted = sym (written_none old.inverted);
      minimums = sym (written_none old.minimums);
      maximums = sym (written_none old.maximums);
      starts = sym (written_none old.starts);
      lengths = sym (written_none old.lengths);
      ids = sym (written_none old.ids);
    };
    place = refl;
  }

  -- the first k edges
  module _ {k : ℕ} (h : k ≤ length fs) {new : ProjectedLists} {end : ℕ} (F : Filled N (take k fs) old new end) where
    abbrev ps : List ProjectedEdge
    ps = entries_from N (take k fs)

    count-is : length ps ≡ k
    count-is = length-map (take k fs) entry ∙ length-take-le k fs h

    field-count : (field : ProjectedEdge → ℕ) → length (map field ps) ≡ k
    field-count field = length-map ps field ∙ count-is

    start-count : length (path_starts ps) ≡ k
    start-count = starts-length 0 ps ∙ count-is

    paths-split : length (path_ids (entries_from N fs)) ≡ length (path_ids ps) + length (path_ids (entries_from N (drop k fs)))
    paths-split =
        ap length (ap (λ l. path_ids (entries_from N l)) (sym (take-append-drop k fs)) ∙ ap path_ids (map-append entry (take k fs) (drop k fs)) ∙ paths-append ps (entries_from N (drop k fs)))
        ∙ length-append (path_ids ps) (path_ids (entries_from N (drop k fs)))

    pub sizes : Sizes old new
    sizes = record {
      sources = column-length old.sources _ new.sources k (field-count (λ p. p.source)) F.written.sources (omega (arith, R.sources));
      sinks = column-length old.sinks _ new.sinks k (field-count (λ p. p.sink)) F.written.sinks (omega (arith, R.sinks));
      inverted = column-length old.inverted _ new.inverted k (field-count (λ p. p.inverted)) F.written.inverted (omega (arith, R.inverted));
      minimums = column-length old.minimums _ new.minimums k (field-count (λ p. p.minimum)) F.written.minimums (omega (arith, R.minimums));
      maximums = column-length old.maximums _ new.maximums k (field-count (λ p. p.maximum)) F.written.maximums (omega (arith, R.maximums));
      starts = column-length old.starts _ new.starts k start-count F.written.starts (omega (arith, R.starts));
      lengths = column-length old.lengths _ new.lengths k (field-count path_length) F.written.lengths (omega (arith, R.lengths));
      ids = ap length F.written.ids ∙ from-length old.ids (path_ids ps) 0 (omega (arith, R.ids, paths-split));
    }

    -- one more
    module _ (i : k < length fs) where
      abbrev first : ℕ
      first = get_or fs k 0

      pub first_edge : FirstEdge N (get_or fs k 0)
      first_edge = R.each first (at_mem 0 fs k i)

      one_more : entries_from N (take (k + 1) fs) ≡ ps ++ (entry first ∷ [])
      one_more = rw (add-one k, take-suc fs k 0 i) (map-append entry (take k fs) (first ∷ []))

      field-more : (field : ProjectedEdge → ℕ) → map field (entries_from N (take (k + 1) fs)) ≡ map field ps ++ (field (entry first) ∷ [])
      field-more field = ap (map field) one_more ∙ map-append field ps (entry first ∷ [])

      path-more : path_ids (entries_from N (take (k + 1) fs)) ≡ path_ids ps ++ (entry first).path
      path-more = ap path_ids one_more ∙ paths-more ps (entry first)

      start-more : path_starts (entries_from N (take (k + 1) fs)) ≡ path_starts ps ++ (end ∷ [])
      start-more = ap path_starts one_more ∙ starts_more 0 ps (entry first) ∙ ap (λ j. path_starts ps ++ (j ∷ [])) (zero-add (length (path_ids ps)) ∙ sym F.place)

      pub next_room : end + path_length (entry_of N (edge_at N (get_or fs k 0))) ≤ length new.ids
      next_room = omega (arith, sizes, R.ids, F.place, ap length path-more, length-append (path_ids ps) (entry first).path, split)
        where
          split : length (path_ids (entries_from N fs)) ≡ length (path_ids (entries_from N (take (k + 1) fs))) + length (path_ids (entries_from N (drop (k + 1) fs)))
          split =
              ap length (ap (λ l. path_ids (entries_from N l)) (sym (take-append-drop (k + 1) fs)) ∙ ap path_ids (map-append entry (take (k + 1) fs) (drop (k + 1) fs)) ∙ paths-append (entries_from N (take (k + 1) fs)) (entries_from N (drop (k + 1) fs)))
              ∙ length-append (path_ids (entries_from N (take (k + 1) fs))) (path_ids (entries_from N (drop (k + 1) fs)))

      column : (field : ProjectedEdge → ℕ) (was now : List ℕ) (x : ℕ) → now ≡ written was (map field ps) → length fs ≤ length was → x ≡ field (entry first) → set now k x ≡ written was (map field (entries_from N (take (k + 1) fs)))
      column field was now x w room e = rw (field-more field, ← e) (column-more was (map field ps) now k (field-count field) w x (omega arith))

      pub filled_more : {ids' : List ℕ} {walked : Walked} → Walking N (get_or fs k 0) end new.ids ids' walked
          → Filled N (take (k + 1) fs) old
          (projected_lists (set new.sources k (id_at N.ids (get_or N.sources (get_or fs k 0) 0))) (set new.sinks k (id_at N.ids walked.sink)) (set new.inverted k (bool_byte walked.inverted))
          (set new.minimums k walked.delay.minimum_redstone_ticks) (set new.maximums k walked.delay.maximum_redstone_ticks) (set new.starts k end) (set new.lengths k (walked.end - end)) ids') walked.end
      unfolding entry_of projected_by
      filled_more {ids'} {walked} w = record {
        written = record {
          sources = column (λ p. p.source) old.sources new.sources _ F.written.sources R.sources refl;
          sinks = column (λ p. p.sink) old.sinks new.sinks _ F.written.sinks R.sinks w.last;
          inverted = column (λ p. p.inverted) old.inverted new.inverted _ F.written.inverted R.inverted (byte walked.inverted ∙ w.flipped);
          minimums = column (λ p. p.minimum) old.minimums new.minimums _ F.written.minimums R.minimums w.least;
          maximums = column (λ p. p.maximum) old.maximums new.maximums _ F.written.maximums R.maximums w.greatest;
          starts = rw start-more (column-more old.starts (path_starts ps) new.starts k start-count F.written.starts end (omega (arith, R.starts)));
          lengths = column path_length old.lengths new.lengths _ F.written.lengths R.lengths (omega (arith, w.place));
          ids = w.names ∙ rw (F.written.ids, F.place, path-more) (rw zero-add at (from-twice old.ids (path_ids ps) (entry first).path 0 (omega arith)));
        };
        place = w.place ∙ rw path-more (omega (arith, F.place, length-append (path_ids ps) (entry first).path));
      }
