-- What is said of a scene by ids, said by positions: labels, unequal delays, marks and projected edges. Assumes nothing.
use mathlib.Core.Bool.{Bool, not, cond, ◌&&◌}
use mathlib.Core.List.Memᴰ
use mathlib.Core.List.{List, ◌∷◌, map, map-map, flat_map, Memᴰ}
use mathlib.Core.Path.{◌≡◌, sym, ap, ◌∙◌}
use Prim.Native.Nat.{ℕ, ◌<◌}
use lib.Dec.{eqb}
use lib.ListN.{length, get_or}
use Rattle.rules.specs.Lists.{keep, indices, rising, Distinct}
use Rattle.rules.specs.Ordered.{ordered}
use Rattle.rules.specs.Graph.{Edge, source_of, sink_of, starts_at, in_count, out_count}
use Rattle.rules.specs.Scene.{ComponentLists, component_at, components_of, row_of, delay_of, row_at, delay_at, rising_ids}
use Rattle.rules.specs.Paths.{smallest_sum, largest_sum}
use Rattle.rules.specs.Labels.{label, labels}
use Rattle.rules.specs.Reasons.{unequal_reconvergent_delay, unequal_at, unequal_reason, unequal_reasons_by, unequal_reasons}
use Rattle.rules.specs.Projection.{compressible_kind, compressed, marks, chain, is_delayed_invert, inverts_at, projected_by, projected}
use Rattle.rules.proofs.Lists.{keep_out, keep_same, keep-map, map_same}
use Rattle.rules.proofs.Indices.{indices-below, below-indices, by_index, distinct-at}
use Rattle.rules.proofs.Columns.{component-ids}
use Rattle.rules.proofs.Ordering.{ordered-rising}
use Rattle.rules.proofs.Scenes.{DistinctIds, row-at, delay-at}
use Rattle.rules.proofs.Acceptance.{distinct→ids}
use Rattle.laws.proofs.Renaming.{label-named, unequal-at-named, unequal-reason-named, compressed-named}
use Rattle.laws.proofs.RenamedProjection.{projected-named}
use Rattle.rules.specs.Positions.{named_entry, id_at, Positioned}

-- the component at a position is a Wire, Conductor or Delay, and one edge over positions leads there and one from there
abbrev pub compressed_at : ComponentLists → List Edge → ℕ → Bool
compressed_at l positions i = compressible_kind (row_of (component_at l i)).node && (eqb (in_count positions i) 1 && eqb (out_count positions i) 1)

-- the ids by rising id are those of the ordered positions
pub rising-by-position : (l : ComponentLists) → rising_ids (components_of l) ≡ map (id_at l.ids) (ordered l.ids)
unfolding rising_ids
rising-by-position l = ap rising (component-ids l) ∙ sym (ordered-rising l.ids)

module _ (l : ComponentLists) (distinct : Distinct l.ids) where
  apart : (i j : ℕ) → i < length l.ids → j < length l.ids → get_or l.ids i 0 ≡ get_or l.ids j 0 → i ≡ j
  apart = distinct-at 0 l.ids distinct

  ids-once : DistinctIds (components_of l)
  ids-once = distinct→ids (components_of l) (rw component-ids distinct)

  -- what is said by the id at a position is said of the component there
  module _ (i : ℕ) (h : i < length l.ids) where
    listed : Memᴰ (component_at l i) (components_of l)
    unfolding components_of
    listed = Memᴰ.map (component_at l) (below-indices (length l.ids) h)

    pub row-by-position : row_at (components_of l) (get_or l.ids i 0) ≡ row_of (component_at l i)
    unfolding component_at
    row-by-position = row-at (components_of l) ids-once (component_at l i) listed

    pub delay-by-position : delay_at (components_of l) (get_or l.ids i 0) ≡ delay_of (component_at l i)
    unfolding component_at
    delay-by-position = delay-at (components_of l) ids-once (component_at l i) listed

  -- with delays by position
  module _ (es positions : List Edge) (at : Positioned l.ids es positions) (d : ℕ → ℕ) (delays : (i : ℕ) → i < length l.ids → delay_of (component_at l i) ≡ d i) where
    same-delays : (i : ℕ) → i < length l.ids → delay_at (components_of l) (get_or l.ids i 0) ≡ d i
    same-delays i h = delay-by-position i h ∙ delays i h

    abbrev delay : ℕ → ℕ
    delay = delay_at (components_of l)

    label_at : (i : ℕ) → i < length l.ids → label es delay delay (get_or l.ids i 0) ≡ label positions d d i
    label_at i h = rw (← at.names) (label-named (id_at l.ids) (length l.ids) apart positions at.inside delay d delay d same-delays same-delays i h)

    -- list 8
    pub labels-by-position : labels (components_of l) es ≡ map (label positions d d) (indices (length l.ids))
    unfolding labels
    labels-by-position =
        ap (map (label es delay delay)) (component-ids l ∙ by_index l.ids 0)
        ∙ map-map (label es delay delay) (id_at l.ids) (indices (length l.ids))
        ∙ map_same _ _ (indices (length l.ids)) (λ i m. label_at i (indices-below (length l.ids) m))

    unequal-test : (i : ℕ) → i < length l.ids → unequal_at es delay delay (get_or l.ids i 0) ≡ unequal_at positions d d i
    unequal-test i h = rw (← at.names) (unequal-at-named (id_at l.ids) (length l.ids) apart positions at.inside delay d delay d same-delays same-delays i h)

    reason-at : (i : ℕ) → i < length l.ids → unequal_reason es delay delay (get_or l.ids i 0) ≡ unequal_reconvergent_delay (get_or l.ids i 0) (smallest_sum positions d i) (largest_sum positions d i)
    reason-at i h = rw (← at.names) (unequal-reason-named (id_at l.ids) (length l.ids) apart positions at.inside delay d delay d same-delays same-delays i h)

    -- the unequal-delay reasons of list 3, where `ranked` has the positions by rising id
    pub unequal-by-position : (ranked : List ℕ) → rising_ids (components_of l) ≡ map (id_at l.ids) ranked → ((i : ℕ) → Memᴰ i ranked → i < length l.ids)
        → unequal_reasons (components_of l) es ≡ map (λ i. unequal_reconvergent_delay (get_or l.ids i 0) (smallest_sum positions d i) (largest_sum positions d i)) (keep (unequal_at positions d d) ranked)
    unfolding unequal_reasons unequal_reasons_by
    unequal-by-position ranked e below =
        ap (λ vs. map (unequal_reason es delay delay) (keep (unequal_at es delay delay) vs)) e
        ∙ ap (map (unequal_reason es delay delay)) (keep-map (unequal_at es delay delay) (id_at l.ids) ranked ∙ ap (map (id_at l.ids)) (keep_same _ (unequal_at positions d d) ranked (λ i m. unequal-test i (below i m))))
        ∙ map-map (unequal_reason es delay delay) (id_at l.ids) (keep (unequal_at positions d d) ranked)
        ∙ map_same _ _ (keep (unequal_at positions d d) ranked) (λ i m. reason-at i (below i (keep_out (unequal_at positions d d) ranked m).0))

  -- compressed components, by the counts of their positions
  module _ (es positions : List Edge) (at : Positioned l.ids es positions) where
    pub compressed-by-position : (i : ℕ) → i < length l.ids → compressed (components_of l) es (get_or l.ids i 0) ≡ compressed_at l positions i
    compressed-by-position i h =
        rw (← at.names) (compressed-named (id_at l.ids) (length l.ids) apart positions at.inside (components_of l) i h)
        ∙ ap (λ r. compressible_kind r.node && (eqb (in_count positions i) 1 && eqb (out_count positions i) 1)) (row-by-position i h)

    -- list 5
    pub marks-by-position : marks (components_of l) es ≡ map (λ i. cond (compressed_at l positions i) 0 1) (indices (length l.ids))
    unfolding marks components_of component_at
    marks-by-position =
        map-map (λ c. cond (compressed (components_of l) es c.id) 0 1) (component_at l) (indices (length l.ids))
        ∙ map_same _ _ (indices (length l.ids)) (λ i m. ap (λ b. cond b 0 1) (compressed-by-position i (indices-below (length l.ids) m)))

    -- the projected edges, where `ranked` has the positions by rising id
    pub projected-by-position : (d : ℕ → ℕ) (inverts through : ℕ → Bool) (ranked : List ℕ) → ((i : ℕ) → i < length l.ids → delay_of (component_at l i) ≡ d i)
        → ((i : ℕ) → i < length l.ids → is_delayed_invert (row_of (component_at l i)).behavior ≡ inverts i)
        → ((i : ℕ) → i < length l.ids → compressed_at l positions i ≡ through i)
        → rising_ids (components_of l) ≡ map (id_at l.ids) ranked → ((i : ℕ) → Memᴰ i ranked → i < length l.ids)
        → projected (components_of l) es
        ≡ map (named_entry (id_at l.ids)) (map (λ e. projected_by d d inverts e (source_of e ∷ chain (length positions) positions through (sink_of e))) (flat_map (λ v. keep (starts_at v) positions) (keep (λ v. not (through v)) ranked)))
    unfolding inverts_at
    projected-by-position d inverts through ranked delays inverted passes rises below =
        rw (← at.names) (projected-named (id_at l.ids) (length l.ids) apart positions at.inside (components_of l) d inverts through ranked
        (λ i h. delay-by-position i h ∙ delays i h)
        (λ i h. ap (λ r. is_delayed_invert r.behavior) (row-by-position i h) ∙ inverted i h)
        (λ i h. rw at.names (compressed-by-position i h ∙ passes i h)) rises below)
