-- What is projected over positions is lists 5, 6 and 7. Assumes nothing.
use mathlib.Core.Bool.{not, cond, ◌&&◌}
use mathlib.Core.List.{List}
use mathlib.Core.Path.{◌≡◌, sym, ap, ◌∙◌}
use Prim.Native.Nat.{ℕ, ◌<◌}
use native.Mathlib.Omega.{arith}
use lib.Dec.{eqb}
use lib.ListN.{length, get_or}
use Rattle.rules.specs.Lists.{count, indices, Distinct}
use Rattle.rules.specs.Ordered.{key_at, ordered}
use Rattle.rules.specs.Positions.{Positioned}
use Rattle.rules.specs.Graph.{Edge, in_count, out_count}
use Rattle.rules.specs.Kinds.{kind_row, component_delay}
use Rattle.rules.specs.Scene.{ComponentLists, component_at, components_of, row_of, delay_of}
use Rattle.rules.specs.Projection.{compressible_kind, compressed, marks, is_delayed_invert, projected}
use Rattle.rules.proofs.Lists.{flag-set}
use Rattle.rules.proofs.Counts.{count_map, count_same}
use Rattle.rules.proofs.Indices.{indices-below, made_at}
use Rattle.rules.proofs.Ordering.{ordered-inside}
use Rattle.laws.proofs.ByPosition.{rising-by-position, compressed-by-position}
use Rattle.projection.specs.Entries.{compressed_node, node_marks, retained_count, projected_entries}
use Rattle.projection.proofs.Promises.{scene-marks, scene-entries}
use Rattle.assess.specs.Nodes.{delays_of, inverts_of, compressible_of}

module _ (l : ComponentLists) (distinct : Distinct l.ids) (same : length l.kinds ≡ length l.ids) (es positions : List Edge) (at : Positioned l.ids es positions) where
  may-compress : (i : ℕ) → i < length l.ids → compressible_kind (row_of (component_at l i)).node ≡ not (eqb (key_at (compressible_of l.kinds) i) 0)
  unfolding compressible_of component_at row_of
  may-compress i h =
      sym (flag-set (compressible_kind (kind_row (key_at l.kinds i)).node))
      ∙ ap (λ x. not (eqb x 0)) (sym (made_at (λ j. cond (compressible_kind (kind_row (key_at l.kinds j)).node) 1 0) (length l.kinds) i 0 (omega arith)))

  inverts : (i : ℕ) → i < length l.ids → is_delayed_invert (row_of (component_at l i)).behavior ≡ not (eqb (key_at (inverts_of l.kinds) i) 0)
  unfolding inverts_of component_at row_of
  inverts i h =
      sym (flag-set (is_delayed_invert (kind_row (key_at l.kinds i)).behavior))
      ∙ ap (λ x. not (eqb x 0)) (sym (made_at (λ j. cond (is_delayed_invert (kind_row (key_at l.kinds j)).behavior) 1 0) (length l.kinds) i 0 (omega arith)))

  delays : (i : ℕ) → i < length l.ids → delay_of (component_at l i) ≡ key_at (delays_of l.kinds l.delays) i
  unfolding delays_of component_at delay_of
  delays i h = sym (made_at (λ j. component_delay (key_at l.kinds j) (key_at l.delays j)) (length l.kinds) i 0 (omega arith))

  -- list 5
  pub marks-by-ids : node_marks positions (compressible_of l.kinds) (length l.ids) ≡ marks (components_of l) es
  marks-by-ids = sym (scene-marks l distinct es positions at (compressible_of l.kinds) may-compress)

  -- lists 6 and 7
  pub entries-by-ids : projected_entries l.ids positions (delays_of l.kinds l.delays) (delays_of l.kinds l.delays) (inverts_of l.kinds) (compressible_of l.kinds) (ordered l.ids) ≡ projected (components_of l) es
  entries-by-ids =
      sym (scene-entries l distinct es positions at (compressible_of l.kinds) may-compress (delays_of l.kinds l.delays) (inverts_of l.kinds) (ordered l.ids) delays inverts (rising-by-position l)
      (ordered-inside l.ids))

  same-node : (i : ℕ) → i < length l.ids → compressed_node positions (compressible_of l.kinds) i ≡ compressed (components_of l) es (get_or l.ids i 0)
  same-node i h = ap (λ b. b && (eqb (in_count positions i) 1 && eqb (out_count positions i) 1)) (sym (may-compress i h)) ∙ sym (compressed-by-position l distinct es positions at i h)

  -- how many are retained, and how many compressed
  pub retained-by-ids : retained_count positions (compressible_of l.kinds) (length l.ids) ≡ count (λ c. not (compressed (components_of l) es c.id)) (components_of l)
  unfolding retained_count components_of component_at
  retained-by-ids =
      count_same _ _ (indices (length l.ids)) (λ i m. ap not (same-node i (indices-below (length l.ids) m)))
      ∙ sym (count_map (λ c. not (compressed (components_of l) es c.id)) (component_at l) (indices (length l.ids)))
