-- What the contract gives a caller: a call whose lists fit writes the marks and the projected edges, and those of a scene's positions are the
-- scene's. Assumes nothing.
use mathlib.Core.Bool.{true, false, not, cond, ◌&&◌}
use mathlib.Core.List.{List, map, Memᴰ}
use mathlib.Core.Path.{◌≡◌, refl, ap, ◌∙◌}
use Prim.Native.Nat.{ℕ, ◌<◌}
use lib.Dec.{eqb}
use lib.ListN.{length}
use Rattle.std.specs.Prelude.{Option, Some, None, is_some, IfSome}
use Rattle.rules.specs.Lists.{indices, Distinct}
use Rattle.rules.specs.Ordered.{key_at}
use Rattle.rules.specs.Positions.{id_at, Positioned}
use Rattle.rules.specs.Graph.{Edge, in_count, out_count}
use Rattle.rules.specs.Scene.{ComponentLists, component_at, components_of, row_of, delay_of, rising_ids}
use Rattle.rules.specs.Projection.{compressible_kind, is_delayed_invert, marks, projected}
use Rattle.rules.proofs.Lists.{map_same}
use Rattle.rules.proofs.Indices.{indices-below}
use Rattle.laws.proofs.ByPosition.{compressed_at, marks-by-position, projected-by-position}
use Rattle.projection.specs.declared.Projected.{Projected}
use Rattle.projection.specs.Entries.{compressed_node, node_marks, inverts_from, projected_entries}
use Rattle.projection.specs.Projecting.{NodeLists, ProjectedLists, WorkLists, projection_fits, Projecting, Refusing, ProjectionCall}
use Rattle.projection.proofs.FitSteps.{Fitted, fitting}

module _ {l : NodeLists} {marks marks' : List ℕ} {c c' : ProjectedLists} {w w' : WorkLists} {r : Option Projected} (call : ProjectionCall l marks marks' c c' w w' r) where
  pub fitting-projects : Fitted l marks c w → (is_some r ≡ true) × IfSome r (λ p. Projecting l marks marks' c c' p)
  fitting-projects f = (call.answer ∙ fitting l marks c w f, call.done)

  pub refused-keeps : projection_fits l marks c w ≡ false → (r ≡ None) × Refusing marks marks' c c' w w'
  refused-keeps e = (none r (call.answer ∙ e), call.refused (call.answer ∙ e))
    where
      none : (r : Option Projected) → is_some r ≡ false → r ≡ None
      none None e = refl
      none (Some p) e = cc

-- the positions of a scene's components, with the numbers that say what each is
module _ (l : ComponentLists) (distinct : Distinct l.ids) (es positions : List Edge) (at : Positioned l.ids es positions) (compressible : List ℕ)
    (kinds : (i : ℕ) → i < length l.ids → compressible_kind (row_of (component_at l i)).node ≡ not (eqb (key_at compressible i) 0)) where
  same-node : (i : ℕ) → i < length l.ids → compressed_at l positions i ≡ compressed_node positions compressible i
  same-node i h = ap (λ b. b && (eqb (in_count positions i) 1 && eqb (out_count positions i) 1)) (kinds i h)

  -- list 5
  pub scene-marks : marks (components_of l) es ≡ node_marks positions compressible (length l.ids)
  unfolding node_marks
  scene-marks = marks-by-position l distinct es positions at ∙ map_same _ _ (indices (length l.ids)) (λ i m. ap (λ b. cond b 0 1) (same-node i (indices-below (length l.ids) m)))

  -- lists 6 and 7, where `order` has the positions by rising id
  pub scene-entries : (delays inverts order : List ℕ) → ((i : ℕ) → i < length l.ids → delay_of (component_at l i) ≡ key_at delays i)
      → ((i : ℕ) → i < length l.ids → is_delayed_invert (row_of (component_at l i)).behavior ≡ not (eqb (key_at inverts i) 0))
      → rising_ids (components_of l) ≡ map (id_at l.ids) order → ((i : ℕ) → Memᴰ i order → i < length l.ids)
      → projected (components_of l) es ≡ projected_entries l.ids positions delays delays inverts compressible order
  unfolding projected_entries
  scene-entries delays inverts order same-delays same-inverts rises below =
      projected-by-position l distinct es positions at (key_at delays) (inverts_from inverts) (compressed_node positions compressible) order same-delays same-inverts same-node rises below
