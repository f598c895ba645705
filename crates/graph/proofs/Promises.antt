-- What the contract gives a caller: a call that refuses changes nothing, and one whose lists fit writes the marks. Assumes nothing.
use mathlib.Core.Bool.{Bool, true, false, cond}
use mathlib.Core.List.{List}
use mathlib.Core.Path.{◌≡◌, ap, ◌∙◌}
use Prim.Native.Nat.{ℕ}
use lib.ListN.{length}
use Rattle.rules.specs.Graph.{edges_between, shared_marks}
use Rattle.graph.specs.Fits.{graph_fits, SharedMarked}

module _ {sources sinks marks head next order group marks' head' next' order' group' : List ℕ} {r : Bool}
    (s : SharedMarked sources sinks marks head next order group marks' head' next' order' group' r) where
  abbrev fits : Bool
  fits = graph_fits sources sinks (length marks) (length head) (length next) (length order) (length group)

  pub refused-keeps : fits ≡ false → (r ≡ false) × (marks' ≡ marks) × ((head' ≡ head) × (next' ≡ next) × (order' ≡ order) × (group' ≡ group))
  refused-keeps e = let no : r ≡ false = s.answer ∙ e in (no, s.marked ∙ ap (λ b. cond b (shared_marks (edges_between sources sinks) (length marks)) marks) no, s.refused no)

  pub fitting-marks : fits ≡ true → (r ≡ true) × (marks' ≡ shared_marks (edges_between sources sinks) (length marks))
  fitting-marks e = let yes : r ≡ true = s.answer ∙ e in (yes, s.marked ∙ ap (λ b. cond b (shared_marks (edges_between sources sinks) (length marks)) marks) yes)
