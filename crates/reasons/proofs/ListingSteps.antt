-- Listing the marked components, step by step. Assumes nothing.
use mathlib.Core.Bool.{Bool, true, cond}
use mathlib.Core.List.{List, [], ◌∷◌, ◌++◌, map-append}
use mathlib.Core.Path.{◌≡◌, refl, sym, ap, ◌∙◌}
use Prim.Native.Nat.{ℕ, ◌+◌, ◌<◌}
use native.Mathlib.Omega.{arith}
use lib.ListN.{length, get_or, set}
use Rattle.rules.specs.Graph.{edges_between, shared_marks}
use Rattle.rules.specs.Lists.{keep, from, indices}
use Rattle.rules.specs.Refusals.{scene_limits}
use Rattle.rules.proofs.Lists.{keep_append}
use Rattle.rules.proofs.Indices.{indices-more}
use Rattle.rules.proofs.Kept.{KeptBelow, kept-none, kept_more}
use Rattle.graph.specs.Fits.{graph_fits}
use Rattle.graph.proofs.Fitting.{ends-all}
use Rattle.laws.proofs.PositionEdges.{inside-sources, inside-sinks}
use Rattle.reasons.specs.Listing.{is_listed, listed_ids, Linked}

module _ (ids kinds marks old : List ℕ) where
  -- the list and its count once the components before i are gone through
  abbrev pub ListedBelow : (i : ℕ) (feedback : List ℕ) (count : ℕ) → Type 0
  ListedBelow i feedback count = KeptBelow (listed_ids ids kinds marks) old i feedback count

  pub listed_start : ListedBelow 0 old 0
  unfolding listed_ids indices from keep
  listed_start = kept-none (listed_ids ids kinds marks) old refl

  listed-ids-more : (i : ℕ) → listed_ids ids kinds marks (i + 1) ≡ listed_ids ids kinds marks i ++ cond (is_listed kinds marks i) (get_or ids i 0 ∷ []) []
  unfolding listed_ids keep
  listed-ids-more i =
      rw (indices-more i, keep_append (is_listed kinds marks) (indices i) (i ∷ []), map-append (λ k. get_or ids k 0) (keep (is_listed kinds marks) (indices i)) (keep (is_listed kinds marks) (i ∷ []))) (grind arith)

  pub listed_more : (i count : ℕ) (feedback : List ℕ) (b : Bool) → b ≡ is_listed kinds marks i → i < length old → ListedBelow i feedback count
      → ListedBelow (i + 1) (cond b (set feedback count (get_or ids i 0)) feedback) (cond b (count + 1) count)
  listed_more i count feedback b e h r =
      kept_more (listed_ids ids kinds marks) old i count feedback (get_or ids i 0) h r b (listed-ids-more i ∙ ap (λ c. listed_ids ids kinds marks i ++ cond c (get_or ids i 0 ∷ []) []) (sym e))

-- edges between positions are a graph, with room in lists of the limits' lengths
module _ (starts stops : List ℕ) (n : ℕ) (linked : Linked starts stops n) where
  abbrev fits : Bool
  fits = graph_fits starts stops n scene_limits.components scene_limits.connections scene_limits.components scene_limits.components

  linked-fits : fits ≡ true
  unfolding graph_fits
  linked-fits =
      let a = ends-all n starts (inside-sources n starts stops (sym linked.pairs) linked.inside) in
      let b = ends-all n stops (inside-sinks n starts stops (sym linked.pairs) linked.inside) in
      grind arith

  pub marks-shared : (old new : List ℕ) (r : Bool) → r ≡ fits → new ≡ cond r (shared_marks (edges_between starts stops) n) old → new ≡ shared_marks (edges_between starts stops) n
  marks-shared old new r a e = rw (a ∙ linked-fits) at e
