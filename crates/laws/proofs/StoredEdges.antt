-- Lists 6 and 7 read back give the projected edges with their paths. Assumes nothing.
use mathlib.Core.List.{List, [], map}
use mathlib.Core.Path.{◌≡◌, ap, ◌∙◌}
use Prim.Native.Nat.{ℕ, ◌<◌}
use native.Mathlib.Omega.{arith}
use Rattle.std.specs.Prelude.{Result}
use lib.ListN.{length, get_or, length-map}
use Rattle.rules.specs.Lists.{indices, written}
use Rattle.rules.specs.Scene.{Scene, edges}
use Rattle.rules.specs.Projection.{ProjectedEdge, projected, projected_path}
use Rattle.rules.specs.Refusals.{accepted}
use Rattle.rules.specs.Assess.{AssessLists, stored_edge, AssessedBy}
use Rattle.rules.specs.declared.answers.Assessment.{Assessment}
use Rattle.rules.specs.declared.answers.Refusal.{Refusal}
use Rattle.rules.proofs.Indices.{map_at, made-same}
use Rattle.rules.proofs.Written.{written_at}
use Rattle.laws.proofs.PathParts.{path-back}

-- so many entries of list 6, from the first on
unfoldable pub stored_edges : AssessLists → ℕ → List ProjectedEdge
stored_edges o used = map (stored_edge o) (indices used)

-- what is read at an index where an entry was written
pub field_back : {A B : Type 0} (field : A → B) (l old : List B) (xs : List A) (none : A) (d : B) (k : ℕ) → l ≡ written old (map field xs) → k < length xs
    → get_or l k d ≡ field (get_or xs k none)
field_back field l old xs none d k e h = ap (λ l. get_or l k d) e ∙ written_at old (map field xs) k d (omega (arith, length-map xs field)) ∙ map_at field xs k none d h

none : ProjectedEdge
none = record { source = 0; sink = 0; inverted = 0; minimum = 0; maximum = 0; path = [] }

-- what was written is what is read
module _ (s : Scene) (old new : AssessLists) {answer : Result Assessment Refusal} (call : AssessedBy accepted s old new answer) where
  abbrev ps : List ProjectedEdge
  ps = projected s.components (edges s)

  pub stored_back : stored_edges new (length (projected s.components (edges s))) ≡ projected s.components (edges s)
  unfolding stored_edges stored_edge
  stored_back = made-same (stored_edge new) ps none back
    where
      back : (k : ℕ) → k < length ps → stored_edge new k ≡ get_or ps k none
      back k h =
          let path : projected_path new.path_ids new.projected_starts new.projected_lengths k ≡ (get_or ps k none).path =
          rw (call.path_ids, call.projected_starts, call.projected_lengths)
          (path-back old.path_ids old.projected_starts old.projected_lengths ps k h ∙ map_at (λ p. p.path) ps k none [] h) in
          rw (
            field_back (λ p. p.source) _ _ ps none 0 k call.projected_sources h,
            field_back (λ p. p.sink) _ _ ps none 0 k call.projected_sinks h,
            field_back (λ p. p.inverted) _ _ ps none 0 k call.projected_inverted h,
            field_back (λ p. p.minimum) _ _ ps none 0 k call.projected_minimums h,
            field_back (λ p. p.maximum) _ _ ps none 0 k call.projected_maximums h,
            path,
          )
