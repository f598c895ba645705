-- Patterns by the marks of list 4's components. Assumes nothing: these are definitions.
use Rattle.std.specs.Prelude.{Bool, cond, not, ◌&&◌, List, ℕ, eqb, ltb, length}
use Rattle.std.specs.List.{list_any, zip}
use Rattle.rules.specs.Kinds.{kind_row, is_device}
use Rattle.rules.specs.Graph.{edges_between, shared_marks}
use Rattle.rules.specs.Reasons.{passive, is_inverter}
use Rattle.rules.specs.declared.answers.BehaviorPattern.{BehaviorPattern}
use Rattle.rules.specs.declared.answers.BehaviorPattern.TheVariants.{DelayedPath, ClockCandidate, LatchCandidate, Nothing}
use Rattle.reasons.specs.Listing.{shared_ids}

-- a component of this kind with this mark is listed, and an Inverter
abbrev pub is_listed_inverter : (kind mark : ℕ) → Bool
is_listed_inverter kind mark = (not (passive (kind_row kind).node) && not (eqb mark 0)) && is_inverter (kind_row kind).node

abbrev pub has_listed_inverter : (kinds marks : List ℕ) → Bool
has_listed_inverter kinds marks = list_any (λ p. is_listed_inverter p.0 p.1) (zip kinds marks)

abbrev pub has_device : List ℕ → Bool
has_device kinds = list_any (λ kind. is_device (kind_row kind)) kinds

-- the pattern, where so many components are listed
unfoldable pub marked_pattern : (kinds marks : List ℕ) → ℕ → BehaviorPattern
marked_pattern kinds marks listed = cond (ltb 0 listed) (cond (has_listed_inverter kinds marks) ClockCandidate LatchCandidate) (cond (has_device kinds) DelayedPath Nothing)

-- the same by the marks of positions that share their strongly connected component with a different one
unfoldable pub shared_pattern : (ids kinds starts stops : List ℕ) → BehaviorPattern
shared_pattern ids kinds starts stops = marked_pattern kinds (shared_marks (edges_between starts stops) (length ids)) (length (shared_ids ids kinds starts stops))
