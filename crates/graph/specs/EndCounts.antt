-- How often each node is an end of an edge. Assumes nothing: these are definitions.
use Rattle.std.specs.Prelude.{◌≡◌, List, ℕ, ◌<◌, eqb, length, get_or}
use Rattle.rules.specs.Lists.{count}

-- each node has as many as there are ends that are it; other ends are in no node's count
abbrev pub EndsCounted : (ends counts : List ℕ) → Type 0
EndsCounted ends counts = (v : ℕ) → v < length counts → get_or counts v 0 ≡ count (λ x. eqb x v) ends
