-- What a search among ordered positions promises. Assumes nothing: these are definitions.
use Rattle.std.specs.Prelude.{Bool, List, Option, Some, is_some, unwrap_or, ◌≡◌, ℕ, ◌<◌, length}
use Rattle.rules.specs.Ordered.{key_at, ordered, position_of}

-- where the row is the ordered positions, the answer is the first position of the key; with another row it is open which position that
-- has the key is answered, or none
pub record Searched (keys order : List ℕ) (key : ℕ) (r : Option ℕ) : Type 0 where
  pub has_key : (p : ℕ) → r ≡ Some p → (p < length keys) × (key_at keys p ≡ key)
  pub first : order ≡ ordered keys → r ≡ position_of keys key

-- the answer's numbers: whether there is a position, and which; 0 where there is none
abbrev pub is_found : Option ℕ → Bool
is_found r = is_some r

abbrev pub found_position : Option ℕ → ℕ
found_position r = unwrap_or r 0
