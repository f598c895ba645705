-- What the finding of a line promises. Assumes nothing: these are definitions.
use Rattle.std.specs.Prelude.{Bool, true, false, ◌&&◌, List, ◌≡◌, ℕ, ◌+◌, Option, MatchOption, length, drop}
use Rattle.std.specs.Borrow.{Bor}
use Rattle.rules.specs.Text.{has_line, line_of, after_line, starts_with}

-- a line is left and starts with the name
abbrev pub has_name : (name rest : List ℕ) → Bool
has_name name rest = has_line rest && starts_with name (line_of rest)

-- the first line has the name; its value stands after the name
pub record FoundLine (text name value rest : List ℕ) : Type 0 where
  pub named : has_name name text ≡ true
  pub value_is : value ≡ drop (length name) (line_of text)
  pub rest_is : rest ≡ after_line text
  pub amount : length name + length value + 1 + length rest ≡ length text

abbrev pub NamedLine : (text name : List ℕ) → Option (Bor (List ℕ) × Bor (List ℕ)) → Type 0
NamedLine text name r = MatchOption r (has_name name text ≡ false) (λ x. FoundLine text name x.0.now x.1.now)
