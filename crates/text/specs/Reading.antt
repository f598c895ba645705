-- What the reading of rows promises. Assumes nothing: these are definitions.
use Rattle.std.specs.Prelude.{List, [], ◌∷◌, ◌++◌, ◌≡◌, ℕ, zero, suc, Result, MatchResult}
use Rattle.rules.specs.Scene.{Component, Connection}
use Rattle.rules.specs.Text.{Place, Reading, broken, read, place, and_then, field, number64, component, connection, scene_at}
use Rattle.reader.specs.declared.lines.BrokenLine.{BrokenLine}

-- what is read stands in the rows, or the line that breaks the form is given
module _ {A : Type 0} where
  abbrev pub Filled : Reading A → Result (Unit {0}) BrokenLine → A → Place → Type 0
  Filled reading r rows after = MatchResult r (λ _. reading ≡ read rows after) (λ e. reading ≡ broken e.line)

-- rows with one more, read at a place
abbrev pub component_more : List Component → Place → Reading (List Component)
component_more cs p = and_then (component p) (λ c q. read (cs ++ c ∷ []) q)

abbrev pub connection_more : List Connection → Place → Reading (List Connection)
connection_more ns p = and_then (connection p) (λ n q. read (ns ++ n ∷ []) q)

module _ {A : Type 0} (more : A → Place → Reading A) where
  -- so many rows more
  unfoldable pub rows_more : ℕ → A → Place → Reading A
  rows_more zero rows p = read rows p
  rows_more (suc n) rows p = and_then (more rows p) (rows_more n)

  -- a count, and as many rows
  unfoldable pub counted_rows : (name : List ℕ) → A → Place → Reading A
  counted_rows name rows p = and_then (field name number64 p) (λ n q. rows_more n rows q)

-- a text was read whole, or its first broken line is given
abbrev pub SceneRead : List ℕ → List Component → List Connection → Result (Unit {0}) BrokenLine → Type 0
SceneRead text cs ns r =
    MatchResult r (λ _. (end : Place) × (scene_at (place 1 text) ≡ read (record { components = cs; connections = ns }) end)) (λ e. scene_at (place 1 text) ≡ broken e.line)
