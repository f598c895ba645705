-- Rows read one after another, and a scene from its two kinds of rows. Assumes nothing.
use Rattle.std.proofs.Common.{◌≡◌, ℕ, zero, suc, ◌+◌, ◌-◌, ◌<◌, true, false, List, [], ◌∷◌, ◌++◌, refl, sym, ap, ◌∙◌, arith, append-nil, append_assoc, Result, Ok, Err}
use Rattle.std.specs.Prelude.{MatchResult}
use Rattle.rules.specs.Lists.{not_empty}
use Rattle.rules.specs.Bytes.{bytes}
use Rattle.rules.specs.Scene.{Component, Connection}
use Rattle.rules.specs.Text.{Place, Reading, broken, read, place, and_then, field, rows_of, number64, counted, component, connection, scene_at}
use Rattle.reader.specs.declared.lines.BrokenLine.{BrokenLine}
use Rattle.text.specs.Reading.{component_more, connection_more, rows_more, counted_rows, SceneRead}

-- one row of those that are still to be read
pub next_row : {A : Type 0} (more : A → Place → Reading A) (n i : ℕ) (rows rows' : A) (p q : Place) → i < n → more rows p ≡ read rows' q
    → rows_more more (n - i) rows p ≡ rows_more more (n - (i + 1)) rows' q
unfolding rows_more and_then
next_row more n i rows rows' p q h e =
    let left : n - i ≡ suc (n - (i + 1)) = omega arith in
    ap (λ k. rows_more more k rows p) left ∙ ap (λ r. and_then r (rows_more more (n - (i + 1)))) e

-- rows read behind others are the others with the rows that are read
module _ {A : Type 0} (row : Place → Reading A) where
  row_more : List A → Place → Reading (List A)
  row_more xs p = and_then (row p) (λ x q. read (xs ++ x ∷ []) q)

  behind : List A → Reading (List A) → Reading (List A)
  behind xs r = and_then r (λ ys q. read (xs ++ ys) q)

  rows-behind : (n : ℕ) (xs : List A) (p : Place) → rows_more row_more n xs p ≡ behind xs (rows_of row n p)
  unfolding rows_more rows_of and_then behind row_more
  rows-behind zero xs p = ap (λ l. read l p) (sym (append-nil xs))
  rows-behind (suc n) xs p = go (row p) (rows-behind n)
    where
      rest : (x : A) (xs : List A) (r : Reading (List A)) → behind (xs ++ x ∷ []) r ≡ behind xs (and_then r (λ ys q. read (x ∷ ys) q))
      rest x xs (broken l) = refl
      rest x xs (read ys q) = ap (λ l. read l q) (append_assoc xs (x ∷ []) ys)

      go : (r : Reading A) → ((xs : List A) (q : Place) → rows_more row_more n xs q ≡ behind xs (rows_of row n q)) → and_then (and_then r (λ x q. read (xs ++ x ∷ []) q)) (rows_more row_more n) ≡ behind xs (and_then r (λ x q. and_then (rows_of row n q) (λ ys t. read (x ∷ ys) t)))
      go (broken l) more = refl
      go (read x q) more = more (xs ++ x ∷ []) q ∙ rest x xs (rows_of row n q)

  none-before : (r : Reading (List A)) → behind [] r ≡ r
  unfolding behind and_then
  none-before (broken l) = refl
  none-before (read xs q) = refl

  counted-same : (name : List ℕ) (p : Place) → counted_rows row_more name [] p ≡ counted name row p
  unfolding counted_rows counted and_then
  counted-same name p = go (field name number64 p)
    where
      go : (r : Reading ℕ) → and_then r (λ n q. rows_more row_more n [] q) ≡ and_then r (rows_of row)
      go (broken l) = refl
      go (read n q) = rows-behind n [] q ∙ none-before (rows_of row n q)

components-same : (p : Place) → counted_rows component_more (bytes "components=") [] p ≡ counted (bytes "components=") component p
unfolding row_more
components-same p = counted-same component (bytes "components=") p

connections-same : (p : Place) → counted_rows connection_more (bytes "connections=") [] p ≡ counted (bytes "connections=") connection p
unfolding row_more
connections-same p = counted-same connection (bytes "connections=") p

-- the scene from its parts
module _ (text : List ℕ) where
  pub scene_none : (l : ℕ) → counted_rows component_more (bytes "components=") [] (place 1 text) ≡ broken l → scene_at (place 1 text) ≡ broken l
  unfolding scene_at and_then
  scene_none l e = rw (sym (components-same (place 1 text)), e)

  module _ (cs : List Component) (p : Place) (components : counted_rows component_more (bytes "components=") [] (place 1 text) ≡ read cs p) where
    pub scene_half : (l : ℕ) → counted_rows connection_more (bytes "connections=") [] p ≡ broken l → scene_at (place 1 text) ≡ broken l
    unfolding scene_at and_then
    scene_half l e = rw (sym (components-same (place 1 text)), components, sym (connections-same p), e)

    pub scene_end : (ns : List Connection) (q : Place) (r : Result (Unit {0}) BrokenLine) → counted_rows connection_more (bytes "connections=") [] p ≡ read ns q
        → MatchResult r (λ _. not_empty q.rest ≡ false) (λ e. (not_empty q.rest ≡ true) × (e.line ≡ q.line)) → SceneRead text cs ns r
    unfolding scene_at and_then
    scene_end ns q (Ok u) e h = (q, rw (sym (components-same (place 1 text)), components, sym (connections-same p), e, h))
    scene_end ns q (Err b) e h = rw (sym (components-same (place 1 text)), components, sym (connections-same p), e, h.0, h.1)
