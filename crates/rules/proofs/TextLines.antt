-- Lines, fields and rows: what is written in their form is read back, and what is read was written so. Assumes nothing.
use mathlib.Core.Bool.{Bool, true, false, cond, ◌&&◌, ◌||◌}
use mathlib.Core.List.Memᴰ
use mathlib.Core.List.{List, [], ◌∷◌, ◌++◌, flat_map, append_assoc, Memᴰ}
use mathlib.Core.Logic.{◌⊎◌, inl, inr}
use Rattle.std.specs.Prelude.{Option, Some, None}
use mathlib.Core.Path.{◌≡◌, refl, sym, ap, subst, ◌∙◌}
use Prim.Native.Nat.{ℕ, zero, suc, ◌+◌, ◌*◌, ◌≤◌}
use native.Mathlib.Nat.{mul-suc}
use native.Mathlib.Omega.{arith}
use lib.Dec.{T, eqb, eqb→eq, eqb_refl}
use lib.ListN.{length, drop, length-append}
use lib.Seq.{drop-append_seam}
use Rattle.rules.specs.Lists.{any}
use Rattle.rules.specs.Text.{line_feed, has_line, line_of, after_line, starts_with, Place, place, Reading, broken, read, and_then, field_of, field, rows_of, field_line}
use Rattle.rules.proofs.Lists.{or_left, or_right, or-none, and_left, and_right, and_both, chosen, not_chosen}

-- no byte is the line feed
abbrev pub NoFeed : List ℕ → Type 0
NoFeed bs = T (has_line bs) → ⊥

-- Lines

feed-append : (a b : List ℕ) → NoFeed a → NoFeed b → NoFeed (a ++ b)
unfolding any
feed-append [] b f g = g
feed-append (x ∷ a) b f g = or-none (eqb line_feed x) (has_line (a ++ b)) (λ t. f (or_left (eqb line_feed x) (has_line a) t)) (feed-append a b (λ t. f (or_right (eqb line_feed x) (has_line a) t)) g)

feed-right : (a b : List ℕ) → NoFeed (a ++ b) → NoFeed b
unfolding any
feed-right [] b f = f
feed-right (x ∷ a) b f = feed-right a b (λ t. f (or_right (eqb line_feed x) (has_line (a ++ b)) t))

has-line : (a rest : List ℕ) → T (has_line (a ++ (line_feed ∷ rest)))
unfolding any
has-line [] rest = tt
has-line (x ∷ a) rest = or_right (eqb line_feed x) (has_line (a ++ (line_feed ∷ rest))) (has-line a rest)

-- the line before a line feed, and what follows it
line-of : (a rest : List ℕ) → NoFeed a → line_of (a ++ (line_feed ∷ rest)) ≡ a
unfolding line_of any
line-of [] rest f = refl
line-of (x ∷ a) rest f =
    let ih = line-of a rest (λ t. f (or_right (eqb line_feed x) (has_line a) t)) in
    not_chosen [] (x ∷ line_of (a ++ (line_feed ∷ rest))) (eqb line_feed x) (λ t. f (or_left (eqb line_feed x) (has_line a) t)) ∙ ap (λ l. x ∷ l) ih

after_line_lem : (a rest : List ℕ) → NoFeed a → after_line (a ++ (line_feed ∷ rest)) ≡ rest
unfolding after_line any
after_line_lem [] rest f = refl
after_line_lem (x ∷ a) rest f =
    let ih = after_line_lem a rest (λ t. f (or_right (eqb line_feed x) (has_line a) t)) in
    not_chosen (a ++ (line_feed ∷ rest)) (after_line (a ++ (line_feed ∷ rest))) (eqb line_feed x) (λ t. f (or_left (eqb line_feed x) (has_line a) t)) ∙ ih

line-no-feed : (bs : List ℕ) → NoFeed (line_of bs)
unfolding line_of any
line-no-feed [] = λ t. t
line-no-feed (b ∷ bs) = go (eqb line_feed b) (λ t. t) (line-no-feed bs)
  where
    go : (c : Bool) → (T (eqb line_feed b) → T c) → NoFeed (line_of bs) → NoFeed (cond c [] (b ∷ line_of bs))
    go true same f = λ t. t
    go false same f = or-none (eqb line_feed b) (has_line (line_of bs)) same f

-- a text with a line feed is its first line, the line feed, and the rest
line-split : (bs : List ℕ) → T (has_line bs) → bs ≡ line_of bs ++ (line_feed ∷ after_line bs)
unfolding line_of after_line any
line-split (b ∷ bs) h = go (eqb line_feed b) (eqb→eq line_feed b) (λ t. line-split bs t) h
  where
    go : (c : Bool) → (T c → line_feed ≡ b) → (T (has_line bs) → bs ≡ line_of bs ++ (line_feed ∷ after_line bs)) → T (c || has_line bs)
        → b ∷ bs ≡ cond c [] (b ∷ line_of bs) ++ (line_feed ∷ cond c bs (after_line bs))
    go true is below t = ap (λ x. x ∷ bs) (sym (is tt))
    go false is below t = ap (λ l. b ∷ l) (below t)
line-split [] h = elim h [ ]

-- a line that starts with a name
starts : (name rest : List ℕ) → T (starts_with name (name ++ rest))
unfolding starts_with
starts [] rest = tt
starts (n ∷ name) rest = and_both (eqb n n) (starts_with name (name ++ rest)) (eqb_refl n) (starts name rest)

pub starts-split : (name line : List ℕ) → T (starts_with name line) → line ≡ name ++ drop (length name) line
unfolding starts_with
starts-split [] line t = refl
starts-split (n ∷ name) (b ∷ line) t =
    let ih = starts-split name line (and_right (eqb n b) (starts_with name line) t) in
    let e = eqb→eq n b (and_left (eqb n b) (starts_with name line) t) in
    ap (λ x. x ∷ line) (sym e) ∙ ap (λ l. n ∷ l) ih
starts-split (n ∷ name) [] t = elim t [ ]

-- what is broken was not read
pub not-read : {A : Type 0} {l : ℕ} {x : A} {q : Place} → broken l ≡ read x q → ⊥
not-read r = let z : ◌≡◌ {A = ℕ} 0 1 = cc in omega arith

-- Fields

module _ {A : Type 0} (name : List ℕ) (value : List ℕ → Option A) where
  -- a line with the field's name and a value in its form is read
  pub field-read : (v : List ℕ) (x : A) (l : ℕ) (rest : List ℕ) → NoFeed name → NoFeed v → value v ≡ Some x → field name value (place l (field_line name v ++ rest)) ≡ read x (place (suc l) rest)
  unfolding field
  field-read v x l rest f g e =
      let line : List ℕ = name ++ v in
      let whole : (name ++ (v ++ (line_feed ∷ []))) ++ rest ≡ line ++ (line_feed ∷ rest) = simp append_assoc in
      let free : NoFeed line = feed-append name v f g in
      rw (whole, line-of line rest free, drop-append_seam name v, e, after_line_lem line rest free)
      (chosen (read x (place (suc l) rest)) (broken l) (has_line (line ++ (line_feed ∷ rest)) && starts_with name line)
      (and_both (has_line (line ++ (line_feed ∷ rest))) (starts_with name line) (has-line line rest) (starts name v)))

  -- and what was read stood so
  pub field-text : (p : Place) (x : A) (q : Place) → field name value p ≡ read x q
      → (v : List ℕ) × (p.rest ≡ field_line name v ++ q.rest) × (value v ≡ Some x) × (q.line ≡ suc p.line) × NoFeed v
  unfolding field
  field-text p x q r = go (has_line p.rest && starts_with name line) (λ t. t) (value v) refl r
    where
      line : List ℕ
      line = line_of p.rest

      v : List ℕ
      v = drop (length name) line

      go : (b : Bool) → (T b → T (has_line p.rest && starts_with name line)) → (o : Option A) → value v ≡ o → cond b (field_of o p) (broken p.line) ≡ read x q
          → (v : List ℕ) × (p.rest ≡ field_line name v ++ q.rest) × (value v ≡ Some x) × (q.line ≡ suc p.line) × NoFeed v
      go false pass o e r = absurd (not-read r)
      go true pass None e r = absurd (not-read r)
      go true pass (Some y) e r =
          let has = and_left (has_line p.rest) _ (pass tt) in
          let split : line ≡ name ++ v = starts-split name line (and_right (has_line p.rest) _ (pass tt)) in
          let after : q ≡ place (suc p.line) (after_line p.rest) = cc in
          let same : y ≡ x = cc in
          let whole : p.rest ≡ field_line name v ++ q.rest = line-split p.rest has ∙ ap (λ l. l ++ (line_feed ∷ after_line p.rest)) split ∙ ap (λ r. (name ++ v) ++ (line_feed ∷ r)) (sym (ap (λ p. p.rest) after)) ∙ simp append_assoc in
          (v, whole, e ∙ ap Some same, ap (λ p. p.line) after, feed-right name v (subst NoFeed split (line-no-feed p.rest)))

-- The form of a thing: its text is read as the thing, over so many lines, and no other text is
pub record Form {A : Type 0} (reader : Place → Reading A) (text : A → List ℕ) (Fits : A → Type 0) (lines : A → ℕ) : Type 0 where
  pub reads : (x : A) (l : ℕ) (rest : List ℕ) → Fits x → reader (place l (text x ++ rest)) ≡ read x (place (lines x + l) rest)
  pub was_text : (p : Place) (x : A) (q : Place) → reader p ≡ read x q → (p.rest ≡ text x ++ q.rest) × Fits x

-- the same form in other words
pub as-form : {A : Type 0} {reader : Place → Reading A} {text : A → List ℕ} {Fits Good : A → Type 0} {lines : A → ℕ} → Form reader text Fits lines → ((x : A) → Fits x → Good x) → ((x : A) → Good x → Fits x)
    → (count : A → ℕ) → ((x : A) → lines x ≡ count x) → Form reader text Good count
as-form form good fits count same = record {
  reads = λ x l rest h. form.reads x l rest (fits x h) ∙ ap (λ k. read x (place (k + l) rest)) (same x);
  was_text = λ p x q r. let t = form.was_text p x q r in (t.0, good x t.1);
}

-- a field whose values have one text each
module _ {A : Type 0} (value : List ℕ → Option A) (write : A → List ℕ) (Fits : A → Type 0) (value_read : (x : A) → Fits x → value (write x) ≡ Some x)
    (value-text : (v : List ℕ) (x : A) → value v ≡ Some x → (v ≡ write x) × Fits x) (free : (x : A) → NoFeed (write x)) where
  pub field-form : (name : List ℕ) → NoFeed name → Form (field name value) (λ x. field_line name (write x)) Fits (λ x. 1)
  field-form name f = record {
    reads = λ x l rest h. field-read name value (write x) x l rest f (free x) (value_read x h) ∙ ap (λ k. read x (place k rest)) (omega arith);
    was_text = λ p x q r.
        let t = field-text name value p x q r in
        let s = value-text t.0 x t.2 in
        (t.1 ∙ ap (λ v. field_line name v ++ q.rest) s.0, s.1);
  }

-- One thing after another

joined : (a b : List ℕ) {t u : List ℕ} (v : List ℕ) → t ≡ a ++ u → u ≡ b ++ v → t ≡ (a ++ b) ++ v
joined a b v e f = e ∙ ap (λ l. a ++ l) f ∙ sym (append_assoc a b v)

then-text : {A B : Type 0} (m : Reading A) (next : A → Place → Reading B) (y : B) (r : Place) → and_then m next ≡ read y r → (x : A) × (q : Place) × (m ≡ read x q) × (next x q ≡ read y r)
unfolding and_then
then-text (broken l) next y r e = absurd (not-read e)
then-text (read x q) next y r e = (x, q, refl, e)

module _ {A B : Type 0} {first : Place → Reading A} {text : A → List ℕ} {Fits : A → Type 0} {lines : A → ℕ} (form : Form first text Fits lines) (part : B → A) where
  -- a thing that begins with a part, where the rest of it has a form for each such part
  pub then-form : {next : A → Place → Reading B} {more : B → List ℕ} {Also : A → B → Type 0} {more_lines : B → ℕ} → ((x : A) → Form (next x) more (Also x) more_lines)
      → ((x : A) (y : B) → Also x y → part y ≡ x) → Form (λ p. and_then (first p) next) (λ y. text (part y) ++ more y) (λ y. Fits (part y) × Also (part y) y) (λ y. more_lines y + lines (part y))
  unfolding and_then
  then-form {next} {more} {Also} {more_lines} forms is = record {
    reads = λ y l rest h. rw (append_assoc, form.reads (part y) l (more y ++ rest) h.0, (forms (part y)).reads y (lines (part y) + l) rest h.1) (ap (λ k. read y (place k rest)) (omega arith));
    was_text = λ p y q r.
        let t = then-text (first p) next y q r in
        let s = form.was_text p t.0 t.1 t.2 in
        let u = (forms t.0).was_text t.1 y q t.3 in
        subst (λ x. (p.rest ≡ (text x ++ more y) ++ q.rest) × (Fits x × Also x y)) (sym (is t.0 y u.1)) (joined (text t.0) (more y) q.rest s.0 u.0, (s.1, u.1));
  }

  -- a thing that ends with a part
  pub last-form : (make : A → B) → ((x : A) → part (make x) ≡ x) → Form (λ p. and_then (first p) (λ x q. read (make x) q)) (λ y. text (part y)) (λ y. Fits (part y) × (make (part y) ≡ y)) (λ y. lines (part y))
  unfolding and_then
  last-form make is = record {
    reads = λ y l rest h. rw (form.reads (part y) l rest h.0) (ap (λ z. read z (place (lines (part y) + l) rest)) h.1);
    was_text = λ p y q r. let t = then-text (first p) (λ x q. read (make x) q) y q r in go p y q t.0 t.1 t.2 t.3;
  }
    where
      go : (p : Place) (y : B) (q : Place) (x : A) (r : Place) → first p ≡ read x r → read (make x) r ≡ read y q → (p.rest ≡ text (part y) ++ q.rest) × (Fits (part y) × (make (part y) ≡ y))
      go p y q x r e last =
          let made : make x ≡ y = cc in
          let here : r ≡ q = cc in
          let s = form.was_text p x r e in
          subst (λ x. (p.rest ≡ text x ++ q.rest) × (Fits x × (make x ≡ y))) (sym (is x) ∙ ap part made) (s.0 ∙ ap (λ q. text x ++ q.rest) here, (s.1, made))

-- Rows

module _ {A : Type 0} {row : Place → Reading A} {text : A → List ℕ} {Fits : A → Type 0} {lines : ℕ} (form : Form row text Fits (λ x. lines)) where
  -- the rows' texts, one after another, are read
  pub rows-read : (xs : List A) (l : ℕ) (rest : List ℕ) → ((x : A) → Memᴰ x xs → Fits x)
      → rows_of row (length xs) (place l (flat_map text xs ++ rest)) ≡ read xs (place (lines * length xs + l) rest)
  unfolding rows_of flat_map and_then
  rows-read [] l rest f = ap (λ k. read [] (place k rest)) (omega arith)
  rows-read (x ∷ xs) l rest f =
      let others = rows-read xs (lines + l) rest (λ y m. f y (Memᴰ.tail m)) in
      let count : lines * length xs + (lines + l) ≡ lines * suc (length xs) + l = omega (arith, mul-suc lines (length xs)) in
      rw (append_assoc, form.reads x l (flat_map text xs ++ rest) (f x (Memᴰ.head refl)), others) (ap (λ k. read (x ∷ xs) (place k rest)) count)

  -- what rows that were read say of the text
  abbrev RowsText : ℕ → Place → List A → Place → Type 0
  RowsText n p xs q = (p.rest ≡ flat_map text xs ++ q.rest) × ((length xs ≡ n) × ((x : A) → Memᴰ x xs → Fits x))

  rows_more : (n : ℕ) (p : Place) (x : A) (q : Place) (xs : List A) (r : Place) → p.rest ≡ text x ++ q.rest → Fits x → RowsText n q xs r → RowsText (suc n) p (x ∷ xs) r
  unfolding flat_map
  rows_more n p x q xs r e h others = (joined (text x) (flat_map text xs) r.rest e others.0, (ap suc others.1.0, λ y m. fits y (Memᴰ.cases_cons m)))
    where
      fits : (y : A) → (y ≡ x) ⊎ Memᴰ y xs → Fits y
      fits y (inl s) = subst Fits (sym s) h
      fits y (inr m) = others.1.1 y m

  -- and what was read stood so
  pub rows-text : (n : ℕ) (p : Place) (xs : List A) (q : Place) → rows_of row n p ≡ read xs q
      → (p.rest ≡ flat_map text xs ++ q.rest) × ((length xs ≡ n) × ((x : A) → Memᴰ x xs → Fits x))
  unfolding rows_of flat_map
  rows-text zero p xs q r =
      let none_left : [] ≡ xs = cc in
      let here : p ≡ q = cc in
      subst (λ xs. RowsText zero p xs q) none_left (ap (λ p. p.rest) here, (refl, λ x m. absurd (Memᴰ.not-nil m)))
  rows-text (suc n) p xs q r =
      let one = then-text (row p) _ xs q r in
      let first = form.was_text p one.0 one.1 one.2 in
      let more = then-text (rows_of row n one.1) _ xs q one.3 in
      let last : read (one.0 ∷ more.0) more.1 ≡ read xs q = more.3 in
      let listed : one.0 ∷ more.0 ≡ xs = cc last in
      let here : more.1 ≡ q = cc last in
      let others : RowsText n one.1 more.0 q = subst (RowsText n one.1 more.0) here (rows-text n one.1 more.0 more.1 more.2) in
      subst (λ xs. RowsText (suc n) p xs q) listed (rows_more n p one.0 one.1 more.0 q first.0 first.1 others)

  -- so many rows have a form
  pub rows-form : (n : ℕ) → Form (rows_of row n) (flat_map text) (λ xs. (length xs ≡ n) × ((x : A) → Memᴰ x xs → Fits x)) (λ xs. lines * length xs)
  rows-form n = record {
    reads = λ xs l rest h. subst (λ k. rows_of row k (place l (flat_map text xs ++ rest)) ≡ read xs (place (lines * length xs + l) rest)) h.0 (rows-read xs l rest h.1);
    was_text = rows-text n;
  }

-- each row takes at least a byte
pub rows-length : {A : Type 0} (text : A → List ℕ) → ((x : A) → 1 ≤ length (text x)) → (xs : List A) → length xs ≤ length (flat_map text xs)
unfolding flat_map
rows-length text f [] = omega arith
rows-length text f (x ∷ xs) = omega (arith, f x, rows-length text f xs, length-append (text x) (flat_map text xs))
