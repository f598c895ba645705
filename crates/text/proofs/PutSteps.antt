-- A text put behind another, and rows put one after the other. Assumes nothing.
use Rattle.std.proofs.Common.{◌≡◌, ℕ, zero, suc, ◌+◌, ◌*◌, ◌-◌, ◌^◌, ◌/◌, ◌%◌, ◌≤◌, ◌<◌, List, [], ◌∷◌, ◌++◌, length, get_or, take, drop, set, refl, sym, ap, ◌∙◌, arith, append-nil}
use Rattle.std.specs.Fmt.{decimal as printed}
use Rattle.std.proofs.lemmas.Fmt.{decimal_by_steps}
use Rattle.std.proofs.lemmas.List.{length-append, append_assoc, drop-drop}
use mathlib.Core.List.{flat_map}
use mathlib.Core.Path.{ap₂}
use Prim.Native.Char.{code}
use borrow.Rule.Slice.PartMut.{put_mid}
use Rattle.rules.specs.Lists.{from, indices, rows, written_from}
use Rattle.rules.specs.Report.{ids_text}
use Rattle.rules.proofs.Lists.{flat_append, flat-more}
use Rattle.rules.proofs.Indices.{indices-more, indices-split}
use Rattle.rules.proofs.Written.{from-none, from_more, from-twice, from-length}
use Rattle.rules.specs.Bytes.{digit, decimal}
use Rattle.rules.proofs.Decimals.{decimal_digit, decimal-many}
use Rattle.text.specs.Page.{Room, Put}
use Rattle.text.specs.declared.page.Page.{Page}

pub put_none : (p : Page) → p.end ≤ length p.bytes.now → Put [] p p
put_none p h = record { room = record { fits = omega arith }; content = sym (from-none p.bytes.now p.end); after = omega arith; same = refl }

-- room for the first of two texts
pub room_first : (a b : List ℕ) (p : Page) → Room (a ++ b) p → Room a p
room_first a b p h = record { fits = omega (arith, h.fits, length-append a b) }

module _ {a : List ℕ} {p q : Page} (f : Put a p q) where
  pub put_size : length q.bytes.now ≡ length p.bytes.now
  put_size = ap length f.content ∙ from-length p.bytes.now a p.end f.room.fits

  -- room for the second of two texts
  pub room_next : (b : List ℕ) → Room (a ++ b) p → Room b q
  room_next b h = record { fits = omega (arith, put_size, h.fits, f.after, length-append a b) }

  pub put_next : {b : List ℕ} {r : Page} → Put b q r → Put (a ++ b) p r
  put_next {b} g = record {
    room = record { fits = omega (arith, put_size, g.room.fits, f.after, length-append a b) };
    content = g.content ∙ ap₂ (λ k l. written_from k l b) f.after f.content ∙ from-twice p.bytes.now a b p.end (omega (arith, f.room.fits));
    after = omega (arith, f.after, g.after, length-append a b);
    same = g.same ∙ f.same;
  }

-- the bytes after a text, and after a byte
pub text_put : (at n : ℕ) (old text : List ℕ) → n ≡ length text → put_mid at n old text ≡ written_from at old text
unfolding written_from
text_put at n old text e =
    let more : drop n (drop at old) ≡ drop (at + length text) old = drop-drop n at old ∙ ap (λ k. drop k old) (omega arith) in
    ap (λ l. take at old ++ (text ++ l)) more

pub byte_put : (at : ℕ) (old : List ℕ) (x : ℕ) → at < length old → set old at x ≡ written_from at old (x ∷ [])
byte_put at old x h =
    let here : at + 0 ≡ at = omega arith in
    ap (λ l. set l at x) (sym (from-none old at)) ∙ ap (λ k. set (written_from at old []) k x) (sym here) ∙ from_more old [] at x (omega arith)

-- The digits of a number

-- a number of 10 or more is that of its tens, and a digit
decimal_more : (n : ℕ) → 10 ≤ n → decimal n ≡ decimal (n / 10) ++ (digit (n % 10) ∷ [])
decimal_more n h =
    let e : n ≡ 10 * (n / 10) + n % 10 = omega arith in
    ap decimal e ∙ decimal-many (n / 10) (n % 10) (omega arith) (omega arith)

-- the library's digits are these
pub printed_is : (n : ℕ) → n < 2 ^ 64 → printed n ≡ decimal n
printed_is = decimal_by_steps (λ n ds. ds ≡ decimal n) (λ n h. sym (decimal_digit n h)) (λ n ds h e. ap (λ l. l ++ (digit (n % 10) ∷ [])) e ∙ sym (decimal_more n h))

-- Rows

rows-one : (row : ℕ → List ℕ) (i : ℕ) → rows row (i + 1) ≡ rows row i ++ row i
rows-one row i = ap (flat_map row) (indices-more i) ∙ flat-more row (indices i) i

rows-within : (row : ℕ → List ℕ) (i n : ℕ) → i < n → length (rows row i) + length (row i) ≤ length (rows row n)
rows-within row i n h =
    let rest = flat_map row (from (i + 1) (n - (i + 1))) in
    let e : rows row n ≡ rows row (i + 1) ++ rest = ap (flat_map row) (indices-split (i + 1) n (omega arith)) ∙ flat_append row (indices (i + 1)) (from (i + 1) (n - (i + 1))) in
    omega (arith, ap length e, length-append (rows row (i + 1)) rest, ap length (rows-one row i), length-append (rows row i) (row i))

-- a front, and the rows of the first i indices after it
module _ (front : List ℕ) (row : ℕ → List ℕ) (p : Page) where
  pub rows_none : {q : Page} → Put front p q → Put (front ++ rows row 0) p q
  unfolding flat_map indices from
  rows_none f = rw append-nil f

  pub rows_room : (n i : ℕ) (q : Page) → Room (front ++ rows row n) p → Put (front ++ rows row i) p q → i < n → Room (row i) q
  rows_room n i q h f k = record { fits = omega (arith, h.fits, f.after, put_size f, rows-within row i n k, length-append front (rows row n), length-append front (rows row i)) }

  pub rows_more : (i : ℕ) {q r : Page} → Put (front ++ rows row i) p q → Put (row i) q r → Put (front ++ rows row (i + 1)) p r
  rows_more i f g = rw (rows-one row i, ← append_assoc) (put_next f g)

rows-shift : (row : ℕ → List ℕ) (i n : ℕ) → flat_map row (from (suc i) n) ≡ flat_map (λ k. row (suc k)) (from i n)
unfolding flat_map from
rows-shift row i zero = refl
rows-shift row i (suc n) = ap (λ l. row (suc i) ++ l) (rows-shift row (suc i) n)

-- a row for each index is a row for each entry
pub rows_are : {A : Type 0} (row : ℕ → List ℕ) (text : A → List ℕ) (l : List A) (d : A) → ((k : ℕ) → k < length l → row k ≡ text (get_or l k d)) → rows row (length l) ≡ flat_map text l
unfolding flat_map indices from
rows_are row text [] d e = refl
rows_are row text (x ∷ l) d e = ap₂ ◌++◌ (e 0 (omega arith)) (rows-shift row 0 (length l) ∙ rows_are (λ k. row (suc k)) text l d (λ k h. e (suc k) (omega arith)))

-- Ids

-- an id after a comma, by its index
abbrev pub comma_row : List ℕ → ℕ → List ℕ
comma_row ids k = code "," ∷ decimal (get_or ids k 0)

abbrev after_comma : ℕ → List ℕ
after_comma v = code "," ∷ decimal v

ids-commas : (v : ℕ) (vs : List ℕ) → ids_text (v ∷ vs) ≡ decimal v ++ flat_map after_comma vs
unfolding ids_text flat_map
ids-commas v [] = sym (append-nil (decimal v))
ids-commas v (w ∷ vs) = ap (λ l. decimal v ++ (code "," ∷ l)) (ids-commas w vs)

-- the ids are the first and the others, each after a comma
pub ids_parts : (ids : List ℕ) (v : ℕ) (vs : List ℕ) → ids ≡ v ∷ vs → ids_text ids ≡ decimal (get_or ids 0 0) ++ rows (comma_row vs) (length vs)
ids_parts ids v vs e = rw e (ids-commas v vs ∙ ap (λ l. decimal v ++ l) (sym (rows_are (comma_row vs) after_comma vs 0 (λ k h. refl))))

pub first_is : (ids : List ℕ) (v : ℕ) (vs : List ℕ) → ids ≡ v ∷ vs → get_or ids 0 0 ≡ v
first_is ids v vs e = ap (λ l. get_or l 0 0) e

pub ids_none : (ids : List ℕ) → length ids ≡ 0 → ids_text ids ≡ []
unfolding ids_text
ids_none [] e = refl
ids_none (v ∷ vs) e = absurd (omega arith)
