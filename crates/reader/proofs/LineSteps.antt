-- The first line of a text, cut at its line feed, and its name. Assumes nothing.
use Rattle.std.proofs.Common.{◌≡◌, ℕ, suc, ◌+◌, ◌-◌, ◌<◌, Bool, Option, get_or, true, false, cond, ◌&&◌, ◌||◌, not, List, [], ◌∷◌, Some, None, nat_lt, eqb, length, take, drop, position, refl, sym, ap, ◌∙◌, add-one, arith}
use Rattle.std.specs.Cmp.Lexicographic.{pointwise}
use Rattle.std.specs.List.{position_or_len}
use Rattle.rules.specs.Lists.{any}
use Rattle.rules.specs.Text.{line_feed, has_line, line_of, after_line, starts_with}
use Rattle.reader.specs.Lines.{has_name, FoundLine}
use Rattle.std.proofs.lemmas.Bool.{ltb-true}
use Rattle.std.proofs.lemmas.Bool.Decides.{nat_tests}
use Rattle.std.proofs.Math.ListN.{length-take, length-drop}
use Rattle.std.proofs.lemmas.List.Sums.{position_or_len_is}
use Rattle.memchr.specs.Find.{IsFirstByte, is_byte}
use Rattle.std.proofs.Math.Seq.{take_all}

-- how many bytes stand before the first line feed
abbrev pub first_feed : List ℕ → ℕ
first_feed bs = position_or_len (eqb line_feed) bs

one_more : (n : ℕ) → suc n ≡ 1 + n
one_more n = omega arith

has_line-cut : (bs : List ℕ) → has_line bs ≡ nat_lt (first_feed bs) (length bs)
unfolding any
has_line-cut [] = refl
has_line-cut (b ∷ bs) = go (eqb line_feed b) (has_line-cut bs)
  where
    go : (t : Bool) → has_line bs ≡ nat_lt (first_feed bs) (length bs) → (t || has_line bs) ≡ nat_lt (cond (not t) (1 + first_feed bs) 0) (length (b ∷ bs))
    go true e = let k = length bs in let none_before : true ≡ nat_lt 0 (suc k) = grind (arith, nat_tests) in none_before
    go false e = let n = first_feed bs in let k = length bs in let more : nat_lt n k ≡ nat_lt (1 + n) (suc k) = grind (arith, nat_tests) in e ∙ more

line_of-cut : (bs : List ℕ) → line_of bs ≡ take (first_feed bs) bs
unfolding line_of
line_of-cut [] = refl
line_of-cut (b ∷ bs) = go (eqb line_feed b) (line_of-cut bs)
  where
    go : (t : Bool) → line_of bs ≡ take (first_feed bs) bs → cond t [] (b ∷ line_of bs) ≡ take (cond (not t) (1 + first_feed bs) 0) (b ∷ bs)
    go true e = refl
    go false e = ap (λ l. b ∷ l) e ∙ ap (λ n. take n (b ∷ bs)) (one_more (first_feed bs))

after_line-cut : (bs : List ℕ) → after_line bs ≡ drop (suc (first_feed bs)) bs
unfolding after_line
after_line-cut [] = refl
after_line-cut (b ∷ bs) = go (eqb line_feed b) (after_line-cut bs)
  where
    go : (t : Bool) → after_line bs ≡ drop (suc (first_feed bs)) bs → cond t bs (after_line bs) ≡ drop (suc (cond (not t) (1 + first_feed bs) 0)) (b ∷ bs)
    go true e = refl
    go false e = e ∙ ap (λ n. drop n bs) (one_more (first_feed bs))

-- a name is compared byte by byte
compared : (name line : List ℕ) → pointwise eqb (take (length name) line) name ≡ starts_with name line
unfolding starts_with
compared [] line = refl
compared (n ∷ name) [] = refl
compared (n ∷ name) (b ∷ line) = let e = compared name line in let s : eqb b n ≡ eqb n b = grind arith in cc

-- The first byte that is a line feed is at the first place that has one

-- a byte is a line feed or not
fed : (b : ℕ) → is_byte line_feed b ≡ eqb line_feed b
fed b = grind arith

unfed : (b : ℕ) (t : Bool) → eqb line_feed b ≡ t → (is_byte line_feed b ≡ true → ⊥) → t ≡ false
unfed b true e n = absurd (n (fed b ∙ e))
unfed b false e n = refl

pub first_byte : (text : List ℕ) (r : Option ℕ) → IsFirstByte (is_byte line_feed) text r → r ≡ position (eqb line_feed) text
first_byte text None h =
    let none : first_feed text ≡ length text = position_or_len_is (eqb line_feed) text (length text) 0 (omega arith) (λ k b. unfed (get_or text k 0) _ refl (h k (omega arith) b)) (λ b. absurd (omega arith)) in
    let out : nat_lt (first_feed text) (length text) ≡ false = grind (arith, none) in
    rw out refl
first_byte text (Some k) (before, here) =
    let is : first_feed text ≡ k = position_or_len_is (eqb line_feed) text k 0 (omega (arith, before.high)) (λ j b. unfed (get_or text j 0) _ refl (before.before j (omega arith) b)) (λ b. sym (fed (get_or text k 0)) ∙ here) in
    let inside : nat_lt (first_feed text) (length text) ≡ true = grind (arith, is, before.high) in
    rw (inside, is) refl

-- The line that is found

module _ (text name : List ℕ) where
  pub line_missing : None ≡ position (eqb line_feed) text → has_name name text ≡ false
  line_missing e = go (has_line text) (has_line-cut text) e
    where
      go : (t : Bool) → t ≡ nat_lt (first_feed text) (length text) → None ≡ position (eqb line_feed) text → (t && starts_with name (line_of text)) ≡ false
      go true f h = let g : None ≡ Some (first_feed text) = h ∙ ap (λ t. cond t (Some (first_feed text)) None) (sym f) in cc
      go false f h = refl

  module _ (end : ℕ) (e : Some end ≡ position (eqb line_feed) text) where
    found : (has_line text ≡ true) × (end ≡ first_feed text)
    found = go (has_line text) (has_line-cut text) e
      where
        go : (t : Bool) → t ≡ nat_lt (first_feed text) (length text) → Some end ≡ position (eqb line_feed) text → (t ≡ true) × (end ≡ first_feed text)
        go true f h = let g : Some end ≡ Some (first_feed text) = h ∙ ap (λ t. cond t (Some (first_feed text)) None) (sym f) in (refl, cc)
        go false f h = let g : Some end ≡ None = h ∙ ap (λ t. cond t (Some (first_feed text)) None) (sym f) in cc

    pub line_other : pointwise eqb (take (length name) (take end text)) name ≡ false → has_name name text ≡ false
    line_other h =
        let f = found in
        rw (f.0, line_of-cut text, sym f.1, sym (compared name (take end text))) h

    pub line_found : (value : List ℕ) → pointwise eqb (take (length name) (take end text)) name ≡ true → value ≡ drop (length name) (take end text) → length value + length name ≡ length (take end text)
        → FoundLine text name value (take (length text - (end + 1)) (drop (end + 1) text))
    line_found value h v n =
        let f = found in
        let inside : end < length text = omega (arith, f.1, ltb-true (first_feed text) (length text) (sym (has_line-cut text) ∙ f.0)) in
        let rest = drop (end + 1) text in
        let whole : take (length text - (end + 1)) rest ≡ rest = take_all (length text - (end + 1)) rest (omega (arith, length-drop (end + 1) text)) in
        record {
          named = rw (f.0, line_of-cut text, sym f.1, sym (compared name (take end text))) h;
          value_is = v ∙ ap (λ n. drop (length name) (take n text)) f.1 ∙ ap (drop (length name)) (sym (line_of-cut text));
          rest_is = whole ∙ ap (λ n. drop n text) (add-one end ∙ ap suc f.1) ∙ sym (after_line-cut text);
          amount = omega (arith, n, length-take end text, ap length whole, length-drop (end + 1) text);
        }
