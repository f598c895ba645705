-- What a list holds after new entries were written to its front. Assumes nothing.
use mathlib.Core.List.{List, [], ◌∷◌, ◌++◌, append_assoc}
use mathlib.Core.Path.{◌≡◌, sym, ap, ◌∙◌}
use Prim.Native.Nat.{ℕ, suc, ◌+◌, ◌≤◌, ◌<◌}
use native.Mathlib.Nat.{zero-add, add-zero}
use native.Mathlib.Omega.{arith}
use lib.ListN.{length, get_or, take, drop, set, length-append, length-drop, take-append-drop, get_or-append}
use lib.Seq.{length-take-le, drop-cons, set_at, take_at, drop_at, drop-drop}
use Rattle.rules.specs.Lists.{written_from, written}

module _ {A : Type 0} (old new : List A) where
  -- the new entries, then the old ones past them
  pub written-parts : written old new ≡ new ++ drop (length new) old
  unfolding written_from
  written-parts = rw zero-add

  -- the front is what was written there
  pub written-front : (n : ℕ) → length new ≡ n → take n (written old new) ≡ new
  written-front n h = ap (take n) written-parts ∙ take_at new (drop (length new) old) n h

  pub written_at : (k : ℕ) (d : A) → k < length new → get_or (written old new) k d ≡ get_or new k d
  written_at k d h = ap (λ l. get_or l k d) written-parts ∙ get_or-append new (drop (length new) old) d k h

  pub written-length : length new ≤ length (written old new)
  written-length = omega (arith, ap length written-parts, length-append new (drop (length new) old))

module _ {A : Type 0} where
  -- nothing is written yet
  pub from-none : (old : List A) (start : ℕ) → written_from start old [] ≡ old
  unfolding written_from
  from-none old start = rw (add-zero start) (take-append-drop start old)

  front_length : (old new : List A) (start : ℕ) → start ≤ length old → length (take start old ++ new) ≡ start + length new
  front_length old new start h = rw (length-append (take start old) new, length-take-le start old h)

  -- a list that is written to keeps its length
  pub from-length : (old new : List A) (start : ℕ) → start + length new ≤ length old → length (written_from start old new) ≡ length old
  unfolding written_from
  from-length old new start h = omega (
    arith,
    length-append (take start old) (new ++ drop (start + length new) old),
    length-append new (drop (start + length new) old),
    length-drop (start + length new) old,
    length-take-le start old (omega arith),
  )

  -- one entry more is written
  pub from_more : (old new : List A) (start : ℕ) (x : A) → start + length new < length old → set (written_from start old new) (start + length new) x ≡ written_from start old (new ++ (x ∷ []))
  unfolding written_from
  from_more old new start x h =
      let k : ℕ = start + length new in
      let longer : start + length (new ++ (x ∷ [])) ≡ suc k = omega (arith, length-append new (x ∷ [])) in
      ap (λ l. set (take start old ++ (new ++ l)) k x) (drop-cons old k x h)
      ∙ ap (λ l. set l k x) (sym (append_assoc (take start old) new (get_or old k x ∷ drop (suc k) old)))
      ∙ set_at (take start old ++ new) (get_or old k x) (drop (suc k) old) x k (front_length old new start (omega arith))
      ∙ append_assoc (take start old) new (x ∷ drop (suc k) old)
      ∙ ap (λ l. take start old ++ l) (sym (append_assoc new (x ∷ []) (drop (suc k) old)))
      ∙ ap (λ j. take start old ++ ((new ++ (x ∷ [])) ++ drop j old)) (sym longer)

  -- one row after another
  pub from-twice : (old a b : List A) (start : ℕ) → start ≤ length old → written_from (start + length a) (written_from start old a) b ≡ written_from start old (a ++ b)
  unfolding written_from
  from-twice old a b start h =
      let k : ℕ = start + length a in
      let p : List A = take start old ++ a in
      let split : take start old ++ (a ++ drop k old) ≡ p ++ drop k old = sym (append_assoc (take start old) a (drop k old)) in
      let len : length p ≡ k = front_length old a start h in
      let sum : start + length (a ++ b) ≡ k + length b = omega (arith, length-append a b) in
      ap (λ l. take k l ++ (b ++ drop (k + length b) l)) split
      ∙ ap (λ l. l ++ (b ++ drop (k + length b) (p ++ drop k old))) (take_at p (drop k old) k len)
      ∙ ap (λ l. p ++ (b ++ l)) (sym (drop-drop (length b) k (p ++ drop k old)) ∙ ap (drop (length b)) (drop_at p (drop k old) k len) ∙ drop-drop (length b) k old)
      ∙ append_assoc (take start old) a (b ++ drop (k + length b) old)
      ∙ ap (λ l. take start old ++ l) (sym (append_assoc a b (drop (k + length b) old)))
      ∙ ap (λ j. take start old ++ ((a ++ b) ++ drop j old)) (sym sum)

  -- the same from the front
  pub written_none : (old : List A) → written old [] ≡ old
  written_none old = from-none old 0

  pub written-more : (old new : List A) (x : A) → length new < length old → written old (new ++ (x ∷ [])) ≡ set (written old new) (length new) x
  written-more old new x h = let e : 0 + length new ≡ length new = omega arith in sym (rw e at (from_more old new 0 x (omega arith)))
