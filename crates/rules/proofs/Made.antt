-- Entries made by index and written one after the other. Assumes nothing.
use mathlib.Core.List.{List, [], ◌∷◌, map, map-append, map-map}
use mathlib.Core.Path.{◌≡◌, refl, sym, ap, ◌∙◌}
use Prim.Native.Nat.{ℕ, ◌+◌, ◌<◌}
use native.Mathlib.Omega.{arith}
use lib.ListN.{length, get_or, set, length-set}
use Rattle.rules.specs.Lists.{from, indices, written_from}
use Rattle.rules.proofs.Indices.{indices-more, made-length, by_index}
use Rattle.rules.proofs.Written.{from-none, from_more}

-- the entries of the first k indices are written, from a place on
pub record Made {A : Type 0} (f : ℕ → A) (start : ℕ) (old now : List A) (k : ℕ) : Type 0 where
  pub content : now ≡ written_from start old (map f (indices k))
  pub size : length now ≡ length old

module _ {A : Type 0} (f : ℕ → A) (start : ℕ) (old : List A) where
  pub made_none : Made f start old old 0
  unfolding indices from
  made_none = record { content = sym (from-none old start); size = refl }

  pub made_more : (k place : ℕ) (now : List A) (x : A) → place ≡ start + k → place < length old → x ≡ f k → Made f start old now k → Made f start old (set now place x) (k + 1)
  made_more k place now x p h q m = record {
    content =
        let n : place ≡ start + length (map f (indices k)) = omega (arith, made-length f k) in
        rw (m.content, q, n, indices-more k, map-append f (indices k) (k ∷ [])) (from_more old (map f (indices k)) start (f k) (omega arith));
    size = length-set now place x ∙ m.size;
  }

-- what each entry of a list gives, made by index
pub made-map : {A B : Type 0} (f : A → B) (l : List A) (d : A) → map (λ k. f (get_or l k d)) (indices (length l)) ≡ map f l
made-map f l d = sym (ap (map f) (by_index l d) ∙ map-map f (λ k. get_or l k d) (indices (length l)))

pub made_all : {A B : Type 0} (f : A → B) (l : List A) (d : A) (start : ℕ) (old now : List B) (k : ℕ) → k ≡ length l → Made (λ j. f (get_or l j d)) start old now k → now ≡ written_from start old (map f l)
made_all f l d start old now k e m = m.content ∙ ap (λ n. written_from start old (map (λ j. f (get_or l j d)) (indices n))) e ∙ ap (written_from start old) (made-map f l d)
