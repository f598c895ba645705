-- Entries of a list written one after the other at the indices that pass a test. Assumes nothing.
use mathlib.Core.Bool.{Bool, true, false, cond}
use mathlib.Core.List.{List, [], ◌∷◌, ◌++◌, append-nil}
use mathlib.Core.Path.{◌≡◌, refl, sym, ap, ◌∙◌}
use Prim.Native.Nat.{ℕ, ◌+◌, ◌<◌, ◌≤◌}
use native.Mathlib.Omega.{arith}
use lib.ListN.{length, set, length-append, length-set}
use Rattle.rules.specs.Lists.{written}
use Rattle.rules.proofs.Written.{written_none, written-more}

-- `row` gives the entries of the indices before one
module _ {A : Type 0} (row : ℕ → List A) (old : List A) where
  -- the list and its count once the indices before i are gone through
  pub record KeptBelow (i : ℕ) (now : List A) (count : ℕ) : Type 0 where
    pub content : now ≡ written old (row i)
    pub counted : count ≡ length (row i)
    pub few : count ≤ i
    pub size : length now ≡ length old

  pub kept-none : row 0 ≡ [] → KeptBelow 0 old 0
  kept-none e = record { content = sym (ap (written old) e ∙ written_none old); counted = sym (ap length e); few = omega arith; size = refl }

  -- the entry x is kept, or it is not
  module _ (i count : ℕ) (now : List A) (x : A) (h : i < length old) (was : KeptBelow i now count) where
    pub kept_more : (b : Bool) → row (i + 1) ≡ row i ++ cond b (x ∷ []) [] → KeptBelow (i + 1) (cond b (set now count x) now) (cond b (count + 1) count)
    kept_more true e = record {
      content = rw (e, was.content, was.counted) (sym (written-more old (row i) x (omega (arith, was.counted, was.few))));
      counted = rw e (omega (arith, was.counted, length-append (row i) (x ∷ [])));
      few = omega (arith, was.few);
      size = length-set now count x ∙ was.size;
    }
    kept_more false e = record { content = rw (e, append-nil) was.content; counted = rw (e, append-nil) was.counted; few = omega (arith, was.few); size = was.size }
