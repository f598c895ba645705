-- Words about lists that the rules are written with. Assumes nothing: these are definitions.
use Rattle.std.specs.Prelude.{Bool, true, false, not, cond, ◌&&◌, ◌||◌, ℕ, zero, suc, ◌+◌, leb, eqb, length, take, drop}
use mathlib.Core.List.{List, [], ◌∷◌, ◌++◌, flat_map, Memᴰ}

module _ {A : Type 0} where
  -- something is listed
  abbrev pub not_empty : List A → Bool
  not_empty [] = false
  not_empty (x ∷ xs) = true

  -- some entry passes the test
  unfoldable pub any : (A → Bool) → List A → Bool
  any f [] = false
  any f (x ∷ xs) = let r = any f xs in f x || r

  -- every entry passes the test
  unfoldable pub every : (A → Bool) → List A → Bool
  every f [] = true
  every f (x ∷ xs) = let r = every f xs in f x && r

  -- the entries that pass the test, in order
  unfoldable pub keep : (A → Bool) → List A → List A
  keep f [] = []
  keep f (x ∷ xs) = let r = keep f xs in cond (f x) (x ∷ r) r

  -- how many entries pass the test
  unfoldable pub count : (A → Bool) → List A → ℕ
  count f [] = 0
  count f (x ∷ xs) = let r = count f xs in cond (f x) (suc r) r

  -- no entry stands twice
  abbrev pub Distinct : List A → Type 0
  Distinct [] = Unit {0}
  Distinct (x ∷ xs) = (Memᴰ x xs → ⊥) × Distinct xs

  -- a lent list after new entries were written to it from a place on: the others keep their values
  unfoldable pub written_from : ℕ → List A → List A → List A
  written_from start old new = take start old ++ (new ++ drop (start + length new) old)

  -- "Entries past those used keep their values."
  abbrev pub written : List A → List A → List A
  written old new = written_from 0 old new

-- n numbers that rise by one
unfoldable pub from : ℕ → ℕ → List ℕ
from i zero = []
from i (suc n) = i ∷ from (suc i) n

-- the indices of a list of n entries
unfoldable pub indices : ℕ → List ℕ
indices n = from 0 n

-- what is said of each of n indices, one after the other
module _ {A : Type 0} where
  abbrev pub rows : (ℕ → List A) → ℕ → List A
  rows row n = flat_map row (indices n)

-- a number put in before the first that is not smaller
unfoldable pub insert : ℕ → List ℕ → List ℕ
insert x [] = x ∷ []
insert x (y ∷ ys) = let r = insert x ys in cond (leb x y) (x ∷ y ∷ ys) (y ∷ r)

-- numbers in rising order
unfoldable pub rising : List ℕ → List ℕ
rising [] = []
rising (x ∷ xs) = insert x (rising xs)

-- each number of the list once, in its first place
unfoldable pub once : List ℕ → List ℕ
once [] = []
once (x ∷ xs) = let r = once xs in x ∷ keep (λ y. not (eqb y x)) r

-- the sum, in whole numbers that don't wrap
unfoldable pub sum : List ℕ → ℕ
sum [] = 0
sum (x ∷ xs) = x + sum xs
