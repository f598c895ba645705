-- Lengths gone through in order. Assumes nothing.
use mathlib.Core.Bool.{Bool, not}
use mathlib.Core.List.{List, [], ◌∷◌}
use mathlib.Core.Path.{◌≡◌, refl, ◌∙◌}
use Prim.Native.Nat.{ℕ, ◌≤◌, min}
use native.Mathlib.Omega.{arith}
use lib.Dec.{eqb}
use lib.ListN.{length, get_or, drop}
use Rattle.std.specs.List.{list_any, fold, reduce}
use Rattle.std.specs.Option.{unwrap_or, option_map}
use Rattle.std.specs.Prelude.{Option, Some, None}
use Rattle.rules.specs.Lists.{any}
use Rattle.rules.specs.Refusals.{lengths_differ, shortest}

any-listed : (test : ℕ → Bool) (l : List ℕ) → list_any test l ≡ any test l
unfolding any
any-listed test [] = refl
any-listed test (x ∷ l) = rw (any-listed test l) refl

pub differ_from_any : (l : List ℕ) → 1 ≤ length l → list_any (λ m. not (eqb m (get_or l 0 0))) (drop 1 l) ≡ lengths_differ l
differ_from_any [] h = absurd (omega arith)
differ_from_any (n ∷ ns) h = any-listed (λ m. not (eqb m n)) ns

two : (n m : ℕ) (l : List ℕ) → shortest (min n m ∷ l) ≡ shortest (n ∷ m ∷ l)
two n m [] = refl
two n m (k ∷ l) = omega arith

-- the least of some numbers, taken from the first on, is the shortest length
least : (n : ℕ) (l : List ℕ) → fold min n l ≡ shortest (n ∷ l)
least n [] = refl
least n (m ∷ l) = least (min n m) l ∙ two n m l

pub shortest_from_min : (l : List ℕ) (r : Option ℕ) {k : ℕ} → option_map (λ x. x) r ≡ reduce min l → k ≡ unwrap_or r 0 → k ≡ shortest l
shortest_from_min [] None e u = u
shortest_from_min (n ∷ l) None e u = cc
shortest_from_min [] (Some x) e u = cc
shortest_from_min (n ∷ l) (Some x) e u = cc (least n l)
