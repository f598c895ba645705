-- Which codes name a value: those below the number of values. Assumes nothing.
use mathlib.Core.List.{List, [], ◌∷◌}
use mathlib.Core.Path.{◌≡◌}
use Prim.Native.Nat.{ℕ, zero, suc, ◌<◌, ◌≤◌}
use native.Mathlib.Omega.{arith}
use lib.ListN.{length}
use Rattle.std.specs.Prelude.{Some, None}
use Rattle.rules.specs.Decoded.{named}

module _ {A : Type 0} where
  pub named_none : (values : List A) (code : ℕ) → named values code ≡ None → length values ≤ code
  named_none [] code h = omega arith
  named_none (v ∷ values) zero h = absurd (cc)
  named_none (v ∷ values) (suc code) h = omega (arith, named_none values code h)

  pub named-some : (values : List A) (code : ℕ) (x : A) → named values code ≡ Some x → code < length values
  named-some [] code x h = absurd (cc)
  named-some (v ∷ values) zero x h = omega arith
  named-some (v ∷ values) (suc code) x h = omega (arith, named-some values code x h)
