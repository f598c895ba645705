-- The kind table as the code reads it. Assumes nothing.
use mathlib.Core.Bool.{true, false, ◌&&◌}
use mathlib.Core.Path.{◌≡◌, refl, ap, ◌∙◌}
use Prim.Native.Nat.{ℕ, zero, suc}
use native.Mathlib.Omega.{arith}
use borrow.Author.Tests.{le-leb}
use Rattle.std.proofs.lemmas.Bool.{lt-leb}
use lib.Dec.{leb}
use Rattle.rules.specs.Kinds.{kind_row, delay_by, component_delay, is_device}
use Rattle.rules.specs.declared.kinds.KindRow.{KindRow}
use Rattle.rules.specs.declared.kinds.TemporalSemantics.{TemporalSemantics}
use Rattle.std.specs.Prelude.{Some, None}

-- the delay by the row of a code
pub delay-of-row : (row : KindRow) (code word r : ℕ) → row ≡ kind_row code → r ≡ delay_by row.delay word → r ≡ component_delay code word
unfolding component_delay
delay-of-row row code word r e q = q ∙ ap (λ (k : KindRow). delay_by k.delay word) e

-- the devices by their codes
pub device_range : (code : ℕ) → is_device (kind_row code) ≡ leb 9 code && leb code 12
unfolding kind_row is_device
device_range zero = refl
device_range (suc zero) = refl
device_range (suc (suc zero)) = refl
device_range (suc (suc (suc zero))) = refl
device_range (suc (suc (suc (suc zero)))) = refl
device_range (suc (suc (suc (suc (suc zero))))) = refl
device_range (suc (suc (suc (suc (suc (suc zero)))))) = refl
device_range (suc (suc (suc (suc (suc (suc (suc zero))))))) = refl
device_range (suc (suc (suc (suc (suc (suc (suc (suc zero)))))))) = refl
device_range (suc (suc (suc (suc (suc (suc (suc (suc (suc zero))))))))) = refl
device_range (suc (suc (suc (suc (suc (suc (suc (suc (suc (suc zero)))))))))) = refl
device_range (suc (suc (suc (suc (suc (suc (suc (suc (suc (suc (suc zero))))))))))) = refl
device_range (suc (suc (suc (suc (suc (suc (suc (suc (suc (suc (suc (suc zero)))))))))))) = refl
device_range (suc (suc (suc (suc (suc (suc (suc (suc (suc (suc (suc (suc (suc code))))))))))))) =
    let n : ℕ = suc (suc (suc (suc (suc (suc (suc (suc (suc (suc (suc (suc (suc code)))))))))))) in
    rw (le-leb 9 n (omega arith), lt-leb n 12 (omega arith))

-- a device is a kind that means something as one
pub no-device : (code : ℕ) → (kind_row code).meaning ≡ None → false ≡ is_device (kind_row code)
unfolding is_device
no-device code e = rw e

pub some-device : (code : ℕ) (s : TemporalSemantics) → (kind_row code).meaning ≡ Some s → true ≡ is_device (kind_row code)
unfolding is_device
some-device code s e = rw e
