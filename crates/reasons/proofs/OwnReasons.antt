-- A component's own reason, by its block kind. Assumes nothing.
use mathlib.Core.Bool.{cond}
use mathlib.Core.List.{List, [], ◌∷◌}
use mathlib.Core.Path.{◌≡◌, refl, ap, ◌∙◌}
use Prim.Native.Nat.{ℕ, zero, suc}
use native.Mathlib.Omega.{arith}
use borrow.Author.Tests.{ne_eqb}
use lib.Dec.{eqb}
use Rattle.std.specs.Prelude.{Option, Some, Result, Ok, Err}
use Rattle.std.specs.Result.{result_ok}
use Rattle.rules.specs.Decoded.{named, block_kinds, ReadsKind}
use Rattle.rules.specs.Reasons.{Reason, stateful_or_mechanical_device, locked_repeater, own_reason}
use Rattle.rules.specs.declared.kinds.UnknownCode.{UnknownCode}
use Rattle.rules.specs.declared.kinds.BlockKind.{BlockKind}
use Rattle.rules.specs.declared.kinds.BlockKind.TheVariants.{Repeater, Comparator, Piston}
use Rattle.reasons.specs.Rows.{plain}

module _ (id kind locked : ℕ) where
  abbrev by_block : Option BlockKind → List Reason
  by_block (Some Comparator) = stateful_or_mechanical_device id kind ∷ []
  by_block (Some Piston) = stateful_or_mechanical_device id kind ∷ []
  by_block (Some Repeater) = cond (eqb locked 1) (locked_repeater id ∷ []) []
  by_block _ = []

own-by_block : (id kind locked : ℕ) → own_reason (plain id kind locked) ≡ by_block id kind locked (named block_kinds kind)
unfolding own_reason
own-by_block id zero locked = refl
own-by_block id (suc zero) locked = refl
own-by_block id (suc (suc zero)) locked = refl
own-by_block id (suc (suc (suc zero))) locked = refl
own-by_block id (suc (suc (suc (suc zero)))) locked = refl
own-by_block id (suc (suc (suc (suc (suc zero))))) locked = refl
own-by_block id (suc (suc (suc (suc (suc (suc zero)))))) locked = refl
own-by_block id (suc (suc (suc (suc (suc (suc (suc zero))))))) locked = refl
own-by_block id (suc (suc (suc (suc (suc (suc (suc (suc zero)))))))) locked = refl
own-by_block id (suc (suc (suc (suc (suc (suc (suc (suc (suc zero))))))))) locked = refl
own-by_block id (suc (suc (suc (suc (suc (suc (suc (suc (suc (suc zero)))))))))) locked = refl
own-by_block id (suc (suc (suc (suc (suc (suc (suc (suc (suc (suc (suc zero))))))))))) locked = refl
own-by_block id (suc (suc (suc (suc (suc (suc (suc (suc (suc (suc (suc (suc zero)))))))))))) locked = refl
own-by_block id (suc (suc (suc (suc (suc (suc (suc (suc (suc (suc (suc (suc (suc kind))))))))))))) locked =
    let n : ℕ = suc (suc (suc (suc (suc (suc (suc (suc (suc (suc (suc (suc (suc kind)))))))))))) in
    rw (ne_eqb n 11 (omega arith), ne_eqb n 12 (omega arith), ne_eqb n 10 (omega arith))

pub own-read : (id kind locked : ℕ) (r : Result BlockKind UnknownCode) → ReadsKind kind r → own_reason (plain id kind locked) ≡ by_block id kind locked (result_ok r)
own-read id kind locked (Ok block) e = own-by_block id kind locked ∙ ap (by_block id kind locked) e
own-read id kind locked (Err x) e = own-by_block id kind locked ∙ ap (by_block id kind locked) e
