-- A list that is filled with 0 has no mark. Assumes nothing.
use mathlib.Core.List.{List}
use mathlib.Core.Path.{◌≡◌, ap, ◌∙◌}
use Prim.Native.Nat.{ℕ, ◌<◌}
use native.Mathlib.Decide.{dec_lt}
use native.Mathlib.Omega.{arith}
use lib.ListN.{get_or, replicate, length-replicate, get_or-replicate, get_or-eq_default}

-- no node is marked where every mark is 0
pub no-mark : (n v : ℕ) → get_or {A = ℕ} (replicate n 0) v 0 ≡ 0
no-mark n v = go (dec_lt v n)
  where
    go : Dec (v < n) → get_or {A = ℕ} (replicate n 0) v 0 ≡ 0
    go (yes h) = get_or-replicate n v 0 0 h
    go (no h) = get_or-eq_default (replicate n 0) 0 (omega (arith, h, length-replicate {A = ℕ} n 0))

pub no-marks : {s : List ℕ} (n : ℕ) → s ≡ replicate n 0 → (v : ℕ) → get_or s v 0 ≡ 0
no-marks n e v = ap (λ l. get_or l v 0) e ∙ no-mark n v
