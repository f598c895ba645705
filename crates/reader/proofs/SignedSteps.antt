-- A number after a minus, as its bits. Assumes nothing.
use Rattle.std.proofs.Common.{◌≡◌, ℕ, zero, suc, ◌+◌, ◌≤◌, refl, ap, ◌∙◌, arith, pos, ◌-ℤ◌, FitsSigned, w32, to_z, of_z}
use Rattle.std.proofs.Math.IntN.{negsuc}
use mir.ValLaws.{to_z_pos, to_z-of_z}

minus_one : (k : ℕ) → negsuc 0 -ℤ pos k ≡ negsuc k
minus_one zero = refl
minus_one (suc k) = let e : 0 + k ≡ k = omega arith in ap (λ n. negsuc (suc n)) e

pub pos_fits : (n : ℕ) → n ≤ 2147483647 → FitsSigned w32 (pos n)
pos_fits n h = record { sfits = omega arith }

pub negated_is : (k : ℕ) → k ≤ 2147483647 → to_z w32 (of_z w32 (negsuc 0 -ℤ to_z w32 k)) ≡ negsuc k
negated_is k h =
    let less : negsuc 0 -ℤ to_z w32 k ≡ negsuc k = ap (λ z. negsuc 0 -ℤ z) (to_z_pos w32 k (omega arith)) ∙ minus_one k in
    let fits : FitsSigned w32 (negsuc k) = record { sfits = omega arith } in
    ap (λ z. to_z w32 (of_z w32 z)) less ∙ to_z-of_z w32 (negsuc k) fits

pub plain_is : (n : ℕ) → n ≤ 2147483647 → to_z w32 n ≡ pos n
plain_is n h = to_z_pos w32 n (omega arith)
