-- Three lists gone through side by side by a `for`. Assumes nothing.
use mathlib.Core.List.{List}
use mathlib.Core.Path.{◌≡◌, ap, ◌∙◌}
use Prim.Native.Nat.{ℕ, ◌<◌, ◌≤◌}
use native.Mathlib.Omega.{arith}
use denote.Ref.{Bor}
use lib.ListN.{length, get_or}
use Rattle.std.specs.Iterator.{Yields}
use Rattle.std.specs.Iterator.Adapters.{zip_first, zip_second}
use Rattle.std.specs.List.{zip}
use Rattle.std.specs.Prelude.{Option, Some}
use Rattle.std.specs.Slice.Iter.{iter_rest}
use Rattle.std.specs.declared.iter.Zip.{Zip}
use Rattle.std.specs.declared.slice.Iter.{Iter}
use Rattle.std.proofs.iter.Yields.{fronts}
use Rattle.std.proofs.lemmas.Grind.{get_or_default_zero}
use Rattle.std.proofs.lemmas.Iterator.{YieldsList, YieldsList-from_slice, YieldsList-from_zip, zips}
use Rattle.std.proofs.lemmas.Iterator.Consumers.{YieldsList-turn}
use Rattle.std.proofs.lemmas.Slice.Zip.{length-zip, get_or-zip}

abbrev Three : Type 0
Three = Zip (Zip (Iter ℕ) (Iter ℕ)) (Iter ℕ)

abbrev Item : Type 0
Item = (Bor ℕ × Bor ℕ) × Bor ℕ

abbrev steps : Three → Option Item → Three → Type 0
steps = zips (zips fronts fronts) fronts

module _ (l m n : List ℕ) (same : length m ≡ length l) (room : length l ≤ length n) (s t u : Three)
    (first : iter_rest (zip_first (zip_first s)) ≡ l) (second : iter_rest (zip_second (zip_first s)) ≡ m) (third : iter_rest (zip_second s) ≡ n) where
  listed : YieldsList steps (λ p. ((p.0.0.now, p.0.1.now), p.1.now)) s (zip (zip l m) n)
  listed = YieldsList-from_zip (YieldsList-from_zip (YieldsList-from_slice l first) (YieldsList-from_slice m second)) (YieldsList-from_slice n third)

  -- where the entries of this turn stand
  pub turn : (xs : List Item) → Yields steps s xs t → (r : Option Item) (p : Item) → r ≡ Some p → steps t r u
      → (length xs < length l) × (p.0.0.now ≡ get_or l (length xs) 0) × (p.0.1.now ≡ get_or m (length xs) 0) × (p.1.now ≡ get_or n (length xs) 0)
  turn xs y r p e h =
      let k = YieldsList-turn listed xs t y r u p e h in
      let i = length xs in
      let d : (ℕ × ℕ) × ℕ = ((p.0.0.now, p.0.1.now), p.1.now) in
      let a : i < length l = omega (arith, k.0, length-zip (zip l m) n, length-zip l m) in
      let q = k.1 ∙ get_or-zip (zip l m) n i d (omega (arith, length-zip l m)) (omega arith) in
      let o = ap (λ x. x.0) q ∙ get_or-zip l m i d.0 a (omega arith) in (
        a,
        ap (λ x. x.0) o ∙ get_or_default_zero l i _ a,
        ap (λ x. x.1) o ∙ get_or_default_zero m i _ (omega arith),
        ap (λ x. x.1) q ∙ get_or_default_zero n i _ (omega arith),
      )
