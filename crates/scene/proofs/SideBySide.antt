-- Three lists that are gone through side by side, with the place of each row. Assumes nothing.
use mathlib.Core.List.{List}
use mathlib.Core.Path.{◌≡◌, ap, ◌∙◌}
use Prim.Native.Nat.{ℕ, ◌<◌}
use native.Mathlib.Omega.{arith}
use denote.Ref.{Bor}
use lib.ListN.{length, get_or}
use Rattle.std.specs.Prelude.{Option, Some, None}
use Rattle.std.specs.declared.iter.Enumerate.{Enumerate}
use Rattle.std.specs.declared.iter.Zip.{Zip}
use Rattle.std.specs.declared.slice.Iter.{Iter}
use Rattle.std.specs.Iterator.{Yields}
use Rattle.std.specs.Iterator.Adapters.{zip_first, zip_second, enumerate_source, enumerate_count, enumerate_steps}
use Rattle.std.specs.List.{zip, enumerate_from}
use Rattle.std.specs.Slice.Iter.{iter_rest}
use Rattle.std.proofs.iter.Yields.{fronts}
use Rattle.std.proofs.lemmas.Grind.{get_or_default_zero}
use Rattle.std.proofs.lemmas.Iterator.{zips, YieldsList, YieldsList-from_slice, YieldsList-from_zip}
use Rattle.std.proofs.lemmas.Iterator.Consumers.{YieldsList-turn, YieldsList-end, YieldsList-from_enumerate}
use Rattle.std.proofs.lemmas.List.FromFn.{length-enumerate_from, get_or-enumerate_from}
use Rattle.std.proofs.lemmas.Slice.Zip.{length-zip, get_or-zip}

abbrev pub ThreeRows : Type 0
ThreeRows = Enumerate (Zip (Zip (Iter ℕ) (Iter ℕ)) (Iter ℕ))

module _ (xs ys zs : List ℕ) (ys_length : length ys ≡ length xs) (zs_length : length zs ≡ length xs) (s : ThreeRows)
    (first : iter_rest (zip_first (zip_first (enumerate_source s))) ≡ xs) (second : iter_rest (zip_second (zip_first (enumerate_source s))) ≡ ys) (third : iter_rest (zip_second (enumerate_source s)) ≡ zs)
    (start : enumerate_count s ≡ 0) where
  all : YieldsList {B = ℕ × ((ℕ × ℕ) × ℕ)} (enumerate_steps (zips (zips fronts fronts) fronts)) (λ p. (p.0, ((p.1.0.0.now, p.1.0.1.now), p.1.1.now))) s (enumerate_from 0 (zip (zip xs ys) zs))
  all = YieldsList-from_enumerate (YieldsList-from_zip (YieldsList-from_zip (YieldsList-from_slice xs first) (YieldsList-from_slice ys second)) (YieldsList-from_slice zs third)) start

  pairs : length (zip xs ys) ≡ length xs
  pairs = omega (arith, length-zip xs ys)

  triples : length (zip (zip xs ys) zs) ≡ length xs
  triples = omega (arith, length-zip (zip xs ys) zs, pairs)

  module _ (yielded : List (ℕ × ((Bor ℕ × Bor ℕ) × Bor ℕ))) (t : ThreeRows) (so_far : Yields (enumerate_steps (zips (zips fronts fronts) fronts)) s yielded t)
      (r : Option (ℕ × ((Bor ℕ × Bor ℕ) × Bor ℕ))) (u : ThreeRows) (step : enumerate_steps (zips (zips fronts fronts) fronts) t r u) where
    -- the row at the place that follows those gone through
    pub row-turn : (j : ℕ) (x y z : Bor ℕ) → r ≡ Some (j, ((x, y), z)) → (j < length xs) × (j ≡ length yielded) × (x.now ≡ get_or xs j 0) × (y.now ≡ get_or ys j 0) × (z.now ≡ get_or zs j 0)
    row-turn j x y z is =
        let k : ℕ = length yielded in
        let turn = YieldsList-turn all yielded t so_far r u (j, ((x, y), z)) is step in
        let size = length-enumerate_from 0 (zip (zip xs ys) zs) in
        let inside : k < length xs = omega (arith, turn.0, size, triples) in
        let e = turn.1 ∙ get_or-enumerate_from 0 (zip (zip xs ys) zs) k (j, ((x.now, y.now), z.now)) (omega (arith, triples)) in
        let n : j ≡ k = omega (arith, ap (λ p. p.0) e) in
        let f = ap (λ p. p.1) e ∙ get_or-zip (zip xs ys) zs k ((x.now, y.now), z.now) (omega (arith, pairs)) (omega arith) in
        let g = ap (λ p. p.0) f ∙ get_or-zip xs ys k (x.now, y.now) inside (omega arith) in (
          omega arith,
          n,
          rw n (ap (λ p. p.0) g ∙ get_or_default_zero xs k x.now inside),
          rw n (ap (λ p. p.1) g ∙ get_or_default_zero ys k y.now (omega arith)),
          rw n (ap (λ p. p.1) f ∙ get_or_default_zero zs k z.now (omega arith)),
        )

    -- where there is no row more, all are gone through
    pub rows-end : r ≡ None → length yielded ≡ length xs
    rows-end is =
        let done = YieldsList-end all yielded t so_far r u is step in
        omega (arith, done.1, length-enumerate_from 0 (zip (zip xs ys) zs), triples)
