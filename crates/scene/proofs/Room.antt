-- The tests of the output lists, step by step. Assumes nothing.
use mathlib.Core.Bool.{false}
use mathlib.Core.List.{List, [], ◌∷◌}
use mathlib.Core.Logic.{◌⊎◌, inl, inr, ⊎_elim}
use mathlib.Core.Path.{◌≡◌, refl, sym, ap, ◌∙◌}
use Prim.Native.Nat.{ℕ, suc, ◌+◌, ◌-◌, ◌*◌, ◌<◌, ◌≤◌, min}
use native.Mathlib.Omega.{arith}
use denote.Ref.{Bor}
use lib.Dec.{T, ltb, lt→ltb}
use lib.ListN.{length, get_or, drop, get_or-eq_default, drop_of_length-le}
use lib.Seq.{drop-cons}
use Rattle.std.specs.Prelude.{Option, Some, None}
use Rattle.std.specs.declared.ops.Range.{Range}
use Rattle.std.specs.declared.iter.Zip.{Zip}
use Rattle.std.specs.declared.slice.Iter.{Iter}
use Rattle.std.specs.Iterator.{Yields}
use Rattle.std.specs.Iterator.Adapters.{zip_first, zip_second}
use Rattle.std.specs.List.{range_with_len, zip}
use Rattle.std.specs.Slice.Iter.{iter_rest}
use Rattle.std.proofs.iter.Yields.{fronts, nat_range_steps}
use Rattle.std.proofs.lemmas.Grind.{get_or_default_zero}
use Rattle.std.proofs.lemmas.Iterator.{zips, YieldsList, YieldsList-from_range, YieldsList-from_slice, YieldsList-from_zip}
use Rattle.std.proofs.lemmas.Iterator.Consumers.{YieldsList-turn, YieldsList-end}
use Rattle.std.proofs.lemmas.List.FromFn.{length-range_with_len, get_or-range_with_len}
use Rattle.std.proofs.lemmas.Slice.Zip.{length-zip, get_or-zip}
use Rattle.rules.specs.Lists.{any}
use Rattle.rules.specs.Refusals.{test, Checked, accepted, refused, first_refusal, need_of}
use Rattle.rules.specs.declared.answers.RefusalKind.TheVariants.{ListTooShort}
use Rattle.rules.proofs.Lists.{or-none, or_left}
use Rattle.rules.proofs.Sums.{order}
use Rattle.rules.proofs.FirstRefusal.{stop, more, end, within}
use Rattle.scene.specs.Room.{room_tests}

-- The numbers of the lists from one on, beside the lengths: those gone through by the loop, by their place

module _ (first : ℕ) (room : List ℕ) (s : Zip (Range ℕ) (Iter ℕ)) (numbers : zip_first s ≡ record { start = first; end = 9 }) (lengths : iter_rest (zip_second s) ≡ room) where
  pairs : YieldsList {B = ℕ × ℕ} (zips nat_range_steps fronts) (λ p. (p.0, p.1.now)) s (zip (range_with_len first (9 - first)) room)
  pairs = YieldsList-from_zip (YieldsList-from_range first 9 (9 - first) numbers refl) (YieldsList-from_slice room lengths)

  pairs-length : length (zip (range_with_len first (9 - first)) room) ≡ min (9 - first) (length room)
  pairs-length = length-zip (range_with_len first (9 - first)) room ∙ ap (λ n. min n (length room)) (length-range_with_len first (9 - first))

  module _ (yielded : List (ℕ × Bor ℕ)) (t : Zip (Range ℕ) (Iter ℕ)) (so_far : Yields (zips nat_range_steps fronts) s yielded t) (r : Option (ℕ × Bor ℕ)) (u : Zip (Range ℕ) (Iter ℕ)) (step : zips nat_range_steps fronts t r u) where
    pub list-turn : (list : ℕ) (x : Bor ℕ) → r ≡ Some (list, x) → (length yielded < length room) × (list ≡ first + length yielded) × (x.now ≡ get_or room (length yielded) 0)
    list-turn list x is =
        let k : ℕ = length yielded in
        let turn = YieldsList-turn pairs yielded t so_far r u (list, x) is step in
        let size = pairs-length in
        let lists : length (range_with_len first (9 - first)) ≡ 9 - first = length-range_with_len first (9 - first) in
        let e = turn.1 ∙ get_or-zip (range_with_len first (9 - first)) room k (list, x.now) (omega arith) (omega arith) in
        (omega arith, ap (λ p. p.0) e ∙ get_or-range_with_len first (9 - first) k list (omega arith), ap (λ p. p.1) e ∙ get_or_default_zero room k x.now (omega arith))

    pub list-end : r ≡ None → (8 < first + length yielded) ⊎ (length room ≤ length yielded)
    list-end is =
        let done = YieldsList-end pairs yielded t so_far r u is step in
        let size = pairs-length in
        ⊎_elim (λ h. inr h) (λ h. inl (omega arith)) (order (length room) (length yielded))

module _ (n m : ℕ) where
  -- past list 8 nothing is needed
  pub past-lists : (list : ℕ) → 8 < list → need_of n m list ≡ 0
  past-lists list h = get_or-eq_default (m ∷ n ∷ (m + n) ∷ (2 * n + 1) ∷ n ∷ n ∷ m ∷ (2 * m + n) ∷ n ∷ []) 0 {n = list} (omega arith)

  -- what the lists still to be tested answer
  abbrev pub room_left : (list k : ℕ) → List ℕ → Checked
  room_left list k room = first_refusal (room_tests n m list (drop k room))

  long-enough : (need have : ℕ) → need ≤ have → T (any (λ x. ltb x need) (have ∷ [])) → ⊥
  unfolding any
  long-enough need have h = or-none (ltb have need) false (within have need h) (λ t. t)

  room-step : (list k : ℕ) (room : List ℕ) → k < length room
      → room_left list k room ≡ first_refusal (test (any (λ x. ltb x (need_of n m list)) (get_or room k 0 ∷ [])) ListTooShort list ∷ room_tests n m (suc list) (drop (suc k) room))
  room-step list k room h = ap (λ l. first_refusal (room_tests n m list l)) (drop-cons room k 0 h)

  -- the list at k is long enough, or too short; past list 8, or past the lengths, nothing is left to test
  pub room-more : (list k list' k' : ℕ) (room : List ℕ) → k < length room → need_of n m list ≤ get_or room k 0 → list' ≡ list + 1 → k' ≡ k + 1 → room_left list k room ≡ room_left list' k' room
  room-more list k list' k' room h e p q =
      let l : list' ≡ suc list = omega arith in
      let j : k' ≡ suc k = omega arith in
      rw (l, j) (room-step list k room h ∙ sym (more _ (room_tests n m (suc list) (drop (suc k) room)) (long-enough (need_of n m list) (get_or room k 0) e) refl))

  pub room-short : (list k : ℕ) (room : List ℕ) → k < length room → get_or room k 0 < need_of n m list → refused ListTooShort list ≡ room_left list k room
  unfolding any
  room-short list k room h e =
      stop (any (λ x. ltb x (need_of n m list)) (get_or room k 0 ∷ [])) (room_tests n m (suc list) (drop (suc k) room)) (or_left (ltb (get_or room k 0) (need_of n m list)) false (lt→ltb (get_or room k 0) (need_of n m list) e)) ∙ sym (room-step list k room h)

  past-outputs : (list : ℕ) (lists : List ℕ) → 8 < list → accepted ≡ first_refusal (room_tests n m list lists)
  past-outputs list [] h = end
  past-outputs list (x ∷ lists) h = more _ (room_tests n m (suc list) lists) (long-enough (need_of n m list) x (omega (arith, past-lists list h))) (past-outputs (suc list) lists (omega arith))

  pub room-end : (list k : ℕ) (room : List ℕ) → (8 < list) ⊎ (length room ≤ k) → accepted ≡ room_left list k room
  room-end list k room h = ⊎_elim (λ past. past-outputs list (drop k room) past) (λ done. rw (drop_of_length-le room {i = k} done) end) h
