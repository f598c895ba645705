-- The places at which a pulse begins, one after the other. Assumes nothing.
use mathlib.Core.Bool.{Bool, true, false, cond}
use mathlib.Core.List.{List, [], ◌∷◌, ◌++◌, append-nil}
use mathlib.Core.Path.{◌≡◌, refl, sym, ap, ◌∙◌}
use mir.Val.{bool_byte}
use Prim.Native.Nat.{ℕ, zero, suc, ◌+◌, ◌-◌, ◌≤◌}
use native.Mathlib.Omega.{arith}
use lib.ListN.{length, length-append}
use Rattle.std.proofs.Common.{add-one}
use Rattle.rules.specs.Lists.{keep, from, indices}
use Rattle.rules.specs.Pulses.{EventLists}
use Rattle.rules.specs.Windows.{window_pulse, window_places}
use Rattle.rules.proofs.Lists.{keep_append}
use Rattle.rules.proofs.Indices.{indices-more}
use Rattle.transient.specs.Row.{EndsPulses}

module _ (l : EventLists) (row : List ℕ) where
  -- the places before the k-th at which one begins
  abbrev pub before : ℕ → List ℕ
  before k = keep (window_pulse l row) (indices k)

  -- those that are written after k places: the last one in any case
  abbrev pub touched : ℕ → List ℕ
  touched zero = []
  touched (suc k) = before k ++ (k ∷ [])

  pub touched-next : (k : ℕ) → before k ++ (k ∷ []) ≡ touched (k + 1)
  touched-next k = rw (add-one k) refl

  before-none : before 0 ≡ []
  unfolding keep indices from
  before-none = refl

  one_more : (k : ℕ) → before (suc k) ≡ before k ++ cond (window_pulse l row k) (k ∷ []) []
  unfolding keep
  one_more k = ap before (sym (add-one k)) ∙ ap (keep (window_pulse l row)) (indices-more k) ∙ keep_append (window_pulse l row) (indices k) (k ∷ [])

  -- at most one of them is not counted
  pub left_over : (k : ℕ) → (extra : List ℕ) × (length extra ≤ 1) × (touched k ≡ before k ++ extra)
  left_over zero = ([], omega arith, rw append-nil (sym before-none))
  left_over (suc k) = go (window_pulse l row k) refl
    where
      go : (b : Bool) → window_pulse l row k ≡ b → (extra : List ℕ) × (length extra ≤ 1) × (touched (suc k) ≡ before (suc k) ++ extra)
      go true e = ([], omega arith, rw (append-nil, one_more k, e) refl)
      go false e = (k ∷ [], omega arith, rw (one_more k, e, append-nil) refl)

  pub few : (k : ℕ) → length (before k) ≤ k
  few zero = omega (arith, ap length before-none)
  few (suc k) = go (window_pulse l row k) refl (few k)
    where
      go : (b : Bool) → window_pulse l row k ≡ b → length (before k) ≤ k → length (before (suc k)) ≤ suc k
      go true e f = omega (arith, f, ap length (one_more k ∙ ap (λ b. before k ++ cond b (k ∷ []) []) e), length-append (before k) (k ∷ []))
      go false e f = omega (arith, f, ap length (one_more k ∙ ap (λ b. before k ++ cond b (k ∷ []) []) e), length-append (before k) [])

  -- the next place to write to
  pub count-none : (start : ℕ) → start ≡ start + length (before 0)
  count-none start = omega (arith, ap length before-none)

  pub count-more : (start k : ℕ) {at step : ℕ} (b : Bool) → b ≡ window_pulse l row k → step ≡ bool_byte b → at ≡ start + length (before k) → at + step ≡ start + length (before (k + 1))
  count-more start k true e s c = omega (arith, s, c, ap length (ap before (add-one k) ∙ one_more k ∙ ap (λ b. before k ++ cond b (k ∷ []) []) (sym e)), length-append (before k) (k ∷ []))
  count-more start k false e s c = omega (arith, s, c, ap length (ap before (add-one k) ∙ one_more k ∙ ap (λ b. before k ++ cond b (k ∷ []) []) (sym e)), length-append (before k) [])

  -- past the last one there is no more
  module _ {end : ℕ} (ends : EndsPulses l row end) where
    past : (d : ℕ) → end + d ≤ length row - 2 → before (end + d) ≡ before end
    past zero h = let i : end + 0 ≡ end = omega arith in rw i
    past (suc d) h =
        let i : end + suc d ≡ suc (end + d) = omega arith in
        rw (i, one_more (end + d), ends.none_later (end + d) (omega arith) (omega arith), append-nil) (past d (omega arith))

    inside : end ≤ length row - 2
    inside = go end refl
      where
        go : (e : ℕ) → e ≡ end → e ≤ length row - 2
        go zero h = omega arith
        go (suc k) h = omega (arith, ends.inside k (omega (arith, h)))

    pub all_before : before end ≡ window_places l row (length row)
    unfolding window_places
    all_before = let i : end + (length row - 2 - end) ≡ length row - 2 = omega (arith, inside) in sym (past (length row - 2 - end) (omega (arith, i))) ∙ ap before i

    pub all_touched : touched end ≡ window_places l row (length row)
    all_touched = go end refl ∙ all_before
      where
        go : (e : ℕ) → e ≡ end → touched e ≡ before e
        go zero h = sym before-none
        go (suc k) h = rw (one_more k, ends.last k h) refl
