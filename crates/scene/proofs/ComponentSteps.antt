-- The tests of components, step by step. Assumes nothing.
use mathlib.Core.Bool.{Bool, true, false, cond, ◌||◌}
use mathlib.Core.List.{[], ◌∷◌}
use mathlib.Core.Path.{◌≡◌, refl, sym, ap, subst, ◌∙◌}
use mathlib.Core.Logic.{◌⊎◌, inl, inr}
use Prim.Native.Nat.{ℕ, suc, ◌+◌, ◌<◌, ◌≤◌}
use native.Mathlib.Omega.{arith}
use lib.Dec.{T, eqb, eqb→eq, ltb}
use lib.ListN.{length, get_or}
use Rattle.std.specs.Prelude.{Option, Some, None}
use Rattle.std.specs.Option.{option_or}
use Rattle.rules.specs.Scene.{ComponentLists, component_at}
use Rattle.rules.specs.Refusals.{Checked, accepted, refused, test, first_refusal, out_of_range, used_earlier, component_tests, rows}
use Rattle.rules.specs.declared.answers.RefusalKind.{RefusalKind}
use Rattle.rules.specs.declared.answers.RefusalKind.TheVariants.{IdUsedEarlier, ComponentOutOfRange}
use Rattle.rules.proofs.Lists.{eq_test, same_test}
use Rattle.rules.proofs.Sums.{order}
use Rattle.rules.proofs.FirstRefusal.{rows_more, rows-stop}
use Rattle.scene.specs.Steps.{FirstRepeat}

-- the refusal at a place, or none
abbrev refused_at : Option RefusalKind → ℕ → Checked
refused_at None place = accepted
refused_at (Some kind) place = refused kind place

-- the first of two tests that holds
two-tests : (out used : Bool) (i : ℕ) → refused_at (option_or (cond out (Some ComponentOutOfRange) None) (cond used (Some IdUsedEarlier) None)) i ≡ first_refusal (test out ComponentOutOfRange i ∷ test used IdUsedEarlier i ∷ [])
unfolding first_refusal
two-tests true used i = refl
two-tests false true i = refl
two-tests false false i = refl

module _ (l : ComponentLists) where
  -- the components before i are accepted
  abbrev pub AcceptedBelow : ℕ → Type 0
  AcceptedBelow i = accepted ≡ first_refusal (rows (component_tests l) i)

  abbrev out : ℕ → Bool
  out i = ltb 12 (get_or l.kinds i 0) || (ltb 256 (get_or l.delays i 0) || ltb 1 (get_or l.locked i 0))

  module _ (i repeat : ℕ) (range used decided : Option RefusalKind) (inside : i < length l.ids) (before : AcceptedBelow i) (first : FirstRepeat l.ids repeat) (reached : i ≤ repeat)
      (ranged : range ≡ cond (out i) (Some ComponentOutOfRange) None) (repeated : used ≡ cond (eqb i repeat) (Some IdUsedEarlier) None) (first_of : decided ≡ option_or range used) where
    used-here : eqb i repeat ≡ used_earlier l.ids i
    used-here = same_test (eqb i repeat) (used_earlier l.ids i) (λ t. let e = eqb→eq i repeat t in subst (λ k. T (used_earlier l.ids k)) (sym e) (first.repeats (omega (arith, e))))
        (λ t. go t (order repeat i))
      where
        go : T (used_earlier l.ids i) → (repeat ≤ i) ⊎ (i < repeat) → T (eqb i repeat)
        go t (inl h) = let e : i ≡ repeat = omega arith in eq_test e
        go t (inr h) = absurd (first.none_before i h t)

    this : refused_at decided i ≡ first_refusal (component_tests l i)
    unfolding component_tests out_of_range component_at
    this =
        let e : decided ≡ option_or (cond (out i) (Some ComponentOutOfRange) None) (cond (used_earlier l.ids i) (Some IdUsedEarlier) None) = cc (first_of, ranged, repeated, used-here) in
        ap (λ n. refused_at n i) e ∙ two-tests (out i) (used_earlier l.ids i) i

    pub component-refused : (kind : RefusalKind) → decided ≡ Some kind → refused kind i ≡ first_refusal (rows (component_tests l) (length l.ids))
    component-refused kind h = rows-stop (component_tests l) i (length l.ids) inside before (rw h at this)

    pub next-component : decided ≡ None → AcceptedBelow (i + 1)
    next-component z = let e : i + 1 ≡ suc i = omega arith in rw e (rows_more (component_tests l) i before (rw z at this))

    pub not-repeated : decided ≡ None → i < repeat
    not-repeated z = go range (eqb i repeat) (λ e. eq_test e) repeated first_of
      where
        go : (r : Option RefusalKind) (d : Bool) → (i ≡ repeat → T d) → used ≡ cond d (Some IdUsedEarlier) None → decided ≡ option_or r used → i < repeat
        go (Some kind) d f p q = absurd (cc)
        go None true f p q = absurd (cc)
        go None false f p q = omega (arith, f)
