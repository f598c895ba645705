-- The contract of a component is the first that names it. Assumes nothing.
use mathlib.Core.Bool.{Bool}
use mathlib.Core.List.{List, [], ◌∷◌, map}
use mathlib.Core.Logic.{⊎_elim}
use mathlib.Core.Path.{◌≡◌, refl, sym, ap, subst, ◌∙◌}
use Prim.Native.Nat.{ℕ, zero, suc, ◌+◌, ◌<◌}
use native.Mathlib.Omega.{arith}
use lib.Dec.{T, eqb→eq}
use lib.ListN.{length, get_or}
use Rattle.std.specs.Prelude.{Some, None}
use Rattle.rules.specs.Lists.{keep}
use Rattle.rules.specs.Ordered.{key_at, Rises}
use Rattle.rules.specs.Verdicts.{Contract, ContractLists, contract_at, contracts_of, intent_of, for_component, design_intent}
use Rattle.rules.proofs.Lists.{chosen, not_chosen, eq_test}
use Rattle.rules.proofs.Indices.{made-length, made_at}
use Rattle.rules.proofs.Sums.{order}
use Rattle.std.specs.List.Sorted.{IsNonDecreasingBy}
use Rattle.std.proofs.Common.{add-one}
use Rattle.std.proofs.lemmas.Grind.{get_or_default_zero}
use Rattle.std.proofs.lemmas.List.Sorted.{IsNonDecreasingBy-from_all_adjacent}
use Rattle.transient.specs.Sought.{SplitAt}

-- The first entry that passes a test

module _ {A B : Type 0} (f : A → Bool) (g : A → B) (d : A) (e : B) where
  pub first-kept : (l : List A) (p : ℕ) → p < length l → ((q : ℕ) → q < p → T (f (get_or l q d)) → ⊥) → T (f (get_or l p d)) → g (get_or l p d) ≡ get_or (map g (keep f l)) 0 e
  unfolding keep
  first-kept [] p h none here = absurd (omega arith)
  first-kept (x ∷ l) zero h none here = ap (λ k. get_or (map g k) 0 e) (sym (chosen (x ∷ keep f l) (keep f l) (f x) here))
  first-kept (x ∷ l) (suc p) h none here =
      first-kept l p (omega arith) (λ q k. none (suc q) (omega arith)) here ∙ ap (λ k. get_or (map g k) 0 e) (sym (not_chosen (x ∷ keep f l) (keep f l) (f x) (none 0 (omega arith))))

  pub none_kept : (l : List A) → ((q : ℕ) → q < length l → T (f (get_or l q d)) → ⊥) → e ≡ get_or (map g (keep f l)) 0 e
  unfolding keep
  none_kept [] none = refl
  none_kept (x ∷ l) none =
      none_kept l (λ q k. none (suc q) (omega arith)) ∙ ap (λ k. get_or (map g k) 0 e) (sym (not_chosen (x ∷ keep f l) (keep f l) (f x) (none 0 (omega arith))))

-- The contract of a component

module _ (l : ContractLists) (v : ℕ) where
  abbrev none : Contract
  none = contract_at l 0

  -- the contract at an index has the component there
  component-at : (q : ℕ) → q < length l.components → get_or (contracts_of l) q none ≡ contract_at l q
  unfolding contracts_of
  component-at q h = made_at (contract_at l) (length l.components) q none h

  there : (q : ℕ) → q < length l.components → T (for_component v (get_or (contracts_of l) q none)) → key_at l.components q ≡ v
  unfolding contract_at
  there q h t = eqb→eq _ _ (subst (λ c. T (for_component v c)) (component-at q h) t)

  count : length (contracts_of l) ≡ length l.components
  unfolding contracts_of
  count = made-length (contract_at l) (length l.components)

  -- so many contracts have components below
  module _ {p : ℕ} (split : SplitAt l.components v p) where
    pub registered : p < length l.components → key_at l.components p ≡ v → Some (intent_of (contract_at l p)) ≡ design_intent (contracts_of l) v
    unfolding design_intent contract_at
    registered h has =
        ap (λ c. Some (intent_of c)) (sym (component-at p h))
        ∙ first-kept (for_component v) (λ c. Some (intent_of c)) none None (contracts_of l) p (omega (arith, count))
        (λ q g t. omega (arith, split.below q g, there q (omega arith) t)) (subst (λ c. T (for_component v c)) (sym (component-at p h)) (eq_test has))

    module _ (up : Rises l.components) (missing : p < length l.components → key_at l.components p ≡ v → ⊥) where
      nowhere : (q : ℕ) → q < length l.components → key_at l.components q ≡ v → ⊥
      nowhere q h t = ⊎_elim (λ g. missing (omega arith) (omega (arith, split.next (omega arith), rise p q 0 g h, t))) (λ g. omega (arith, split.below q g, t)) (order p q)
        where
          rise : IsNonDecreasingBy (λ x. x) l.components
          rise = IsNonDecreasingBy-from_all_adjacent (λ x. x) l.components (λ k d h. rw (get_or_default_zero l.components k d (omega arith), get_or_default_zero l.components (k + 1) d h, add-one) (omega (arith, up k (omega arith))))

      pub not-registered : None ≡ design_intent (contracts_of l) v
      unfolding design_intent
      not-registered =
          none_kept (for_component v) (λ c. Some (intent_of c)) none None (contracts_of l) (λ q h t. nowhere q (omega (arith, count)) (there q (omega (arith, count)) t))
