-- Rows that grow at their end: what is last, what they add up to, and what is written of them. Assumes nothing.
use mathlib.Core.Bool.{Bool, true, false, not, cond}
use mathlib.Core.List.{List, [], ◌∷◌, ◌++◌}
use mathlib.Core.Path.{◌≡◌, refl}
use Prim.Native.Nat.{ℕ, zero, suc, ◌+◌, ◌<◌}
use native.Mathlib.Omega.{arith}
use lib.Dec.{T}
use lib.ListN.{length, set}
use Rattle.rules.specs.Lists.{written_from}
use Rattle.rules.specs.Delay.{saturating_add}
use Rattle.rules.specs.Graph.{Edge}
use Rattle.rules.specs.Paths.{delay_sum, total}
use Rattle.rules.specs.Projection.{next, chain, flips}
use Rattle.rules.proofs.Lists.{chosen, not_chosen}
use Rattle.rules.proofs.Written.{from_more}
use Rattle.laws.proofs.PlainSums.{capped-total}

-- a sum that stops does not depend on the end at which the row grows
total-more : (d : ℕ → ℕ) (l : List ℕ) (x : ℕ) → total d (l ++ (x ∷ [])) ≡ total d l + d x
unfolding total
total-more d [] x = omega arith
total-more d (y ∷ l) x = omega (arith, total-more d l x)

pub sum_more : (d : ℕ → ℕ) (l : List ℕ) (x : ℕ) → delay_sum d (l ++ (x ∷ [])) ≡ saturating_add (delay_sum d l) (d x)
unfolding saturating_add
sum_more d l x = omega (arith, capped-total d (l ++ (x ∷ [])), capped-total d l, total-more d l x)

pub flips-more : (f : ℕ → Bool) (l : List ℕ) (x : ℕ) → flips f (l ++ (x ∷ [])) ≡ cond (f x) (not (flips f l)) (flips f l)
unfolding flips
flips-more f [] x = refl
flips-more f (y ∷ l) x = let ih = flips-more f l x in rw ih (go (f y) (f x) (flips f l))
  where
    go : (a b c : Bool) → cond a (not (cond b (not c) c)) (cond b (not c) c) ≡ cond b (not (cond a (not c) c)) (cond a (not c) c)
    go true true c = refl
    go true false c = refl
    go false true c = refl
    go false false c = refl

-- a chain's next node, and its end
module _ (es : List Edge) (through : ℕ → Bool) where
  pub chain-goes : (k v : ℕ) → T (through v) → chain (suc k) es through v ≡ v ∷ chain k es through (next es v)
  unfolding chain
  chain-goes k v t = chosen (v ∷ chain k es through (next es v)) (v ∷ []) (through v) t

  pub chain-stops : (k v : ℕ) → (T (through v) → ⊥) → chain k es through v ≡ v ∷ []
  unfolding chain
  chain-stops zero v h = refl
  chain-stops (suc k) v h = not_chosen (v ∷ chain k es through (next es v)) (v ∷ []) (through v) h

  pub chain-spent : (v : ℕ) → chain 0 es through v ≡ v ∷ []
  unfolding chain
  chain-spent v = refl

module _ {A : Type 0} where
  -- one entry more, at a place that is known to be the next
  pub from_at : (old new : List A) (start k : ℕ) (x : A) → k ≡ start + length new → k < length old → set (written_from start old new) k x ≡ written_from start old (new ++ (x ∷ []))
  from_at old new start k x e h = rw e (from_more old new start x (omega arith))
