-- Demand 3, second half: in every accepted scene an unequal-delay reason names a component exactly when at least two edges end there and the
-- smallest and the largest plain sum over all paths to it differ. It shows those two sums. Assumes nothing.
use mathlib.Core.List.{List, Memᴰ}
use mathlib.Core.Path.{◌≡◌, sym, subst, ◌∙◌}
use Prim.Native.Nat.{ℕ, ◌-◌, ◌*◌, ◌≤◌}
use Rattle.rules.specs.Delay.{cap}
use Rattle.rules.specs.Scene.{Component, ComponentLists, ConnectionLists, components_of, connections_of, edges_of, delay_at}
use Rattle.rules.specs.Graph.{Edge}
use Rattle.rules.specs.Paths.{delay_sum, total, PathTo, IsExtreme}
use Rattle.rules.specs.Reasons.{unequal_reconvergent_delay, reasons, UnequalDelay}
use Rattle.rules.specs.Refusals.{accepted, SceneLimits, Output, check_scene}
use Rattle.rules.proofs.ReasonLaws.{unequal→, →unequal}
use Rattle.laws.proofs.Room.{accepted-path-plain}

-- sums that agree on every path have the same extremes
pub extreme-agrees : {Bounds : ℕ → ℕ → Type 0} {es : List Edge} {s t : List ℕ → ℕ} {v n : ℕ} → ((p : List ℕ) → PathTo es v p → s p ≡ t p) → IsExtreme Bounds es s v n → IsExtreme Bounds es t v n
extreme-agrees {Bounds} {n = n} h x =
    record {
      path = x.path;
      is_path = x.is_path;
      has_sum = sym (h x.path x.is_path) ∙ x.has_sum;
      bounds = λ p P. subst (Bounds n) (h p P) (x.bounds p P);
    }

unequal-same : {cs : List Component} {es : List Edge} {s t : List ℕ → ℕ} {v low high : ℕ} → ((p : List ℕ) → PathTo es v p → s p ≡ t p) → UnequalDelay cs es s s v low high → UnequalDelay cs es t t v low high
unequal-same h u =
    record {
      component = u.component;
      incoming = u.incoming;
      smallest = extreme-agrees h u.smallest;
      largest = extreme-agrees h u.largest;
      differ = u.differ;
    }

module _ (limits : SceneLimits) (l : ComponentLists) (m : ConnectionLists) (outputs : List Output) (accepts : check_scene limits l m outputs ≡ accepted) (room : (limits.components - 1) * 255 ≤ cap) where
  abbrev cs : List Component
  cs = components_of l

  abbrev es : List Edge
  es = edges_of (connections_of m)

  plain : (v : ℕ) (p : List ℕ) → PathTo es v p → delay_sum (delay_at cs) p ≡ total (delay_at cs) p
  plain v p P = accepted-path-plain limits l m outputs accepts room P

  pub unequal-reason→ : (v low high : ℕ) → Memᴰ (unequal_reconvergent_delay v low high) (reasons cs es) → UnequalDelay cs es (total (delay_at cs)) (total (delay_at cs)) v low high
  unequal-reason→ v low high n = unequal-same (plain v) (unequal→ cs es v low high n)

  pub →unequal-reason : (v low high : ℕ) → UnequalDelay cs es (total (delay_at cs)) (total (delay_at cs)) v low high → Memᴰ (unequal_reconvergent_delay v low high) (reasons cs es)
  →unequal-reason v low high u = →unequal cs es v low high (unequal-same (λ p P. sym (plain v p P)) u)
