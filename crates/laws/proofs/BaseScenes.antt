-- The scenes that the base accepts, with nothing else assumed: labels and unequal-delay reasons by plain sums. Assumes nothing.
use mathlib.Core.List.{List, map, Memᴰ}
use mathlib.Core.Path.{◌≡◌, sym}
use Prim.Native.Nat.{ℕ, ◌-◌, ◌*◌, ◌≤◌, ◌<◌}
use native.Mathlib.Omega.{arith}
use lib.ListN.{length, get_or, length-map}
use Rattle.rules.specs.Delay.{cap}
use Rattle.rules.specs.Scene.{Component, ComponentLists, ConnectionLists, components_of, connections_of, edges_of, id_of, delay_at}
use Rattle.rules.specs.Graph.{Edge, Settled}
use Rattle.rules.specs.Paths.{delay_sum, total, PathTo, Smallest, Largest}
use Rattle.rules.specs.Labels.{unsettled, between, label, labels}
use Rattle.rules.specs.Reasons.{unequal_reconvergent_delay, reasons, UnequalDelay}
use Rattle.rules.specs.Projection.{first_edges, chain_from, before_last}
use Rattle.rules.specs.Refusals.{accepted, Output, scene_limits, check_scene}
use Rattle.rules.proofs.Indices.{map_at}
use Rattle.rules.proofs.LabelLaws.{label→, →label}
use Rattle.laws.proofs.Room.{accepted-path-plain, accepted-projected-plain}
use Rattle.laws.proofs.UnequalReasons.{extreme-agrees, unequal-reason→, →unequal-reason}

-- an entry of list 8 is the label of the component in its place
pub label-entry : (cs : List Component) (es : List Edge) (k : ℕ) → k < length cs → get_or (labels cs es) k unsettled ≡ label es (delay_at cs) (delay_at cs) (get_or (map id_of cs) k 0)
unfolding labels
label-entry cs es k h = map_at (label es (delay_at cs) (delay_at cs)) (map id_of cs) k 0 unsettled (omega (arith, length-map cs id_of))

-- a path sum has at most 511 delays of 255, a projected delay 512
room : (scene_limits.components - 1) * 255 ≤ cap
room = omega arith

module _ (l : ComponentLists) (m : ConnectionLists) (outputs : List Output) (accepts : check_scene scene_limits l m outputs ≡ accepted) where
  abbrev cs : List Component
  cs = components_of l

  abbrev es : List Edge
  es = edges_of (connections_of m)

  -- the plain sum of a path's delays
  abbrev plain_sum : List ℕ → ℕ
  plain_sum p = total (delay_at cs) p

  -- no path sum and no projected delay meets the cap
  pub base-path-plain : (v : ℕ) (p : List ℕ) → PathTo es v p → delay_sum (delay_at cs) p ≡ plain_sum p
  base-path-plain v p P = accepted-path-plain scene_limits l m outputs accepts room P

  pub base-projected-plain : (e : Edge) → Memᴰ e (first_edges cs es) → delay_sum (delay_at cs) (before_last (chain_from cs es e)) ≡ plain_sum (before_last (chain_from cs es e))
  base-projected-plain e n = accepted-projected-plain scene_limits l m outputs accepts (omega arith) e n

  -- a label shows the smallest and the largest plain sum of a settled component
  pub base-label→ : (v low high : ℕ) → label es (delay_at cs) (delay_at cs) v ≡ between low high → Settled es v × Smallest es plain_sum v low × Largest es plain_sum v high
  base-label→ v low high e =
      let r = label→ es (delay_at cs) (delay_at cs) v low high e in
      (r.0, extreme-agrees (base-path-plain v) r.1, extreme-agrees (base-path-plain v) r.2)

  pub →base-label : (v low high : ℕ) → Settled es v → Smallest es plain_sum v low → Largest es plain_sum v high → label es (delay_at cs) (delay_at cs) v ≡ between low high
  →base-label v low high s a b =
      →label es (delay_at cs) (delay_at cs) v low high s (extreme-agrees (λ p P. sym (base-path-plain v p P)) a) (extreme-agrees (λ p P. sym (base-path-plain v p P)) b)

  -- an unequal-delay reason is listed exactly where the plain sums differ
  pub base-unequal→ : (v low high : ℕ) → Memᴰ (unequal_reconvergent_delay v low high) (reasons cs es) → UnequalDelay cs es plain_sum plain_sum v low high
  base-unequal→ = unequal-reason→ scene_limits l m outputs accepts room

  pub →base-unequal : (v low high : ℕ) → UnequalDelay cs es plain_sum plain_sum v low high → Memᴰ (unequal_reconvergent_delay v low high) (reasons cs es)
  →base-unequal = →unequal-reason scene_limits l m outputs accepts room
