-- Every list of an accepted scene fits the length that it needs, and projected delays are plain sums. Assumes nothing.
use mathlib.Core.Bool.{Bool, true}
use mathlib.Core.List.Memᴰ
use mathlib.Core.List.{List, [], ◌∷◌, ◌++◌, map, flat_map, Memᴰ}
use mathlib.Core.Path.{◌≡◌, ap, subst, ◌∙◌}
use mathlib.Core.Logic.{⊎_elim}
use Prim.Native.Nat.{ℕ, ◌+◌, ◌-◌, ◌*◌, ◌≤◌}
use native.Mathlib.Omega.{arith}
use lib.ListN.{length, length-map, length-append}
use Rattle.rules.specs.Lists.{keep}
use Rattle.rules.specs.Delay.{cap}
use Rattle.rules.specs.Kinds.{is_device}
use Rattle.rules.specs.Scene.{Component, Connection, ComponentLists, ConnectionLists, components_of, connections_of, id_of, is_edge, edge_of, edges_of, row_of, delay_at, rising_ids}
use Rattle.rules.specs.Graph.{Edge, sink_of, strongly_connected}
use Rattle.rules.specs.Paths.{delay_sum, total, PathTo}
use Rattle.rules.specs.Reasons.{in_feedback, feedback, feedback_reason, own_reason, unequal_at, unequal_reason, unequal_reasons_by, unequal_reasons, temporal_reasons, reasons}
use Rattle.rules.specs.Projection.{marks, first_edges, chain_from, before_last, projected, path_ids}
use Rattle.rules.specs.Refusals.{accepted, SceneLimits, Output, check_scene}
use Rattle.rules.specs.Describe.{timed_edge, timed_edges, temporal_device, device_components, devices, connection_evidence, device_evidence, evidence}
use Rattle.rules.specs.Labels.{label, labels}
use Rattle.rules.proofs.Distinct.{pigeon}
use Rattle.rules.proofs.Permutations.{keep-length, perm-length}
use Rattle.rules.proofs.Counts.{count_under, count-every}
use Rattle.rules.proofs.ReasonLaws.{own-cases}
use Rattle.rules.proofs.Sorting.{rising-ids-perm}
use Rattle.rules.proofs.Columns.{components_length, connections-length}
use Rattle.rules.proofs.Acceptance.{AcceptedScene, accepted→, accepted-ids, edge-ends}
use Rattle.laws.proofs.PlainSums.{capped-total, path-plain, total-bound, delay-bound}
use Rattle.laws.proofs.Chains.{chain-before, chain-once}
use Rattle.laws.proofs.Projection.{first-edges-out, first-kept, chain-ids, projected-count, path-ids-count}
use Rattle.rules.proofs.Scenes.{EndsListed, DistinctIds}

pub keep-fewer : {A : Type 0} (f : A → Bool) (l : List A) → length (keep f l) ≤ length l
keep-fewer f l = omega (arith, keep-length f l, count_under f (λ x. true) l (λ x m t. tt), count-every l)

module _ (cs : List Component) (ns : List Connection) where
  -- the edges are no more than the connections
  pub edges_fit_lem : length (edges_of ns) ≤ length ns
  unfolding edges_of
  edges_fit_lem = omega (arith, length-map (keep is_edge ns) edge_of, keep-fewer is_edge ns)

  -- list 0 needs M, list 1 N, list 2 M + N
  pub timed-edges-fit : length (timed_edges cs ns) ≤ length ns
  unfolding timed_edges
  timed-edges-fit = omega (arith, length-map (keep is_edge ns) (timed_edge (delay_at cs) (delay_at cs) cs), keep-fewer is_edge ns)

  pub device-components-fit : length (device_components cs) ≤ length cs
  unfolding device_components
  device-components-fit = keep-fewer (λ c. is_device (row_of c)) cs

  pub devices-fit : length (devices cs) ≤ length cs
  unfolding devices
  devices-fit = omega (arith, length-map (device_components cs) temporal_device, device-components-fit)

  pub evidence-fit : length (evidence cs ns) ≤ length ns + length cs
  unfolding evidence
  evidence-fit = omega (
    arith,
    length-append (map connection_evidence ns) (map device_evidence (device_components cs)),
    length-map ns connection_evidence,
    length-map (device_components cs) device_evidence,
    device-components-fit,
  )

-- a component has one reason of its own at most, and there is one Feedback at most
pub own-one : (c : Component) → length (own_reason c) ≤ 1
own-one c = ⊎_elim (λ e. omega (arith, ap length e)) (λ k. omega (arith, ap length k.1)) (own-cases c)

pub loop-one : (l : List ℕ) → length (feedback_reason l) ≤ 1
unfolding feedback_reason
loop-one [] = omega arith
loop-one (x ∷ l) = omega arith

module _ (cs : List Component) (es : List Edge) where
  own-fit : (l : List Component) → length (flat_map own_reason l) ≤ length l
  unfolding flat_map
  own-fit [] = omega arith
  own-fit (c ∷ l) = omega (arith, length-append (own_reason c) (flat_map own_reason l), own-one c, own-fit l)

  -- list 3 needs 2N + 1, list 4 N, lists 5 and 8 exactly N
  pub reasons-fit : length (reasons cs es) ≤ 2 * length cs + 1
  unfolding reasons temporal_reasons unequal_reasons unequal_reasons_by
  reasons-fit = omega (
    arith,
    length-append (feedback_reason (feedback cs es) ++ flat_map own_reason cs) (map (unequal_reason es d d) (keep (unequal_at es d d) (rising_ids cs))),
    length-append (feedback_reason (feedback cs es)) (flat_map own_reason cs),
    loop-one (feedback cs es),
    own-fit cs,
    length-map (keep (unequal_at es d d) (rising_ids cs)) (unequal_reason es d d),
    keep-fewer (unequal_at es d d) (rising_ids cs),
    perm-length (rising-ids-perm cs),
    length-map cs id_of,
  )
    where
      d : ℕ → ℕ
      d = delay_at cs

  pub feedback-fit : length (feedback cs es) ≤ length cs
  unfolding feedback
  feedback-fit = omega (arith, length-map (keep (in_feedback cs (strongly_connected es)) cs) id_of, keep-fewer (in_feedback cs (strongly_connected es)) cs)

  pub marks-fit : length (marks cs es) ≡ length cs
  unfolding marks
  marks-fit = length-map cs _

  pub labels-fit : length (labels cs es) ≡ length cs
  unfolding labels
  labels-fit = length-map (map id_of cs) (label es (delay_at cs) (delay_at cs)) ∙ length-map cs id_of

  module _ (listed : EndsListed cs es) (distinct : DistinctIds cs) where
    known : (e : Edge) → Memᴰ e es → Memᴰ (sink_of e) (map id_of cs)
    known e m = (listed e m).1

    -- list 6 needs M and list 7 2M + N, for M connections with these edges
    pub projected-fit : (m : ℕ) → length es ≤ m → length (projected cs es) ≤ m
    projected-fit m h = omega (arith, projected-count cs es distinct)

    pub path-ids-fit : (m : ℕ) → length es ≤ m → length (path_ids (projected cs es)) ≤ 2 * m + length cs
    path-ids-fit m h = omega (arith, path-ids-count cs es distinct)

    module _ (e : Edge) (m : Memᴰ e (first_edges cs es)) where
      -- before its last component a projected path has no more components than the scene
      before-length : length (before_last (chain_from cs es e)) ≤ length cs
      before-length = omega (arith, pigeon (before_last (chain_from cs es e)) (map id_of cs) (chain-once cs es e k (first-kept cs es e m)) inside, length-map cs id_of)
        where
          k : Memᴰ e es
          k = (first-edges-out cs es e m).0

          inside : (x : ℕ) → Memᴰ x (before_last (chain_from cs es e)) → Memᴰ x (map id_of cs)
          inside x n =
              ⊎_elim (λ p. Memᴰ.cast p (listed e k).0) (λ q. chain-ids cs es known e k x (Memᴰ.append_left _ q)) (Memᴰ.cases_cons (subst (Memᴰ x) (chain-before cs es e) n))

      -- the largest projected delay is that of all components at 255 each, so it is a plain sum where that is within the cap
      pub projected-total : total (delay_at cs) (before_last (chain_from cs es e)) ≤ length cs * 255
      projected-total = let h = before-length in omega (arith, total-bound (delay_at cs) 255 (delay-bound cs) (before_last (chain_from cs es e)))

      pub projected-plain : length cs * 255 ≤ cap → delay_sum (delay_at cs) (before_last (chain_from cs es e)) ≡ total (delay_at cs) (before_last (chain_from cs es e))
      projected-plain h = omega (arith, projected-total, capped-total (delay_at cs) (before_last (chain_from cs es e)))

-- So for an accepted scene of N components and M connections
module _ (limits : SceneLimits) (l : ComponentLists) (m : ConnectionLists) (outputs : List Output) (accepts : check_scene limits l m outputs ≡ accepted) where
  abbrev components : List Component
  components = components_of l

  abbrev joins : List Edge
  joins = edges_of (connections_of m)

  facts : AcceptedScene limits l m outputs
  facts = accepted→ limits l m outputs accepts

  pub accepted-projected : length (projected components joins) ≤ length m.sources
  accepted-projected = projected-fit components joins (edge-ends facts) (accepted-ids facts) (length m.sources) (omega (arith, edges_fit_lem components (connections_of m), connections-length m))

  pub accepted-path-ids : length (path_ids (projected components joins)) ≤ 2 * length m.sources + length l.ids
  accepted-path-ids = omega (
    arith,
    path-ids-fit components joins (edge-ends facts) (accepted-ids facts) (length m.sources) (omega (arith, edges_fit_lem components (connections_of m), connections-length m)),
    components_length l,
  )

  -- path sums and projected delays are plain sums
  pub accepted-path-plain : (limits.components - 1) * 255 ≤ cap → {v : ℕ} {p : List ℕ} → PathTo joins v p → delay_sum (delay_at components) p ≡ total (delay_at components) p
  accepted-path-plain h P = path-plain components joins (edge-ends facts) limits.components (omega (arith, facts.components_few, components_length l)) h P

  pub accepted-projected-plain : limits.components * 255 ≤ cap → (e : Edge) → Memᴰ e (first_edges components joins)
      → delay_sum (delay_at components) (before_last (chain_from components joins e)) ≡ total (delay_at components) (before_last (chain_from components joins e))
  accepted-projected-plain h e n =
      projected-plain components joins (edge-ends facts) (accepted-ids facts) e n (omega (arith, facts.components_few, components_length l))
