-- A report has room in 1,048,576 bytes: how long it is at most, by the number of components and connections. Assumes nothing.
use mathlib.Core.Bool.{Bool, true, false, not, cond, ◌&&◌, ◌||◌}
use mathlib.Core.List.Memᴰ
use mathlib.Core.List.Permᴰ
use mathlib.Core.List.{List, [], ◌∷◌, ◌++◌, map, flat_map, Memᴰ}
use mathlib.Core.Path.{◌≡◌, refl, sym, subst}
use mathlib.Core.Logic.{⊎_elim}
use Prim.Native.Nat.{ℕ, ◌+◌, ◌*◌, ◌≤◌, ◌<◌}
use native.Mathlib.Omega.{arith}
use lib.Dec.{eqb}
use lib.ListN.{length, length-append, length-map}
use Rattle.rules.specs.Lists.{keep}
use Rattle.rules.specs.Bytes.{bytes, largest64, decimal}
use Rattle.rules.specs.Codes.{refusal_code}
use Rattle.rules.specs.Kinds.{repeater_code, comparator_code, piston_code}
use Rattle.rules.specs.Scene.{Component, Scene, id_of, rising_ids, delay_at, edges}
use Rattle.rules.specs.Graph.{Edge}
use Rattle.rules.specs.Labels.{label}
use Rattle.rules.specs.Reasons.{Reason, stateful_or_mechanical_device, locked_repeater, feedback, feedback_reason, own_reason, unequal_at, unequal_reason, unequal_reasons_by, unequal_reasons, temporal_reasons, reasons, scope, pattern}
use Rattle.rules.specs.Projection.{compressed, first_edges, chain_from, before_last, last_of, flips, inverts_at, ProjectedEdge, projected_by, projected_along, projected}
use Rattle.rules.specs.Refusals.{accepted, SceneLimits, scene_limits}
use Rattle.rules.specs.Report.{reason_line, label_lines, report, refusal_text, component_fields, connection_fields, check_read}
use Rattle.rules.specs.declared.answers.Refusal.{Refusal}
use Rattle.rules.proofs.Lists.{keep_out, flat_out, flat_append}
use Rattle.rules.proofs.Counts.{count_most}
use Rattle.rules.proofs.Permutations.{perm-mem}
use Rattle.rules.proofs.Sums.{smaller, larger}
use Rattle.rules.proofs.Sorting.{rising-ids-perm}
use Rattle.rules.proofs.ReasonLaws.{listed-feedback→}
use Rattle.rules.proofs.Scenes.{EndsListed, DistinctIds}
use Rattle.rules.proofs.Acceptance.{AcceptedScene, accepted→, accepted-ids, edge-ends}
use Rattle.rules.proofs.DecimalLength.{decimal-few}
use Rattle.laws.proofs.Chains.{inner, chain-parts}
use Rattle.laws.proofs.Projection.{first-edges-out, chain-ids}
use Rattle.laws.proofs.Room.{edges_fit_lem, reasons-fit, feedback-fit, projected-fit, path-ids-fit}
use Rattle.laws.proofs.RefusalNumbers.{kind-number}
use Rattle.laws.proofs.ReadScenes.{fields-components, fields-connections}
use Rattle.laws.proofs.ReportLines.{Bits64, Short, ReasonShort, ProjectedShort, UpTo, joined, line, flat-size, number-64, number-32, sum-capped, extreme-capped, scope-size, pattern-size, reason-line-size, loop-size, projected-size, label-lines-size}

-- "A refusal prints two lines only"
pub refusal-room : (r : Refusal) → r.place ≤ largest64 → length (refusal_text r) ≤ 1048576
unfolding refusal_text
refusal-room r h = omega (arith, (joined (line (bytes "refusal=") (number-32 (refusal_code r.kind) (omega (arith, (kind-number r.kind).1)))) (line (bytes "place=") (number-64 r.place h))).size)

-- The whole report

number-few : (v n : ℕ) → v ≤ n → UpTo (n + 1) (decimal v)
number-few v n h = record { size = omega (arith, decimal-few v) }

module _ (cs : List Component) (es : List Edge) (short : Short (map id_of cs)) where
  rising-short : Short (rising_ids cs)
  rising-short v m = short v (perm-mem (Permᴰ.symm (rising-ids-perm cs)) v m)

  feedback-short : Short (feedback cs es)
  feedback-short v m = let r = listed-feedback→ cs es v m in subst Bits64 r.3 (short _ (Memᴰ.map id_of r.1))

  own-short : (r : Reason) → Memᴰ r (flat_map own_reason cs) → ReasonShort r
  unfolding own_reason
  own-short r m = let k = flat_out own_reason cs m in at k.0 k.1 k.2
    where
      at : (c : Component) → Memᴰ c cs → Memᴰ r (own_reason c) → ReasonShort r
      at c k n = go (eqb c.kind comparator_code || eqb c.kind piston_code) (eqb c.kind repeater_code && eqb c.locked 1) n
        where
          go : (a b : Bool) → Memᴰ r (cond a (stateful_or_mechanical_device c.id c.kind ∷ []) (cond b (locked_repeater c.id ∷ []) [])) → ReasonShort r
          go true b i = subst ReasonShort (sym (Memᴰ.eq_of_singleton i)) (short _ (Memᴰ.map id_of k))
          go false true i = subst ReasonShort (sym (Memᴰ.eq_of_singleton i)) (short _ (Memᴰ.map id_of k))
          go false false i = absurd (Memᴰ.not-nil i)

  unequal-short : (r : Reason) → Memᴰ r (unequal_reasons cs es) → ReasonShort r
  unfolding unequal_reasons unequal_reasons_by unequal_reason
  unequal-short r m =
      let d = delay_at cs in
      let k = Memᴰ.of_map (unequal_reason es d d) (keep (unequal_at es d d) (rising_ids cs)) m in
      subst ReasonShort k.2 (rising-short _ (keep_out (unequal_at es d d) (rising_ids cs) k.1).0, extreme-capped smaller es d k.0, extreme-capped larger es d k.0)

  reasons-size : UpTo (75 + 137 * length cs) (flat_map (reason_line (feedback cs es)) (reasons cs es))
  unfolding reasons temporal_reasons
  reasons-size = record {
    size = rw (flat_append lines (loop ++ own) (unequal_reasons cs es), flat_append lines loop own) (omega (
      arith,
      length-append (flat_map lines loop ++ flat_map lines own) (flat_map lines (unequal_reasons cs es)),
      length-append (flat_map lines loop) (flat_map lines own),
      (loop-size (feedback cs es) (feedback cs es) feedback-short).size,
      (flat-size lines 58 own (λ r m. reason-line-size (feedback cs es) r (own-short r m))).size,
      (flat-size lines 58 (unequal_reasons cs es) (λ r m. reason-line-size (feedback cs es) r (unequal-short r m))).size,
      length-append (loop ++ own) (unequal_reasons cs es),
      length-append loop own,
      reasons-fit cs es,
      feedback-fit cs es,
    ));
  }
    where
      lines : Reason → List ℕ
      lines = reason_line (feedback cs es)

      loop : List Reason
      loop = feedback_reason (feedback cs es)

      own : List Reason
      own = flat_map own_reason cs

  labels-size : UpTo (59 * length cs) (flat_map (label_lines (label es (delay_at cs) (delay_at cs))) (map id_of cs))
  labels-size = record {
    size = omega (
      arith,
      (flat-size (label_lines (label es (delay_at cs) (delay_at cs))) 59 (map id_of cs) (λ v m. label-lines-size es (delay_at cs) (delay_at cs) v (short v m))).size,
      length-map cs id_of,
    );
  }

  module _ (listed : EndsListed cs es) (distinct : DistinctIds cs) where
    projected-short : (p : ProjectedEdge) → Memᴰ p (projected cs es) → ProjectedShort p
    unfolding projected projected_along projected_by
    projected-short p m = let r = Memᴰ.of_map (projected_along cs es) (first_edges cs es) m in subst ProjectedShort r.2 (along-edge r.0 (first-edges-out cs es r.0 r.1).0)
      where
        inverted-digit : (b : Bool) → cond b 1 0 < 10
        inverted-digit b = grind arith

        along-edge : (e : Edge) → Memᴰ e es → ProjectedShort (projected_along cs es e)
        along-edge e k = record {
          source_short = short _ (listed e k).0;
          sink_short = met _ (Memᴰ.append_right (inner cs es e) (Memᴰ.head refl));
          inverted_short = inverted-digit (flips (inverts_at cs) (before_last (chain_from cs es e)));
          minimum_short = sum-capped (delay_at cs) (before_last (chain_from cs es e));
          maximum_short = sum-capped (delay_at cs) (before_last (chain_from cs es e));
          path_short = λ v n. ⊎_elim (λ q. short v (Memᴰ.cast q (listed e k).0)) (met v) (Memᴰ.cases_cons (subst (Memᴰ v) (chain-parts cs es e) n));
        }
          where
            met : Short (inner cs es e ++ (last_of (chain_from cs es e) ∷ []))
            met v n = short v (chain-ids cs es (λ f i. (listed f i).1) e k v n)

    -- a report of N components and M connections, whose ids have 64 bits: of the 152 bytes for each connection, 109 are a projected edge's and 42 those
    -- of two ids on a path; of the 242 for each component, 116 are two reasons', 59 a label's and 63 those of an id in Feedback, pattern and paths
    pub report-length : (m : ℕ) → length es ≤ m → length (report cs es) ≤ 167 + 242 * length cs + 152 * m
    unfolding report
    report-length m h =
        let all =
        joined (line (bytes "scope=") (scope-size (scope cs es))) (joined (line (bytes "reasons=") (number-few (length (reasons cs es)) (2 * length cs + 1) (reasons-fit cs es))) (joined reasons-size
        (joined (line (bytes "retained=") (number-few _ (length cs) (count_most (λ c. not (compressed cs es c.id)) cs))) (joined (line (bytes "compressed=") (number-few _ (length cs) (count_most (λ c. compressed cs es c.id) cs)))
        (joined (line (bytes "projected=") (number-few (length (projected cs es)) m (projected-fit cs es listed distinct m h))) (joined (projected-size (projected cs es) projected-short)
        (joined (line (bytes "pattern=") (pattern-size (feedback cs es) (pattern cs es) feedback-short)) labels-size))))))) in
        omega (arith, all.size, projected-fit cs es listed distinct m h, path-ids-fit cs es listed distinct m h, feedback-fit cs es)

-- So for an accepted scene whose ids have 64 bits
module _ (limits : SceneLimits) (s : Scene) (accepts : check_read limits s ≡ accepted) (short : (c : Component) → Memᴰ c s.components → c.id ≤ largest64) where
  facts : AcceptedScene limits (component_fields s.components) (connection_fields s.connections) []
  unfolding check_read
  facts = accepted→ limits (component_fields s.components) (connection_fields s.connections) [] accepts

  short-ids : Short (map id_of s.components)
  short-ids v m = let r = Memᴰ.of_map id_of s.components m in subst Bits64 r.2 (short r.0 r.1)

  pub accepted-report-length : length (report s.components (edges s)) ≤ 167 + 242 * limits.components + 152 * limits.connections
  accepted-report-length = omega (
    arith,
    report-length s.components (edges s) short-ids (rw (fields-components s.components, fields-connections s.connections) at (edge-ends facts)) (rw (fields-components s.components) at (accepted-ids facts))
        (length s.connections) (edges_fit_lem s.components s.connections),
    facts.components_few,
    facts.connections_few,
    length-map s.components id_of,
    length-map s.connections (λ n. n.source),
  )

  -- the report fits, also with limits above those of today
  pub report-room-within : limits.components ≤ 1927 → limits.connections ≤ 2730 → length (report s.components (edges s)) ≤ 1048576
  report-room-within h k = omega (arith, accepted-report-length)

-- no report is cut
pub report-room : (s : Scene) → check_read scene_limits s ≡ accepted → ((c : Component) → Memᴰ c s.components → c.id ≤ largest64)
    → length (report s.components (edges s)) ≤ 1048576
report-room s accepts short = report-room-within scene_limits s accepts short (omega arith) (omega arith)
