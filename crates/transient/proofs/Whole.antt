-- The whole call: the events by component, the places found, the findings and the answer. Assumes nothing.
use mathlib.Core.Bool.{Bool}
use mathlib.Core.List.{List, [], ◌∷◌, map, map-map, Memᴰ}
use mathlib.Core.Path.{◌≡◌, refl, sym, ap, subst, ◌∙◌}
use Prim.Native.Nat.{ℕ, ◌+◌, ◌≤◌}
use native.Mathlib.Omega.{arith}
use lib.ListN.{length, take}
use Rattle.std.specs.Prelude.{Ok, Err}
use Rattle.rules.specs.Lists.{written_from}
use Rattle.rules.specs.Ordered.{ordered}
use Rattle.rules.specs.Codes.{unit_of}
use Rattle.rules.specs.Refusals.{Checked, accepted, first_refusal, shortest}
use Rattle.rules.specs.Verdicts.{contracts_of, Finding, finding_of, findings, FindingLists, finding_lengths, FindingsListed, tallies}
use Rattle.rules.specs.Windows.{window_places, pulse_at}
use Rattle.rules.specs.Traces.{TraceLimits, trace_limits, TraceLists, event_count, contract_count, trace_tests, trace_findings, AssessedBy}
use Rattle.rules.specs.Lent.{events_lent, contracts_lent, trace_lent, findings_lent}
use Rattle.rules.specs.declared.lent.Trace.{Trace}
use Rattle.rules.specs.declared.lent.Findings.{Findings}
use Rattle.rules.specs.declared.answers.Refusal.{Refusal}
use Rattle.rules.proofs.Ordering.{ordered-length, ordered-below}
use Rattle.rules.proofs.Shortest.{short-any}
use Rattle.rules.proofs.TraceAcceptance.{AcceptedTrace, accepted→trace, refused-assessed}
use Rattle.rules.proofs.Windows.{pulses-windows}
use Rattle.rules.proofs.Written.{written-front}
use Rattle.order.specs.Sorted.{SortedPositions}
use Rattle.order.proofs.Promises.{fitting-sorts}
use Rattle.transient.specs.Row.{Inside}
use Rattle.transient.specs.Judged.{found, FindingRoom}

-- Room for each field
pub rooms : (start n : ℕ) (o : FindingLists) → ((k : ℕ) → Memᴰ k (finding_lengths o) → start + n ≤ k) → FindingRoom start n o
unfolding finding_lengths
rooms start n o h =
    record {
      components_room = h _ (Memᴰ.head refl);
      polarities_room = h _ (Memᴰ.tail (Memᴰ.head refl));
      units_room = h _ (Memᴰ.tail (Memᴰ.tail (Memᴰ.head refl)));
      start_ticks_room = h _ (Memᴰ.tail (Memᴰ.tail (Memᴰ.tail (Memᴰ.head refl))));
      end_ticks_room = h _ (Memᴰ.tail (Memᴰ.tail (Memᴰ.tail (Memᴰ.tail (Memᴰ.head refl)))));
      widths_room = h _ (Memᴰ.tail (Memᴰ.tail (Memᴰ.tail (Memᴰ.tail (Memᴰ.tail (Memᴰ.head refl))))));
      steady_room = h _ (Memᴰ.tail (Memᴰ.tail (Memᴰ.tail (Memᴰ.tail (Memᴰ.tail (Memᴰ.tail (Memᴰ.head refl)))))));
      baselines_room = h _ (Memᴰ.tail (Memᴰ.tail (Memᴰ.tail (Memᴰ.tail (Memᴰ.tail (Memᴰ.tail (Memᴰ.tail (Memᴰ.head refl))))))));
      starts_room = h _ (Memᴰ.tail (Memᴰ.tail (Memᴰ.tail (Memᴰ.tail (Memᴰ.tail (Memᴰ.tail (Memᴰ.tail (Memᴰ.tail (Memᴰ.head refl)))))))));
      ends_room = h _ (Memᴰ.tail (Memᴰ.tail (Memᴰ.tail (Memᴰ.tail (Memᴰ.tail (Memᴰ.tail (Memᴰ.tail (Memᴰ.tail (Memᴰ.tail (Memᴰ.head refl))))))))));
      verdicts_room = h _ (Memᴰ.tail (Memᴰ.tail (Memᴰ.tail (Memᴰ.tail (Memᴰ.tail (Memᴰ.tail (Memᴰ.tail (Memᴰ.tail (Memᴰ.tail (Memᴰ.tail (Memᴰ.head refl)))))))))));
      rationales_room = h _ (Memᴰ.tail (Memᴰ.tail (Memᴰ.tail (Memᴰ.tail (Memᴰ.tail (Memᴰ.tail (Memᴰ.tail (Memᴰ.tail (Memᴰ.tail (Memᴰ.tail (Memᴰ.tail (Memᴰ.head refl))))))))))));
    }

-- The answer

-- list 9 is tested by its shortest number list as by all of them
trace-shortest : (limits : TraceLimits) (t : TraceLists) (need n : ℕ) (ns : List ℕ) → first_refusal (trace_tests limits t need (shortest (n ∷ ns) ∷ [])) ≡ first_refusal (trace_tests limits t need (n ∷ ns))
unfolding trace_tests
trace-shortest limits t need n ns = rw (sym (short-any need n ns))

module _ (start : ℕ) (trace : Trace) (lent : Findings) {room : ℕ} (shortest-room : room ≡ shortest (finding_lengths (findings_lent lent))) where
  abbrev t : TraceLists
  t = trace_lent trace

  abbrev old : FindingLists
  old = findings_lent lent

  abbrev checked : Checked
  checked = first_refusal (trace_tests trace_limits t (start + event_count t) (finding_lengths old))

  checked-by : {v : Checked} → v ≡ first_refusal (trace_tests trace_limits t (start + length t.events.ticks) (room ∷ [])) → v ≡ checked
  unfolding event_count finding_lengths
  checked-by e =
      e ∙ ap (λ n. first_refusal (trace_tests trace_limits t (start + length t.events.ticks) (n ∷ []))) shortest-room ∙ trace-shortest trace_limits t (start + length t.events.ticks) _ _

  pub refused-call : {r : Refusal} → Err r ≡ first_refusal (trace_tests trace_limits t (start + length t.events.ticks) (room ∷ [])) → AssessedBy checked start t old old (Err r)
  refused-call e = refused-assessed old (sym (checked-by e))

  module _ (e : accepted ≡ first_refusal (trace_tests trace_limits t (start + length t.events.ticks) (room ∷ []))) where
    accepted-trace : AcceptedTrace trace_limits t (start + event_count t) (finding_lengths old)
    accepted-trace = accepted→trace trace_limits t (start + event_count t) (finding_lengths old) (sym (checked-by e))

    accepted-aligned : length t.events.components ≡ length t.events.ticks
    accepted-aligned = accepted-trace.events_aligned.components_length

    pub accepted-few : length t.events.components ≤ 4096
    unfolding event_count
    accepted-few = omega (arith, accepted-aligned, accepted-trace.events_few)

    -- list 9 has room for the findings
    accepted-room : (n : ℕ) → n ≤ length t.events.components → FindingRoom start n old
    unfolding event_count
    accepted-room n h = rooms start n old (λ k m. omega (arith, accepted-aligned, accepted-trace.lists_long k m))

    -- The events by component, and the places found among them. What is accepted is this trace
    module _ {it : Trace} (same : it ≡ trace) {order scratch order' scratch' : List ℕ} {b : Bool} (sorted : SortedPositions t.events.components order scratch order' scratch' b) (long : length order ≡ 4096) (long₂ : length scratch ≡ 4096) where
      abbrev n : ℕ
      n = length t.events.components

      abbrev row : List ℕ
      row = take n order'

      row-ordered : row ≡ ordered t.events.components
      row-ordered =
          ap (take n) (fitting-sorts sorted (omega (arith, accepted-few)) (omega (arith, accepted-few))).1
          ∙ written-front order (ordered t.events.components) n (ordered-length t.events.components)

      row_length : length row ≡ n
      row_length = ap length row-ordered ∙ ordered-length t.events.components

      pub row-inside : Inside (length it.events.ticks.now) row
      row-inside = rw (same, row-ordered) (λ k h. omega (arith, ordered-below t.events.components k (omega (arith, ordered-length t.events.components)), accepted-aligned))

      pub row-room : FindingRoom start (length row) old
      row-room = accepted-room (length row) (omega (arith, row_length))

      -- the findings of the trace are those of the row
      windows-ordered : window_places t.events row (length row) ≡ window_places t.events (ordered t.events.components) (length t.events.ticks)
      windows-ordered = ap (λ x. window_places t.events x (length row)) row-ordered ∙ ap (window_places t.events (ordered t.events.components)) (row_length ∙ accepted-aligned)

      findings-here : map (found (contracts_of t.contracts) t.unit t.events row) (window_places t.events row (length row)) ≡ trace_findings t
      unfolding trace_findings findings
      findings-here =
          let cs = contracts_of t.contracts in
          ap (map (found cs t.unit t.events row)) windows-ordered
          ∙ ap (λ x. map (found cs t.unit t.events x) (window_places t.events (ordered t.events.components) (length t.events.ticks))) row-ordered
          ∙ sym (map-map (finding_of cs) (pulse_at (unit_of t.unit) t.events (ordered t.events.components)) (window_places t.events (ordered t.events.components) (length t.events.ticks)))
          ∙ ap (map (finding_of cs)) (sym (pulses-windows (unit_of t.unit) t.events accepted-aligned))

      -- those of what is accepted
      abbrev row_findings : List Finding
      row_findings = map (found (contracts_of (contracts_lent it.contracts)) it.unit (events_lent it.events) row) (window_places (events_lent it.events) row (length row))

      found-all : row_findings ≡ trace_findings t
      found-all = ap (λ x. map (found (contracts_of (contracts_lent x.contracts)) x.unit (events_lent x.events) row) (window_places (events_lent x.events) row (length row))) same ∙ findings-here

      pub accepted-call : {new : FindingLists} {count : ℕ} {tallies' : List ℕ} → FindingsListed (written_from start) row_findings old new → count ≡ length row_findings → tallies' ≡ tallies row_findings
          → AssessedBy checked start t old new (Ok (record { findings = count; contracts_applied = length t.contracts.components; tallies = tallies' }))
      unfolding contract_count
      accepted-call {new} {count} {tallies'} listed counted tallied = rw (← checked-by e) (record {
        assessed = rw (tallied, counted, found-all);
        numbered = rw (counted, found-all);
        tallied = rw (tallied, found-all);
        listed = subst (λ fs. FindingsListed (written_from start) fs old new) found-all listed;
      })
