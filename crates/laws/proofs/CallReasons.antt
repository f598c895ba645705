-- Demand 3, second half, for what list 3 holds after an accepted call. Assumes nothing.
use mathlib.Core.List.Memᴰ
use mathlib.Core.List.{List, Memᴰ, map}
use mathlib.Core.Path.{◌≡◌, sym, ap, subst, ◌∙◌}
use Prim.Native.Nat.{ℕ, ◌-◌, ◌*◌, ◌≤◌, ◌<◌}
use native.Mathlib.Omega.{arith}
use Rattle.std.specs.Prelude.{Ok}
use lib.ListN.{length, get_or, length-map}
use Rattle.rules.specs.Lists.{written}
use Rattle.rules.specs.Delay.{cap}
use Rattle.rules.specs.Scene.{Scene, ComponentLists, ConnectionLists, components_of, connections_of, scene_of, edges, edges_of, delay_at}
use Rattle.rules.specs.Paths.{total}
use Rattle.rules.specs.Reasons.{Reason, unequal_reconvergent_delay, feedback_loop, reason_kind, reason_component, reason_minimum, reason_maximum, reasons, UnequalDelay}
use Rattle.rules.specs.Refusals.{accepted, SceneLimits, scene_limits}
use Rattle.rules.specs.Assess.{AssessLists, assessment, check_assess, assess_checked, AssessedBy, AssessCall}
use Rattle.rules.specs.Analyze.{AnalyzeLists, AnalyzeCall}
use Rattle.rules.specs.declared.answers.Analysis.{Analysis}
use Rattle.rules.specs.declared.answers.Assessment.{Assessment}
use Rattle.rules.proofs.Indices.{at_mem, mem-at}
use Rattle.rules.proofs.Written.{written-length}
use Rattle.laws.proofs.UnequalReasons.{unequal-reason→, →unequal-reason}
use Rattle.laws.proofs.StoredEdges.{field_back}
use Rattle.laws.proofs.CallRefusals.{assess-accepted}
use Rattle.laws.proofs.CallEntries.{assessed-same}
use Rattle.laws.proofs.CallsTogether.{analyze-parts}

-- the list has an entry of this index, and it is x
abbrev pub EntryIs : List ℕ → ℕ → ℕ → Type 0
EntryIs l k x = (k < length l) × (get_or l k 0 ≡ x)

-- one of the entries of list 3 in use is an unequal-delay reason (kind 0) that names v and shows these two sums
pub record ShowsUnequal (used : ℕ) (new : AssessLists) (v low high : ℕ) : Type 0 where
  pub index : ℕ
  pub in_use : index < used
  pub kind : EntryIs new.reason_kinds index 0
  pub component : EntryIs new.reason_components index v
  pub minimum : EntryIs new.reason_minimums index low
  pub maximum : EntryIs new.reason_maximums index high

-- a reason of kind 0 is an unequal delay
kind-unequal : (r : Reason) → reason_kind r ≡ 0 → r ≡ unequal_reconvergent_delay (reason_component r) (reason_minimum r) (reason_maximum r)
kind-unequal r e = grind arith

-- an entry of a list to which one field of these reasons was written
module _ (rs : List Reason) (field : Reason → ℕ) (l old : List ℕ) (written-to : l ≡ written old (map field rs)) (k : ℕ) (below : k < length rs) where
  field-entry : EntryIs l k (field (get_or rs k feedback_loop))
  field-entry = (
    omega (arith, ap length written-to, written-length old (map field rs), length-map rs field),
    field_back field l old rs feedback_loop 0 k written-to below,
  )

-- list 3 shows an unequal-delay reason exactly if it is one of the reasons
module _ (s : Scene) (old new : AssessLists) (a : Assessment) (call : AssessedBy accepted s old new (Ok a)) (v low high : ℕ) where
  abbrev rs : List Reason
  rs = reasons s.components (edges s)

  all-used : a.reasons ≡ length rs
  unfolding assessment
  all-used = ap (λ a. a.reasons) (assessed-same call.answered)

  shown→listed : ShowsUnequal a.reasons new v low high → Memᴰ (unequal_reconvergent_delay v low high) (reasons s.components (edges s))
  shown→listed x =
      let k : x.index < length rs = omega (arith, x.in_use, all-used) in
      let r = get_or rs x.index feedback_loop in
      let e : reason_kind r ≡ 0 = sym (field-entry rs reason_kind _ _ call.reason_kinds x.index k).1 ∙ x.kind.1 in
      let c : reason_component r ≡ v = sym (field-entry rs reason_component _ _ call.reason_components x.index k).1 ∙ x.component.1 in
      let p : reason_minimum r ≡ low = sym (field-entry rs reason_minimum _ _ call.reason_minimums x.index k).1 ∙ x.minimum.1 in
      let q : reason_maximum r ≡ high = sym (field-entry rs reason_maximum _ _ call.reason_maximums x.index k).1 ∙ x.maximum.1 in
      let whole = kind-unequal r e in
      let here : unequal_reconvergent_delay v low high ≡ r = cc in
      Memᴰ.cast here (at_mem feedback_loop rs x.index k)

  listed→shown : Memᴰ (unequal_reconvergent_delay v low high) (reasons s.components (edges s)) → ShowsUnequal a.reasons new v low high
  listed→shown n =
      let r = mem-at feedback_loop n in
      record {
        index = r.0;
        in_use = omega (arith, r.1, all-used);
        kind = subst (EntryIs new.reason_kinds r.0) (ap reason_kind r.2) (field-entry rs reason_kind _ _ call.reason_kinds r.0 r.1);
        component = subst (EntryIs new.reason_components r.0) (ap reason_component r.2) (field-entry rs reason_component _ _ call.reason_components r.0 r.1);
        minimum = subst (EntryIs new.reason_minimums r.0) (ap reason_minimum r.2) (field-entry rs reason_minimum _ _ call.reason_minimums r.0 r.1);
        maximum = subst (EntryIs new.reason_maximums r.0) (ap reason_maximum r.2) (field-entry rs reason_maximum _ _ call.reason_maximums r.0 r.1);
      }

-- "at least two connections end there and two path sums .. differ": of the edges ("structural supports aside"), with sums that add and do
-- not stop
abbrev pub Unequal : ComponentLists → ConnectionLists → (v low high : ℕ) → Type 0
Unequal l m v low high =
    let plain = total (delay_at (components_of l)) in
    UnequalDelay (components_of l) (edges_of (connections_of m)) plain plain v low high

module _ (limits : SceneLimits) (room : (limits.components - 1) * 255 ≤ cap) (l : ComponentLists) (m : ConnectionLists) (old new : AssessLists)
    (a : Assessment) (call : AssessCall limits l m old new (Ok a)) (v low high : ℕ) where
  accepts : assess_checked limits l m old ≡ accepted
  accepts = (assess-accepted limits l m old new a call).0

  -- "In every accepted scene .. an unequal-delay reason names a component exactly when .. It shows those two sums."
  pub shown→unequal : ShowsUnequal a.reasons new v low high → Unequal l m v low high
  unfolding check_assess
  shown→unequal x = unequal-reason→ limits l m _ accepts room v low high (shown→listed (scene_of l m) old new a (assess-accepted limits l m old new a call).1 v low high x)

  pub unequal→shown : Unequal l m v low high → ShowsUnequal a.reasons new v low high
  unfolding check_assess
  unequal→shown u = listed→shown (scene_of l m) old new a (assess-accepted limits l m old new a call).1 v low high (→unequal-reason limits l m _ accepts room v low high u)

-- so with the limits of the base: 511 delays of 255 do not meet the cap
module _ (l : ComponentLists) (m : ConnectionLists) (old new : AssessLists) (a : Assessment)
    (call : AssessCall scene_limits l m old new (Ok a)) (v low high : ℕ) where
  pub base-shown→unequal : ShowsUnequal a.reasons new v low high → Unequal l m v low high
  base-shown→unequal = shown→unequal scene_limits (omega arith) l m old new a call v low high

  pub base-unequal→shown : Unequal l m v low high → ShowsUnequal a.reasons new v low high
  base-unequal→shown = unequal→shown scene_limits (omega arith) l m old new a call v low high

-- The same of the call that writes lists 0 to 8
module _ (l : ComponentLists) (m : ConnectionLists) (old new : AnalyzeLists) (a : Analysis)
    (call : AnalyzeCall scene_limits l m old new (Ok a)) (v low high : ℕ) where
  assessed : AssessCall scene_limits l m old.assessment new.assessment (Ok a.assessment)
  assessed = (analyze-parts scene_limits l m old new a call).1

  pub analyzed-shown→unequal : ShowsUnequal a.assessment.reasons new.assessment v low high → Unequal l m v low high
  analyzed-shown→unequal = base-shown→unequal l m old.assessment new.assessment a.assessment assessed v low high

  pub analyzed-unequal→shown : Unequal l m v low high → ShowsUnequal a.assessment.reasons new.assessment v low high
  analyzed-unequal→shown = base-unequal→shown l m old.assessment new.assessment a.assessment assessed v low high
