-- What an accepted call that writes lists 3 to 8 answers, and what the entries in use of its lists are. Assumes nothing.
use mathlib.Core.List.{List, map}
use mathlib.Core.Path.{◌≡◌, sym, ap, ◌∙◌}
use Prim.Native.Nat.{ℕ}
use Rattle.std.specs.Prelude.{Result, Ok}
use lib.ListN.{length, take, length-map}
use Rattle.rules.specs.Lists.{written}
use Rattle.rules.specs.Scene.{Scene, ComponentLists, ConnectionLists, scene_of, edges}
use Rattle.rules.specs.Labels.{labels, settled_flag, low_sum, high_sum}
use Rattle.rules.specs.Reasons.{reasons, reason_kind, reason_component, reason_block, reason_minimum, reason_maximum, feedback}
use Rattle.rules.specs.Projection.{projected, marks, path_starts, path_length, path_ids}
use Rattle.rules.specs.Refusals.{accepted, SceneLimits}
use Rattle.rules.specs.Assess.{AssessLists, assessment, AssessedBy, AssessCall}
use Rattle.rules.specs.declared.answers.Assessment.{Assessment}
use Rattle.rules.specs.declared.answers.Refusal.{Refusal}
use Rattle.rules.proofs.Written.{written-front}
use Rattle.laws.proofs.Room.{marks-fit, labels-fit}
use Rattle.laws.proofs.PathParts.{starts-length}
use Rattle.laws.proofs.StoredEdges.{stored_edges, stored_back}
use Rattle.laws.proofs.CallRefusals.{assess-accepted}

-- The entries in use after the call: as many of lists 3, 4, 6 and 7 as the assessment says, and one of lists 5 and 8 for each component. That
-- so many entries are the given ones also says that the list is that long
pub record EntriesInUse (s : Scene) (a : Assessment) (new : AssessLists) : Type 0 where
  pub is_assessment : a ≡ assessment s.components (edges s)
  -- list 3
  pub kinds_used : take a.reasons new.reason_kinds ≡ map reason_kind (reasons s.components (edges s))
  pub components_used : take a.reasons new.reason_components ≡ map reason_component (reasons s.components (edges s))
  pub blocks_used : take a.reasons new.reason_blocks ≡ map reason_block (reasons s.components (edges s))
  pub minimums_used : take a.reasons new.reason_minimums ≡ map reason_minimum (reasons s.components (edges s))
  pub maximums_used : take a.reasons new.reason_maximums ≡ map reason_maximum (reasons s.components (edges s))
  -- list 4
  pub feedback_used : take a.feedback new.feedback_ids ≡ feedback s.components (edges s)
  -- list 5
  pub marks_used : take (length s.components) new.marks ≡ marks s.components (edges s)
  -- lists 6 and 7
  pub sources_used : take a.projected new.projected_sources ≡ map (λ p. p.source) (projected s.components (edges s))
  pub sinks_used : take a.projected new.projected_sinks ≡ map (λ p. p.sink) (projected s.components (edges s))
  pub inverted_used : take a.projected new.projected_inverted ≡ map (λ p. p.inverted) (projected s.components (edges s))
  pub low_delays_used : take a.projected new.projected_minimums ≡ map (λ p. p.minimum) (projected s.components (edges s))
  pub high_delays_used : take a.projected new.projected_maximums ≡ map (λ p. p.maximum) (projected s.components (edges s))
  pub starts_used : take a.projected new.projected_starts ≡ path_starts (projected s.components (edges s))
  pub lengths_used : take a.projected new.projected_lengths ≡ map path_length (projected s.components (edges s))
  pub path_ids_used : take a.path_ids new.path_ids ≡ path_ids (projected s.components (edges s))
  -- the same read back entry by entry
  pub edges_used : stored_edges new a.projected ≡ projected s.components (edges s)
  -- list 8
  pub settled_used : take (length s.components) new.label_settled ≡ map settled_flag (labels s.components (edges s))
  pub lows_used : take (length s.components) new.label_lows ≡ map low_sum (labels s.components (edges s))
  pub highs_used : take (length s.components) new.label_highs ≡ map high_sum (labels s.components (edges s))

module _ {A : Type 0} (l old xs : List A) (used : ℕ) where
  used-list : l ≡ written old xs → used ≡ length xs → take used l ≡ xs
  used-list e u = rw e (written-front old xs used (sym u))

module _ {A B : Type 0} (f : A → B) (l old : List B) (xs : List A) (used : ℕ) where
  pub used-field : l ≡ written old (map f xs) → used ≡ length xs → take used l ≡ map f xs
  used-field e u = used-list l old (map f xs) used e (u ∙ sym (length-map xs f))

-- equal answers say the same
pub assessed-same : {A : Type 0} {a b : A} → ◌≡◌ {A = Result A Refusal} (Ok a) (Ok b) → a ≡ b
assessed-same e = cc

entries-in-use : (s : Scene) (old new : AssessLists) (a : Assessment) → AssessedBy accepted s old new (Ok a) → EntriesInUse s a new
unfolding assessment
entries-in-use s old new a call =
    let e = assessed-same call.answered in
    let rs = reasons s.components (edges s) in
    let ps = projected s.components (edges s) in
    let ls = labels s.components (edges s) in
    let r = ap (λ a. a.reasons) e in
    let p = ap (λ a. a.projected) e in
    let m = sym (marks-fit s.components (edges s)) in
    let n = sym (labels-fit s.components (edges s)) in
    record {
      is_assessment = e;
      kinds_used = used-field reason_kind _ _ rs _ call.reason_kinds r;
      components_used = used-field reason_component _ _ rs _ call.reason_components r;
      blocks_used = used-field reason_block _ _ rs _ call.reason_blocks r;
      minimums_used = used-field reason_minimum _ _ rs _ call.reason_minimums r;
      maximums_used = used-field reason_maximum _ _ rs _ call.reason_maximums r;
      feedback_used = used-list _ _ (feedback s.components (edges s)) _ call.feedback_ids (ap (λ a. a.feedback) e);
      marks_used = used-list _ _ (marks s.components (edges s)) _ call.marks m;
      sources_used = used-field (λ p. p.source) _ _ ps _ call.projected_sources p;
      sinks_used = used-field (λ p. p.sink) _ _ ps _ call.projected_sinks p;
      inverted_used = used-field (λ p. p.inverted) _ _ ps _ call.projected_inverted p;
      low_delays_used = used-field (λ p. p.minimum) _ _ ps _ call.projected_minimums p;
      high_delays_used = used-field (λ p. p.maximum) _ _ ps _ call.projected_maximums p;
      starts_used = used-list _ _ (path_starts ps) _ call.projected_starts (p ∙ sym (starts-length 0 ps));
      lengths_used = used-field path_length _ _ ps _ call.projected_lengths p;
      path_ids_used = used-list _ _ (path_ids ps) _ call.path_ids (ap (λ a. a.path_ids) e);
      edges_used = ap (λ a. stored_edges new a.projected) e ∙ stored_back s old new call;
      settled_used = used-field settled_flag _ _ ls _ call.label_settled n;
      lows_used = used-field low_sum _ _ ls _ call.label_lows n;
      highs_used = used-field high_sum _ _ ls _ call.label_highs n;
    }

-- "Both get the answers of document 01's rules"
pub assess-entries : (limits : SceneLimits) (l : ComponentLists) (m : ConnectionLists) (old new : AssessLists) (a : Assessment) → AssessCall limits l m old new (Ok a)
    → EntriesInUse (scene_of l m) a new
assess-entries limits l m old new a call = entries-in-use (scene_of l m) old new a (assess-accepted limits l m old new a call).1
