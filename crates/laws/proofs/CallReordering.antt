-- Demand 3, first half, for what the lists hold after two calls that write lists 3 to 8: "Demand 3 compares entries in use". Assumes nothing.
use mathlib.Core.Bool.{Bool}
use mathlib.Core.List.{List, [], ◌∷◌}
use mathlib.Core.Path.{◌≡◌, sym, ap, ◌∙◌}
use Prim.Native.Nat.{ℕ}
use Rattle.std.specs.Prelude.{Result, Ok}
use lib.ListN.{length, get_or, take}
use Rattle.rules.specs.Lists.{count}
use Rattle.rules.specs.Scene.{Scene, ComponentLists, ConnectionLists, components_of, scene_of}
use Rattle.rules.specs.Projection.{ProjectedEdge}
use Rattle.rules.specs.Refusals.{accepted, SceneLimits}
use Rattle.rules.specs.Assess.{AssessLists, check_assess, assess_checked, scene_answer, AssessCall}
use Rattle.rules.specs.declared.answers.Assessment.{Assessment}
use Rattle.rules.specs.declared.answers.Refusal.{Refusal}
use Rattle.rules.proofs.Columns.{ConnectionsAligned}
use Rattle.laws.proofs.Reordering.{Reordered, same-answers, same-assess}
use Rattle.laws.proofs.StoredEdges.{stored_edges}
use Rattle.laws.proofs.CallRefusals.{assess-accepted}
use Rattle.laws.proofs.CallEntries.{EntriesInUse, assess-entries}

-- What two calls with n components answer and leave in their lists. After an accepted call every list is as long as its entries in use
-- (CallEntries, assess-entries)
pub record SameEntries (n : ℕ) (a a' : Assessment) (new new' : AssessLists) : Type 0 where
  -- scope, pattern, confidence and every count
  pub same_assessment : a ≡ a'
  -- "the same labels"
  pub same_label_settled : take n new.label_settled ≡ take n new'.label_settled
  pub same_label_lows : take n new.label_lows ≡ take n new'.label_lows
  pub same_label_highs : take n new.label_highs ≡ take n new'.label_highs
  -- "the same reasons in the same order"
  pub same_reason_kinds : take a.reasons new.reason_kinds ≡ take a'.reasons new'.reason_kinds
  pub same_reason_components : take a.reasons new.reason_components ≡ take a'.reasons new'.reason_components
  pub same_reason_blocks : take a.reasons new.reason_blocks ≡ take a'.reasons new'.reason_blocks
  pub same_reason_minimums : take a.reasons new.reason_minimums ≡ take a'.reasons new'.reason_minimums
  pub same_reason_maximums : take a.reasons new.reason_maximums ≡ take a'.reasons new'.reason_maximums
  -- "a Feedback reason with list 4's ids"
  pub same_feedback_ids : take a.feedback new.feedback_ids ≡ take a'.feedback new'.feedback_ids
  -- "the same retained and compressed components"
  pub same_marks : take n new.marks ≡ take n new'.marks
  -- "each projected edge with its path's ids, wherever these are stored, equally often": any test is passed equally often
  pub same_projected : (test : ProjectedEdge → Bool) → count test (stored_edges new a.projected) ≡ count test (stored_edges new' a'.projected)

module _ (s t : Scene) (r : Reordered s t) (a a' : Assessment) (new new' : AssessLists) where
  entries-same : EntriesInUse s a new → EntriesInUse t a' new' → SameEntries (length s.components) a a' new new'
  entries-same one two =
      let same = same-answers s t r in
      let n = ap length r.same_components in
      record {
        same_assessment = one.is_assessment ∙ same.same_assessment ∙ sym two.is_assessment;
        same_label_settled = cc;
        same_label_lows = cc;
        same_label_highs = cc;
        same_reason_kinds = cc;
        same_reason_components = cc;
        same_reason_blocks = cc;
        same_reason_minimums = cc;
        same_reason_maximums = cc;
        same_feedback_ids = cc;
        same_marks = cc;
        same_projected = λ test. rw (one.edges_used, two.edges_used) (same.same_projected test);
      }

module _ (limits : SceneLimits) (l l' : ComponentLists) (m m' : ConnectionLists) (r : Reordered (scene_of l m) (scene_of l' m')) where
  -- both calls accept: the answers and the entries in use are the same
  pub same_entries : (old new old' new' : AssessLists) (a a' : Assessment)
      → AssessCall limits l m old new (Ok a) → AssessCall limits l' m' old' new' (Ok a') → SameEntries (length (components_of l)) a a' new new'
  same_entries old new old' new' a a' one two =
      entries-same (scene_of l m) (scene_of l' m') r a a' new new' (assess-entries limits l m old new a one) (assess-entries limits l' m' old' new' a' two)

-- how long the lists are that a call is lent: a row for each of lists 3 to 8, a length for each field
unfoldable pub assess_lengths : AssessLists → List (List ℕ)
assess_lengths o =
    (length o.reason_kinds ∷ length o.reason_components ∷ length o.reason_blocks ∷ length o.reason_minimums ∷ length o.reason_maximums ∷ [])
    ∷ (length o.feedback_ids ∷ [])
    ∷ (length o.marks ∷ [])
    ∷ (length o.projected_sources ∷ length o.projected_sinks ∷ length o.projected_inverted ∷ length o.projected_minimums ∷ length o.projected_maximums
    ∷ length o.projected_starts ∷ length o.projected_lengths ∷ [])
    ∷ (length o.path_ids ∷ [])
    ∷ (length o.label_settled ∷ length o.label_lows ∷ length o.label_highs ∷ [])
    ∷ []

-- calls are checked by these lengths alone
checked-same : (limits : SceneLimits) (l : ComponentLists) (m : ConnectionLists) (old old' : AssessLists) → assess_lengths old ≡ assess_lengths old'
    → assess_checked limits l m old ≡ assess_checked limits l m old'
unfolding assess_lengths
checked-same limits l m old old' e = ap (λ r. check_assess limits l m (get_or r 0 []) (get_or r 1 []) (get_or r 2 []) (get_or r 3 []) (get_or r 4 []) (get_or r 5 [])) e

module _ (limits : SceneLimits) (l : ComponentLists) (m m' : ConnectionLists) (r : Reordered (scene_of l m) (scene_of l m')) (aligned : ConnectionsAligned m') where
  -- with lists as long, the one call is accepted if the other is, with the same answer
  pub assessed-together : (old new old' new' : AssessLists) (a : Assessment) (answer : Result Assessment Refusal) → assess_lengths old ≡ assess_lengths old'
      → AssessCall limits l m old new (Ok a) → AssessCall limits l m' old' new' answer → answer ≡ Ok a
  assessed-together old new old' new' a answer lengths one two =
      let e = (assess-accepted limits l m old new a one).0 in
      let e' : assess_checked limits l m' old' ≡ accepted = sym (checked-same limits l m' old old' lengths) ∙ same-assess limits l m m' r aligned _ _ _ _ _ _ e in
      two.answered ∙ ap (λ c. scene_answer c (scene_of l m')) e'
      ∙ ap Ok (sym ((assess-entries limits l m old new a one).is_assessment ∙ (same-answers (scene_of l m) (scene_of l m') r).same_assessment))
