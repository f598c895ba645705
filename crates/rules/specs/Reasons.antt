-- Feedback, reasons, scope and patterns. Assumes nothing: these are definitions.
use Rattle.std.specs.Prelude.{Bool, true, false, not, cond, ◌&&◌, ◌||◌, ◌≡◌, ℕ, ◌≤◌, T, eqb, leb}
use mathlib.Core.List.{List, [], ◌∷◌, ◌++◌, map, flat_map, Memᴰ}
use Rattle.rules.specs.Lists.{not_empty, any, keep}
use Rattle.rules.specs.Kinds.{is_device, repeater_code, comparator_code, piston_code}
use Rattle.rules.specs.Scene.{Component, id_of, rising_ids, row_of, row_at, delay_at}
use Rattle.rules.specs.Graph.{Edge, in_count, strongly_connected, Walk}
use Rattle.rules.specs.Paths.{smallest_sum, largest_sum, Smallest, Largest}
use Rattle.rules.specs.declared.kinds.TemporalNodeKind.{TemporalNodeKind}
use Rattle.rules.specs.declared.kinds.TemporalNodeKind.TheVariants.{Source, Wire, Inverter, Delay, Comparator, Actuator, Conductor}
use Rattle.rules.specs.declared.answers.TemporalScope.{TemporalScope}
use Rattle.rules.specs.declared.answers.TemporalScope.TheVariants.{SteadyStateSafe, TimingSensitive, TemporalRequired}
use Rattle.rules.specs.declared.answers.BehaviorPattern.{BehaviorPattern}
use Rattle.rules.specs.declared.answers.BehaviorPattern.TheVariants.{DelayedPath, ClockCandidate, LatchCandidate, Nothing}

-- Wire or Conductor
abbrev pub passive : TemporalNodeKind → Bool
passive Source = false
passive Wire = true
passive Inverter = false
passive Delay = false
passive Comparator = false
passive Actuator = false
passive Conductor = true

abbrev pub is_inverter : TemporalNodeKind → Bool
is_inverter Source = false
is_inverter Wire = false
is_inverter Inverter = true
is_inverter Delay = false
is_inverter Comparator = false
is_inverter Actuator = false
is_inverter Conductor = false

-- a different component in the same strongly connected component
abbrev pub other_in : (ℕ → ℕ → Bool) → ℕ → Component → Bool
other_in same v d = not (eqb d.id v) && same v d.id

-- "Feedback lists, in component order, each component that is neither Wire nor Conductor and shares its strongly connected component with a different component."
unfoldable pub in_feedback : List Component → (ℕ → ℕ → Bool) → Component → Bool
in_feedback cs same c = not (passive (row_of c).node) && any (other_in same c.id) cs

-- list 4
unfoldable pub feedback : List Component → List Edge → List ℕ
feedback cs es = map id_of (keep (in_feedback cs (strongly_connected es)) cs)

-- A reason, with what it carries; `feedback_loop` is the Feedback reason, whose components are list 4's
pub data Reason : Type 0 where
  unequal_reconvergent_delay : (component minimum maximum : ℕ) → Reason
  feedback_loop : Reason
  stateful_or_mechanical_device : (component block : ℕ) → Reason
  locked_repeater : (component : ℕ) → Reason

-- The fields of list 3. "Enum values become numbers from 0 in the Rust's order, block kinds by the kind table"; "A field that an entry's case
-- lacks holds 0."
abbrev pub reason_kind : Reason → ℕ
reason_kind (unequal_reconvergent_delay v low high) = 0
reason_kind feedback_loop = 1
reason_kind (stateful_or_mechanical_device v block) = 2
reason_kind (locked_repeater v) = 3

abbrev pub reason_component : Reason → ℕ
reason_component (unequal_reconvergent_delay v low high) = v
reason_component feedback_loop = 0
reason_component (stateful_or_mechanical_device v block) = v
reason_component (locked_repeater v) = v

abbrev pub reason_block : Reason → ℕ
reason_block (unequal_reconvergent_delay v low high) = 0
reason_block feedback_loop = 0
reason_block (stateful_or_mechanical_device v block) = block
reason_block (locked_repeater v) = 0

abbrev pub reason_minimum : Reason → ℕ
reason_minimum (unequal_reconvergent_delay v low high) = low
reason_minimum feedback_loop = 0
reason_minimum (stateful_or_mechanical_device v block) = 0
reason_minimum (locked_repeater v) = 0

abbrev pub reason_maximum : Reason → ℕ
reason_maximum (unequal_reconvergent_delay v low high) = high
reason_maximum feedback_loop = 0
reason_maximum (stateful_or_mechanical_device v block) = 0
reason_maximum (locked_repeater v) = 0

-- "one Feedback if its list is not empty"
unfoldable pub feedback_reason : List ℕ → List Reason
feedback_reason [] = []
feedback_reason (x ∷ xs) = feedback_loop ∷ []

-- "for each component in order, StatefulOrMechanicalDevice (comparator, piston) or LockedRepeater (repeater, flag 1)"
unfoldable pub own_reason : Component → List Reason
own_reason c =
    cond (eqb c.kind comparator_code || eqb c.kind piston_code) (stateful_or_mechanical_device c.id c.kind ∷ [])
    (cond (eqb c.kind repeater_code && eqb c.locked 1) (locked_repeater c.id ∷ []) [])

-- "A component with two or more incoming edges collects one range for each incoming edge from a settled source. A reason stands where the
-- smallest minimum and largest maximum differ." Here by path sums, as demand 3 says it; proofs/Ranges, extreme-step, shows that the smallest
-- and largest path sum are the smallest minimum and largest maximum of those ranges
unfoldable pub unequal_at : List Edge → (ℕ → ℕ) → (ℕ → ℕ) → ℕ → Bool
unequal_at es low high v =
    let differ = not (eqb (smallest_sum es low v) (largest_sum es high v)) in
    leb 2 (in_count es v) && differ

unfoldable pub unequal_reason : List Edge → (ℕ → ℕ) → (ℕ → ℕ) → ℕ → Reason
unequal_reason es low high v = unequal_reconvergent_delay v (smallest_sum es low v) (largest_sum es high v)

unfoldable pub unequal_reasons_by : List Edge → (ℕ → ℕ) → (ℕ → ℕ) → List ℕ → List Reason
unequal_reasons_by es low high vs = map (unequal_reason es low high) (keep (unequal_at es low high) vs)

unfoldable pub unequal_reasons : List Component → List Edge → List Reason
unequal_reasons cs es = unequal_reasons_by es (delay_at cs) (delay_at cs) (rising_ids cs)

-- the first three kinds of reason
unfoldable pub temporal_reasons : List Component → List Edge → List Reason
temporal_reasons cs es = feedback_reason (feedback cs es) ++ flat_map own_reason cs

-- list 3: "Order of reasons: one Feedback ..; for each component ..; then UnequalReconvergentDelay by rising id."
unfoldable pub reasons : List Component → List Edge → List Reason
reasons cs es = temporal_reasons cs es ++ unequal_reasons cs es

-- "Any of the first three gives TemporalRequired; unequal delays alone TimingSensitive; none SteadyStateSafe."
unfoldable pub scope : List Component → List Edge → TemporalScope
scope cs es = cond (not_empty (temporal_reasons cs es)) TemporalRequired (cond (not_empty (unequal_reasons cs es)) TimingSensitive SteadyStateSafe)

-- "Patterns: without Feedback, DelayedPath if any device exists, else nothing; with it, ClockCandidate if the list has an Inverter, else
-- LatchCandidate." The components of a candidate are list 4's
unfoldable pub pattern : List Component → List Edge → BehaviorPattern
pattern cs es =
    cond (not_empty (feedback cs es))
    (cond (any (λ v. is_inverter (row_at cs v).node) (feedback cs es)) ClockCandidate LatchCandidate)
    (cond (any (λ c. is_device (row_of c)) cs) DelayedPath Nothing)

-- Reasons without computation; proofs/ReasonLaws shows that the listed ones are these

-- "each component that is neither Wire nor Conductor and shares its strongly connected component with a different component"
pub record OnFeedback (cs : List Component) (es : List Edge) (c : Component) : Type 0 where
  pub active : T (passive (row_of c).node) → ⊥
  pub other : Component
  pub listed : Memᴰ other cs
  pub different : other.id ≡ c.id → ⊥
  pub there : Walk es c.id other.id
  pub back : Walk es other.id c.id

-- "an unequal-delay reason names a component exactly when at least two connections end there and two path sums (delays of all components but
-- the last) differ: the smallest and the largest over all paths to it that start where no connection ends and whose components before the
-- last neither lie on a cycle nor can be reached from one. It shows those two sums." `lows` and `highs` give a path's sum
pub record UnequalDelay (cs : List Component) (es : List Edge) (lows highs : List ℕ → ℕ) (v low high : ℕ) : Type 0 where
  pub component : Memᴰ v (map id_of cs)
  pub incoming : 2 ≤ in_count es v
  pub smallest : Smallest es lows v low
  pub largest : Largest es highs v high
  pub differ : low ≡ high → ⊥
