-- How long each text of a report is at most, where ids have 64 bits. Assumes nothing.
use mathlib.Core.Bool.{Bool, true, false, cond}
use mathlib.Core.List.Memᴰ
use mathlib.Core.List.{List, [], ◌∷◌, ◌++◌, map, flat_map, Memᴰ}
use mathlib.Core.Path.{refl, subst}
use Prim.Native.Nat.{ℕ, ◌+◌, ◌*◌, ◌≤◌, ◌<◌}
use Prim.Native.Char.{code}
use native.Mathlib.Nat.{suc-mul}
use native.Mathlib.Omega.{arith}
use lib.ListN.{length, length-append}
use Rattle.rules.specs.Bytes.{bytes, largest64, decimal}
use Rattle.rules.specs.Text.{line_feed, field_line}
use Rattle.rules.specs.Graph.{Edge, settled}
use Rattle.rules.specs.Paths.{delay_sum, paths_to, extreme, extreme_sum, smallest_sum, largest_sum}
use Rattle.rules.specs.Labels.{unsettled, between, label}
use Rattle.rules.specs.Reasons.{Reason, unequal_reconvergent_delay, feedback_loop, stateful_or_mechanical_device, locked_repeater, feedback_reason}
use Rattle.rules.specs.Projection.{ProjectedEdge, path_ids}
use Rattle.rules.specs.Report.{ids_text, scope_text, reason_text, reason_line, projected_lines, pattern_text, label_text, label_lines}
use Rattle.rules.specs.declared.answers.TemporalScope.{TemporalScope}
use Rattle.rules.specs.declared.answers.TemporalScope.TheVariants.{SteadyStateSafe, TimingSensitive, TemporalRequired}
use Rattle.rules.specs.declared.answers.BehaviorPattern.{BehaviorPattern}
use Rattle.rules.specs.declared.answers.BehaviorPattern.TheVariants.{DelayedPath, ClockCandidate, LatchCandidate, Nothing}
use Rattle.rules.proofs.Sums.{Choice, smaller, larger, extreme-at}
use Rattle.rules.proofs.DecimalLength.{decimal-length, length-64, length-32}
use Rattle.laws.proofs.PlainSums.{capped-total}

-- Texts of bounded length

pub record UpTo (n : ℕ) (text : List ℕ) : Type 0 where
  pub size : length text ≤ n

pub joined : {a b : List ℕ} {m n : ℕ} → UpTo m a → UpTo n b → UpTo (m + n) (a ++ b)
joined {a} {b} h k = record { size = omega (arith, length-append a b) }

pub line : (name : List ℕ) {value : List ℕ} {n : ℕ} → UpTo n value → UpTo (length name + n + 1) (field_line name value)
line name {value} h = record { size = omega (arith, length-append name (value ++ (line_feed ∷ [])), length-append value (line_feed ∷ [])) }

pub flat-size : {A : Type 0} (f : A → List ℕ) (n : ℕ) (l : List A) → ((x : A) → Memᴰ x l → UpTo n (f x)) → UpTo (length l * n) (flat_map f l)
unfolding flat_map
flat-size f n [] h = record { size = omega arith }
flat-size f n (x ∷ l) h =
    record { size = rw (suc-mul (length l) n) (omega (arith, length-append (f x) (flat_map f l), (h x (Memᴰ.head refl)).size, (flat-size f n l (λ y m. h y (Memᴰ.tail m))).size)) }

-- numbers of 64 and of 32 bits
abbrev pub Bits64 : ℕ → Type 0
Bits64 v = v ≤ largest64

abbrev pub Bits32 : ℕ → Type 0
Bits32 v = v ≤ 4294967295

pub number-64 : (v : ℕ) → Bits64 v → UpTo 20 (decimal v)
number-64 v h = record { size = length-64 v h }

pub number-32 : (v : ℕ) → Bits32 v → UpTo 10 (decimal v)
number-32 v h = record { size = length-32 v h }

-- ids of 64 bits
abbrev pub Short : List ℕ → Type 0
Short vs = (v : ℕ) → Memᴰ v vs → Bits64 v

pub ids_size : (vs : List ℕ) → Short vs → UpTo (21 * length vs) (ids_text vs)
unfolding ids_text
ids_size [] h = record { size = omega arith }
ids_size (v ∷ []) h = record { size = omega (arith, length-64 v (h v (Memᴰ.head refl))) }
ids_size (v ∷ w ∷ vs) h = record {
  size = omega (
    arith,
    length-64 v (h v (Memᴰ.head refl)),
    length-append (decimal v) (code "," ∷ ids_text (w ∷ vs)),
    (ids_size (w ∷ vs) (λ u m. h u (Memᴰ.tail m))).size,
  );
}

-- Sums have 32 bits

pub sum-capped : (d : ℕ → ℕ) (p : List ℕ) → Bits32 (delay_sum d p)
sum-capped d p = omega (arith, capped-total d p)

pub extreme-capped : {f : ℕ → ℕ → ℕ} (C : Choice f) (es : List Edge) (d : ℕ → ℕ) (v : ℕ) → Bits32 (extreme_sum f es d v)
unfolding extreme_sum extreme
extreme-capped {f} C es d v =
    go (map (delay_sum d) (paths_to es v)) (λ x m. let r = Memᴰ.of_map (delay_sum d) (paths_to es v) m in subst Bits32 r.2 (sum-capped d r.0))
  where
    go : (l : List ℕ) → ((x : ℕ) → Memᴰ x l → Bits32 x) → Bits32 (extreme f l)
    go [] h = omega arith
    go (x ∷ l) h = h _ (extreme-at C (x ∷ l) (Memᴰ.head refl))

-- Each text

pub scope-size : (s : TemporalScope) → UpTo 17 (scope_text s)
scope-size SteadyStateSafe = record { size = omega arith }
scope-size TimingSensitive = record { size = omega arith }
scope-size TemporalRequired = record { size = omega arith }

pub pattern-size : (ids : List ℕ) (p : BehaviorPattern) → Short ids → UpTo (12 + 21 * length ids) (pattern_text ids p)
pattern-size ids DelayedPath h = record { size = omega arith }
pattern-size ids ClockCandidate h = record { size = omega (arith, (ids_size ids h).size) }
pattern-size ids LatchCandidate h = record { size = omega (arith, (ids_size ids h).size) }
pattern-size ids Nothing h = record { size = omega arith }

-- a reason other than Feedback, whose numbers are so short
abbrev pub ReasonShort : Reason → Type 0
ReasonShort (unequal_reconvergent_delay v low high) = Bits64 v × Bits32 low × Bits32 high
ReasonShort feedback_loop = ⊥
ReasonShort (stateful_or_mechanical_device v block) = Bits64 v
ReasonShort (locked_repeater v) = Bits64 v

reason-size : (ids : List ℕ) (r : Reason) → ReasonShort r → UpTo 50 (reason_text ids r)
reason-size ids (unequal_reconvergent_delay v low high) h = record {
  size = omega (
    arith,
    length-append (decimal v) (code ":" ∷ (decimal low ++ (code ":" ∷ decimal high))),
    length-append (decimal low) (code ":" ∷ decimal high),
    length-64 v h.0,
    length-32 low h.1,
    length-32 high h.2,
  );
}
reason-size ids feedback_loop h = absurd h
reason-size ids (stateful_or_mechanical_device v block) h = record { size = omega (arith, length-64 v h) }
reason-size ids (locked_repeater v) h = record { size = omega (arith, length-64 v h) }

pub reason-line-size : (ids : List ℕ) (r : Reason) → ReasonShort r → UpTo 58 (reason_line ids r)
unfolding reason_line
reason-line-size ids r h = line (bytes "reason=") (reason-size ids r h)

pub loop-size : (ids l : List ℕ) → Short ids → UpTo (17 + 21 * length ids) (flat_map (reason_line ids) (feedback_reason l))
unfolding flat_map feedback_reason reason_line
loop-size ids [] h = record { size = omega arith }
loop-size ids (x ∷ l) h = record { size = omega (arith, length-append (ids_text ids) (line_feed ∷ []), length-append (ids_text ids ++ (line_feed ∷ [])) [], (ids_size ids h).size) }

-- a projected edge whose numbers are so short
pub record ProjectedShort (p : ProjectedEdge) : Type 0 where
  pub source_short : Bits64 p.source
  pub sink_short : Bits64 p.sink
  pub inverted_short : p.inverted < 10
  pub minimum_short : Bits32 p.minimum
  pub maximum_short : Bits32 p.maximum
  pub path_short : Short p.path

lines-size : (p : ProjectedEdge) → ProjectedShort p → length (projected_lines p) ≤ 109 + 21 * length p.path
unfolding projected_lines
lines-size p h =
    let inverted : UpTo 1 (decimal p.inverted) = record { size = decimal-length p.inverted 1 h.inverted_short (omega arith) } in
    let all =
    joined (line (bytes "source=") (number-64 p.source h.source_short)) (joined (line (bytes "sink=") (number-64 p.sink h.sink_short)) (joined (line (bytes "inverted=") inverted)
    (joined (line (bytes "minimum=") (number-32 p.minimum h.minimum_short)) (joined (line (bytes "maximum=") (number-32 p.maximum h.maximum_short)) (line (bytes "path=") (ids_size p.path h.path_short)))))) in
    omega (arith, all.size)

pub projected-size : (ps : List ProjectedEdge) → ((p : ProjectedEdge) → Memᴰ p ps → ProjectedShort p) → UpTo (109 * length ps + 21 * length (path_ids ps)) (flat_map projected_lines ps)
unfolding flat_map path_ids
projected-size [] h = record { size = omega arith }
projected-size (p ∷ ps) h = record {
  size = omega (
    arith,
    length-append (projected_lines p) (flat_map projected_lines ps),
    length-append p.path (path_ids ps),
    lines-size p (h p (Memᴰ.head refl)),
    (projected-size ps (λ q m. h q (Memᴰ.tail m))).size,
  );
}

label-size : (es : List Edge) (low high : ℕ → ℕ) (v : ℕ) → UpTo 21 (label_text (label es low high v))
unfolding label
label-size es low high v = go (settled es v)
  where
    a : ℕ
    a = smallest_sum es low v

    b : ℕ
    b = largest_sum es high v

    go : (s : Bool) → UpTo 21 (label_text (cond s (between a b) unsettled))
    go true = record { size = omega (arith, length-append (decimal a) (code "," ∷ decimal b), length-32 a (extreme-capped smaller es low v), length-32 b (extreme-capped larger es high v)) }
    go false = record { size = omega arith }

pub label-lines-size : (es : List Edge) (low high : ℕ → ℕ) (v : ℕ) → Bits64 v → UpTo 59 (label_lines (label es low high) v)
unfolding label_lines
label-lines-size es low high v h = joined (line (bytes "component=") (number-64 v h)) (line (bytes "label=") (label-size es low high v))
