-- What the program prints: the report of a scene, or a refusal. Assumes nothing: these are definitions.
use Rattle.std.specs.Prelude.{Ok, Err, not, ◌≡◌, ℕ, ◌≤◌, length}
use mathlib.Core.List.{List, [], ◌∷◌, ◌++◌, map, flat_map}
use Prim.Native.Char.{code}
use Rattle.rules.specs.Lists.{count, written}
use Rattle.rules.specs.Bytes.{bytes, decimal}
use Rattle.rules.specs.Codes.{refusal_code}
use Rattle.rules.specs.Scene.{Component, Connection, Scene, ComponentLists, ConnectionLists, component_lists, connection_lists, id_of, delay_at, edges}
use Rattle.rules.specs.Graph.{Edge}
use Rattle.rules.specs.Labels.{Label, unsettled, between, label}
use Rattle.rules.specs.Reasons.{Reason, unequal_reconvergent_delay, feedback_loop, stateful_or_mechanical_device, locked_repeater, reasons, feedback, scope, pattern}
use Rattle.rules.specs.Projection.{ProjectedEdge, compressed, projected}
use Rattle.rules.specs.Refusals.{Checked, SceneLimits, scene_limits, check_scene}
use Rattle.rules.specs.Text.{Reading, broken, read, field_line, read_scene}
use Rattle.rules.specs.declared.answers.Refusal.{Refusal}
use Rattle.rules.specs.declared.answers.RefusalKind.TheVariants.{TextNotInForm}
use Rattle.rules.specs.declared.answers.TemporalScope.{TemporalScope}
use Rattle.rules.specs.declared.answers.TemporalScope.TheVariants.{SteadyStateSafe, TimingSensitive, TemporalRequired}
use Rattle.rules.specs.declared.answers.BehaviorPattern.{BehaviorPattern}
use Rattle.rules.specs.declared.answers.BehaviorPattern.TheVariants.{DelayedPath, ClockCandidate, LatchCandidate, Nothing}

abbrev pub number_line : List ℕ → ℕ → List ℕ
number_line name n = field_line name (decimal n)

-- ids with a comma between each and the next
unfoldable pub ids_text : List ℕ → List ℕ
ids_text [] = []
ids_text (v ∷ []) = decimal v
ids_text (v ∷ w ∷ vs) = decimal v ++ (code "," ∷ ids_text (w ∷ vs))

-- the example has steady_state_safe: "Other scopes are written likewise."
abbrev pub scope_text : TemporalScope → List ℕ
scope_text SteadyStateSafe = bytes "steady_state_safe"
scope_text TimingSensitive = bytes "timing_sensitive"
scope_text TemporalRequired = bytes "temporal_required"

-- "`reason=feedback:1,2`, or after the same `reason=` one of `stateful:ID`, `locked:ID`, `unequal:ID:MIN:MAX`"; Feedback's ids are list 4's
abbrev pub reason_text : List ℕ → Reason → List ℕ
reason_text ids feedback_loop = bytes "feedback:" ++ ids_text ids
reason_text ids (stateful_or_mechanical_device v block) = bytes "stateful:" ++ decimal v
reason_text ids (locked_repeater v) = bytes "locked:" ++ decimal v
reason_text ids (unequal_reconvergent_delay v low high) =
    bytes "unequal:" ++ (decimal v ++ (code ":" ∷ (decimal low ++ (code ":" ∷ decimal high))))

unfoldable pub reason_line : List ℕ → Reason → List ℕ
reason_line ids r = field_line (bytes "reason=") (reason_text ids r)

-- "`source` to `path` repeat for each projected edge"; "`minimum` and `maximum` are the projected delay, `inverted` is 0 or 1"
unfoldable pub projected_lines : ProjectedEdge → List ℕ
projected_lines e =
    number_line (bytes "source=") e.source ++ (number_line (bytes "sink=") e.sink ++ (number_line (bytes "inverted=") e.inverted ++ (number_line (bytes "minimum=") e.minimum
    ++ (number_line (bytes "maximum=") e.maximum ++ field_line (bytes "path=") (ids_text e.path)))))

-- the example has delayed_path: "Other patterns: `none`, `clock:IDS`, `latch:IDS`."; the ids are list 4's
abbrev pub pattern_text : List ℕ → BehaviorPattern → List ℕ
pattern_text ids DelayedPath = bytes "delayed_path"
pattern_text ids ClockCandidate = bytes "clock:" ++ ids_text ids
pattern_text ids LatchCandidate = bytes "latch:" ++ ids_text ids
pattern_text ids Nothing = bytes "none"

-- the example has unsettled: "Labels: `LOW,HIGH`."
abbrev pub label_text : Label → List ℕ
label_text unsettled = bytes "unsettled"
label_text (between low high) = decimal low ++ (code "," ∷ decimal high)

-- "the last two lines for each component", given the labels by id
unfoldable pub label_lines : (ℕ → Label) → ℕ → List ℕ
label_lines label_of v = number_line (bytes "component=") v ++ field_line (bytes "label=") (label_text (label_of v))

-- the report of an accepted scene, its lines in the order of the example that it "prints whole": "`reasons`, `retained`, `compressed`,
-- `projected` are counts"; "Reason lines follow `reasons`"; reasons are list 3's, projected edges list 6's, labels list 8's, in their order
unfoldable pub report : List Component → List Edge → List ℕ
report cs es =
    field_line (bytes "scope=") (scope_text (scope cs es)) ++ (number_line (bytes "reasons=") (length (reasons cs es)) ++ (flat_map (reason_line (feedback cs es)) (reasons cs es)
    ++ (number_line (bytes "retained=") (count (λ c. not (compressed cs es c.id)) cs) ++ (number_line (bytes "compressed=") (count (λ c. compressed cs es c.id) cs)
    ++ (number_line (bytes "projected=") (length (projected cs es)) ++ (flat_map projected_lines (projected cs es)
    ++ (field_line (bytes "pattern=") (pattern_text (feedback cs es) (pattern cs es)) ++ flat_map (label_lines (label es (delay_at cs) (delay_at cs))) (map id_of cs))))))))

-- "A refusal prints two lines only, `refusal=` and `place=`, each with its number."
unfoldable pub refusal_text : Refusal → List ℕ
refusal_text r = number_line (bytes "refusal=") (refusal_code r.kind) ++ number_line (bytes "place=") r.place

-- the lists that have the fields of these components and connections
abbrev pub component_fields : List Component → ComponentLists
component_fields cs =
    component_lists (map id_of cs) (map (λ c. c.kind) cs) (map (λ c. c.delay) cs) (map (λ c. c.locked) cs) (map (λ c. c.x) cs) (map (λ c. c.y) cs) (map (λ c. c.z) cs)

abbrev pub connection_fields : List Connection → ConnectionLists
connection_fields ns = connection_lists (map (λ n. n.source) ns) (map (λ n. n.sink) ns) (map (λ n. n.transfer) ns)

-- the scene's checks: the lists of the fields have one length, so that 8 can't hold, and none is lent for the answer, so that 7 can't
unfoldable pub check_read : SceneLimits → Scene → Checked
check_read limits s = check_scene limits (component_fields s.components) (connection_fields s.connections) []

abbrev pub report_checked : Checked → Scene → List ℕ
report_checked (Ok u) s = report s.components (edges s)
report_checked (Err r) s = refusal_text r

-- "14 is tested before the scene's checks."
abbrev pub report_read : Reading Scene → List ℕ
report_read (broken line) = refusal_text (record { kind = TextNotInForm; place = line })
report_read (read s p) = report_checked (check_read scene_limits s) s

-- "`report` reads standard input": what it prints for a text
unfoldable pub report_of : List ℕ → List ℕ
report_of text = report_read (read_scene text)

-- the call: what a list of bytes holds after the report was written to its front, and how long the report is; it stands there whole
pub record ReportCall (text old new : List ℕ) (size : ℕ) : Type 0 where
  pub content : new ≡ written old (report_of text)
  pub counted : size ≡ length (report_of text)
  pub whole : length (report_of text) ≤ length old
