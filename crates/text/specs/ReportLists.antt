-- The report by the numbers in the lists of the call. Assumes nothing: these are definitions.
use Rattle.std.specs.Prelude.{cond, ℕ, ◌≤◌, eqb, length, get_or, take}
use mathlib.Core.List.{List, [], ◌++◌}
use Rattle.rules.specs.Lists.{rows}
use Rattle.rules.specs.Bytes.{bytes}
use Rattle.rules.specs.Text.{field_line}
use Rattle.rules.specs.Labels.{Label, unsettled, between}
use Rattle.rules.specs.Reasons.{Reason, unequal_reconvergent_delay, feedback_loop, stateful_or_mechanical_device, locked_repeater}
use Rattle.rules.specs.Report.{number_line, scope_text, pattern_text, reason_line, projected_lines, label_lines}
use Rattle.rules.specs.Assess.{AssessLists, assess_lists, stored_edge}
use Rattle.rules.specs.declared.answers.Assessment.{Assessment}
use Rattle.rules.specs.declared.lent.ReasonLists.{ReasonLists}
use Rattle.rules.specs.declared.lent.ProjectionLists.{ProjectionLists}
use Rattle.rules.specs.declared.lent.LabelLists.{LabelLists}

-- the reason that an entry of list 3 stands for, but for the block kind, which is not printed
unfoldable pub reason_of : (kind component minimum maximum : ℕ) → Reason
reason_of kind v low high =
    cond (eqb kind 0) (unequal_reconvergent_delay v low high)
    (cond (eqb kind 1) feedback_loop (cond (eqb kind 2) (stateful_or_mechanical_device v 0) (locked_repeater v)))

-- the line of the entry at an index of list 3
unfoldable pub reason_row : (feedback kinds components minimums maximums : List ℕ) → ℕ → List ℕ
reason_row feedback kinds components minimums maximums k =
    reason_line feedback (reason_of (get_or kinds k 0) (get_or components k 0) (get_or minimums k 0) (get_or maximums k 0))

-- lists of which only 6 and 7 are looked at
abbrev pub edge_lists : (sources sinks inverted minimums maximums starts lengths paths : List ℕ) → AssessLists
edge_lists sources sinks inverted minimums maximums starts lengths paths =
    assess_lists [] [] [] [] [] [] [] sources sinks inverted minimums maximums starts lengths paths [] [] []

-- the lines of the entry at an index of list 6
unfoldable pub projected_row : AssessLists → ℕ → List ℕ
projected_row o k = projected_lines (stored_edge o k)

-- the label that an entry of list 8 stands for
unfoldable pub label_of : (settled low high : ℕ) → Label
label_of settled low high = cond (eqb settled 0) unsettled (between low high)

-- the lines of the component at an index
unfoldable pub label_row : (ids settled lows highs : List ℕ) → ℕ → List ℕ
label_row ids settled lows highs k = label_lines (λ v. label_of (get_or settled k 0) (get_or lows k 0) (get_or highs k 0)) (get_or ids k 0)

-- the lists as the report takes them: neither the block kinds of list 3 nor list 5 is printed
abbrev pub printed_lists : AssessLists → AssessLists
printed_lists o =
    assess_lists o.reason_kinds o.reason_components [] o.reason_minimums o.reason_maximums o.feedback_ids [] o.projected_sources o.projected_sinks o.projected_inverted o.projected_minimums o.projected_maximums o.projected_starts o.projected_lengths o.path_ids o.label_settled o.label_lows o.label_highs

-- the ids of list 4 in use
abbrev pub feedback_of : Assessment → AssessLists → List ℕ
feedback_of a o = take a.feedback o.feedback_ids

-- the report by an assessment, the components' ids and the entries in use of lists 3, 4, 6, 7 and 8
unfoldable pub report_by : Assessment → (ids : List ℕ) → AssessLists → List ℕ
report_by a ids o =
    field_line (bytes "scope=") (scope_text a.scope) ++ (number_line (bytes "reasons=") a.reasons
    ++ (rows (reason_row (feedback_of a o) o.reason_kinds o.reason_components o.reason_minimums o.reason_maximums) a.reasons
    ++ (number_line (bytes "retained=") a.retained ++ (number_line (bytes "compressed=") a.compressed ++ (number_line (bytes "projected=") a.projected
    ++ (rows (projected_row o) a.projected ++ (field_line (bytes "pattern=") (pattern_text (feedback_of a o) a.pattern)
    ++ rows (label_row ids o.label_settled o.label_lows o.label_highs) (length ids))))))))

-- n entries of list 3, of list 6 and of list 8
pub record ReasonsWithin (n : ℕ) (kinds components minimums maximums : List ℕ) : Type 0 where
  pub kinds_within : n ≤ length kinds
  pub components_within : n ≤ length components
  pub minimums_within : n ≤ length minimums
  pub maximums_within : n ≤ length maximums

pub record EdgesWithin (n : ℕ) (sources sinks inverted minimums maximums : List ℕ) : Type 0 where
  pub sources_within : n ≤ length sources
  pub sinks_within : n ≤ length sinks
  pub inverted_within : n ≤ length inverted
  pub minimums_within : n ≤ length minimums
  pub maximums_within : n ≤ length maximums

pub record LabelsWithin (n : ℕ) (settled lows highs : List ℕ) : Type 0 where
  pub settled_within : n ≤ length settled
  pub lows_within : n ≤ length lows
  pub highs_within : n ≤ length highs

-- the entries in use stand in the lists
pub record ReportWithin (a : Assessment) (ids : List ℕ) (o : AssessLists) : Type 0 where
  pub reasons_within : ReasonsWithin a.reasons o.reason_kinds o.reason_components o.reason_minimums o.reason_maximums
  pub feedback_within : a.feedback ≤ length o.feedback_ids
  pub edges_within : EdgesWithin a.projected o.projected_sources o.projected_sinks o.projected_inverted o.projected_minimums o.projected_maximums
  pub labels_within : LabelsWithin (length ids) o.label_settled o.label_lows o.label_highs

-- The same of the lists of a call's structs

abbrev pub reason_rows : List ℕ → ReasonLists → ℕ → List ℕ
reason_rows feedback r = reason_row feedback r.kinds.now r.components.now r.minimums.now r.maximums.now

abbrev pub projected_rows : ProjectionLists → ℕ → List ℕ
projected_rows p = projected_row (edge_lists p.sources.now p.sinks.now p.inverted.now p.minimums.now p.maximums.now p.starts.now p.lengths.now p.path_ids.now)

abbrev pub label_rows : List ℕ → LabelLists → ℕ → List ℕ
label_rows ids l = label_row ids l.settled.now l.lows.now l.highs.now

abbrev pub ReasonsLent : ℕ → ReasonLists → Type 0
ReasonsLent n r = ReasonsWithin n r.kinds.now r.components.now r.minimums.now r.maximums.now

abbrev pub EdgesLent : ℕ → ProjectionLists → Type 0
EdgesLent n p = EdgesWithin n p.sources.now p.sinks.now p.inverted.now p.minimums.now p.maximums.now

abbrev pub LabelsLent : ℕ → LabelLists → Type 0
LabelsLent n l = LabelsWithin n l.settled.now l.lows.now l.highs.now
