-- The lists of a call's structs, as the definitions speak of them, and structs that still hold the references that they held: what a call
-- writes is then written to its caller's lists. Assumes nothing: these are definitions.
use Rattle.std.specs.Prelude.{◌≡◌}
use Rattle.rules.specs.Scene.{ComponentLists, ConnectionLists, component_lists, connection_lists}
use Rattle.rules.specs.Describe.{DescribeLists, describe_lists}
use Rattle.rules.specs.Assess.{AssessLists, assess_lists}
use Rattle.rules.specs.Analyze.{AnalyzeLists}
use Rattle.rules.specs.Pulses.{EventLists, event_lists}
use Rattle.rules.specs.Verdicts.{ContractLists, contract_lists, FindingLists, finding_lists}
use Rattle.rules.specs.Traces.{TraceLists, trace_lists}
use Rattle.rules.specs.declared.lent.Components.{Components}
use Rattle.rules.specs.declared.lent.Connections.{Connections}
use Rattle.rules.specs.declared.lent.Events.{Events}
use Rattle.rules.specs.declared.lent.Contracts.{Contracts}
use Rattle.rules.specs.declared.lent.Trace.{Trace}
use Rattle.rules.specs.declared.lent.TimedEdgeLists.{TimedEdgeLists}
use Rattle.rules.specs.declared.lent.DeviceLists.{DeviceLists}
use Rattle.rules.specs.declared.lent.EvidenceLists.{EvidenceLists}
use Rattle.rules.specs.declared.lent.DescriptionLists.{DescriptionLists}
use Rattle.rules.specs.declared.lent.ReasonLists.{ReasonLists}
use Rattle.rules.specs.declared.lent.ProjectionLists.{ProjectionLists}
use Rattle.rules.specs.declared.lent.LabelLists.{LabelLists}
use Rattle.rules.specs.declared.lent.AssessmentLists.{AssessmentLists}
use Rattle.rules.specs.declared.lent.SceneLists.{SceneLists}
use Rattle.rules.specs.declared.lent.Findings.{Findings}

abbrev pub components_lent : Components → ComponentLists
components_lent x = component_lists x.ids.now x.kinds.now x.delays.now x.locked.now x.xs.now x.ys.now x.zs.now

abbrev pub connections_lent : Connections → ConnectionLists
connections_lent x = connection_lists x.sources.now x.sinks.now x.transfers.now

abbrev pub events_lent : Events → EventLists
events_lent x = event_lists x.ticks.now x.components.now x.powered.now

abbrev pub contracts_lent : Contracts → ContractLists
contracts_lent x = contract_lists x.components.now x.intents.now x.powered.now x.polarities.now x.units.now x.smallest.now x.largest.now

abbrev pub trace_lent : Trace → TraceLists
trace_lent x = trace_lists x.unit (events_lent x.events) (contracts_lent x.contracts)

abbrev pub description_lent : DescriptionLists → DescribeLists
description_lent x = describe_lists x.edges.sources.now x.edges.sinks.now x.edges.minimums.now x.edges.maximums.now x.edges.behaviors.now x.devices.components.now x.devices.xs.now x.devices.ys.now x.devices.zs.now x.devices.semantics.now x.devices.delays.now x.evidence.kinds.now x.evidence.sources.now x.evidence.sinks.now x.evidence.components.now x.evidence.blocks.now

abbrev pub assessment_lent : AssessmentLists → AssessLists
assessment_lent x = assess_lists x.reasons.kinds.now x.reasons.components.now x.reasons.blocks.now x.reasons.minimums.now x.reasons.maximums.now x.feedback_ids.now x.marks.now x.projected.sources.now x.projected.sinks.now x.projected.inverted.now x.projected.minimums.now x.projected.maximums.now x.projected.starts.now x.projected.lengths.now x.projected.path_ids.now x.labels.settled.now x.labels.lows.now x.labels.highs.now

abbrev pub analysis_lent : SceneLists → AnalyzeLists
analysis_lent x = record { description = description_lent x.description; assessment = assessment_lent x.assessment }

abbrev pub findings_lent : Findings → FindingLists
findings_lent x = finding_lists x.components.now x.polarities.now x.units.now x.start_ticks.now x.end_ticks.now x.widths.now x.steady.now x.baselines.now x.starts.now x.ends.now x.verdicts.now x.rationales.now

-- The same references

pub record SameTimedEdges (old new : TimedEdgeLists) : Type 0 where
  pub sources : new.sources.ghost_name ≡ old.sources.ghost_name
  pub sinks : new.sinks.ghost_name ≡ old.sinks.ghost_name
  pub minimums : new.minimums.ghost_name ≡ old.minimums.ghost_name
  pub maximums : new.maximums.ghost_name ≡ old.maximums.ghost_name
  pub behaviors : new.behaviors.ghost_name ≡ old.behaviors.ghost_name

pub record SameDevices (old new : DeviceLists) : Type 0 where
  pub components : new.components.ghost_name ≡ old.components.ghost_name
  pub xs : new.xs.ghost_name ≡ old.xs.ghost_name
  pub ys : new.ys.ghost_name ≡ old.ys.ghost_name
  pub zs : new.zs.ghost_name ≡ old.zs.ghost_name
  pub semantics : new.semantics.ghost_name ≡ old.semantics.ghost_name
  pub delays : new.delays.ghost_name ≡ old.delays.ghost_name

pub record SameEvidence (old new : EvidenceLists) : Type 0 where
  pub kinds : new.kinds.ghost_name ≡ old.kinds.ghost_name
  pub sources : new.sources.ghost_name ≡ old.sources.ghost_name
  pub sinks : new.sinks.ghost_name ≡ old.sinks.ghost_name
  pub components : new.components.ghost_name ≡ old.components.ghost_name
  pub blocks : new.blocks.ghost_name ≡ old.blocks.ghost_name

pub record SameReasons (old new : ReasonLists) : Type 0 where
  pub kinds : new.kinds.ghost_name ≡ old.kinds.ghost_name
  pub components : new.components.ghost_name ≡ old.components.ghost_name
  pub blocks : new.blocks.ghost_name ≡ old.blocks.ghost_name
  pub minimums : new.minimums.ghost_name ≡ old.minimums.ghost_name
  pub maximums : new.maximums.ghost_name ≡ old.maximums.ghost_name

pub record SameProjection (old new : ProjectionLists) : Type 0 where
  pub sources : new.sources.ghost_name ≡ old.sources.ghost_name
  pub sinks : new.sinks.ghost_name ≡ old.sinks.ghost_name
  pub inverted : new.inverted.ghost_name ≡ old.inverted.ghost_name
  pub minimums : new.minimums.ghost_name ≡ old.minimums.ghost_name
  pub maximums : new.maximums.ghost_name ≡ old.maximums.ghost_name
  pub starts : new.starts.ghost_name ≡ old.starts.ghost_name
  pub lengths : new.lengths.ghost_name ≡ old.lengths.ghost_name
  pub path_ids : new.path_ids.ghost_name ≡ old.path_ids.ghost_name

pub record SameLabels (old new : LabelLists) : Type 0 where
  pub settled : new.settled.ghost_name ≡ old.settled.ghost_name
  pub lows : new.lows.ghost_name ≡ old.lows.ghost_name
  pub highs : new.highs.ghost_name ≡ old.highs.ghost_name

pub record SameFindings (old new : Findings) : Type 0 where
  pub components : new.components.ghost_name ≡ old.components.ghost_name
  pub polarities : new.polarities.ghost_name ≡ old.polarities.ghost_name
  pub units : new.units.ghost_name ≡ old.units.ghost_name
  pub start_ticks : new.start_ticks.ghost_name ≡ old.start_ticks.ghost_name
  pub end_ticks : new.end_ticks.ghost_name ≡ old.end_ticks.ghost_name
  pub widths : new.widths.ghost_name ≡ old.widths.ghost_name
  pub steady : new.steady.ghost_name ≡ old.steady.ghost_name
  pub baselines : new.baselines.ghost_name ≡ old.baselines.ghost_name
  pub starts : new.starts.ghost_name ≡ old.starts.ghost_name
  pub ends : new.ends.ghost_name ≡ old.ends.ghost_name
  pub verdicts : new.verdicts.ghost_name ≡ old.verdicts.ghost_name
  pub rationales : new.rationales.ghost_name ≡ old.rationales.ghost_name

pub record SameDescription (old new : DescriptionLists) : Type 0 where
  pub edges : SameTimedEdges old.edges new.edges
  pub devices : SameDevices old.devices new.devices
  pub evidence : SameEvidence old.evidence new.evidence

pub record SameAssessment (old new : AssessmentLists) : Type 0 where
  pub reasons : SameReasons old.reasons new.reasons
  pub feedback_ids : new.feedback_ids.ghost_name ≡ old.feedback_ids.ghost_name
  pub marks : new.marks.ghost_name ≡ old.marks.ghost_name
  pub projected : SameProjection old.projected new.projected
  pub labels : SameLabels old.labels new.labels

pub record SameScene (old new : SceneLists) : Type 0 where
  pub description : SameDescription old.description new.description
  pub assessment : SameAssessment old.assessment new.assessment
