-- Assumes nothing.
use mathlib.Core.Path.{◌∙◌}
use Rattle.std.proofs.Common.{rules}
use Rattle.std.proofs.lemmas.List.{take-replicate}
use lib.ListN.{length}
use Rattle.rules.specs.Lent.{components_lent}
use Rattle.rules.specs.Refusals.{scene_limits}
use Rattle.reasons.proofs.PatternSteps.{pattern-marked}
use Rattle.reasons.proofs.AssessSteps.{labels-long, flagged, unequal-asked, unequal_room, reasons-found}
use Rattle.reasons.proofs.assess_within.Goals as goal

pub list_flagged-feedback-requires : goal.list_flagged-feedback-requires
list_flagged-feedback-requires c = (c.requires.0.linked, search rules, flagged (components_lent c.args.components.now) c.args.edges.now.sources.now c.args.edges.now.sinks.now c.args.order.now c.requires.0 (c.requires.1.settled_room, c.requires.1.lows_room, c.requires.1.highs_room) c.sum_paths-unequal.ensures.summed _ (take-replicate (length c.args.components.now.ids.now) scene_limits.components 0 c.requires.0.linked.nodes_few))

pub list_unequal_reasons-all-requires : goal.list_unequal_reasons-all-requires
list_unequal_reasons-all-requires c = (unequal-asked (components_lent c.args.components.now) c.args.edges.now.sources.now c.args.edges.now.sinks.now c.args.order.now c.requires.0 (c.requires.1.settled_room, c.requires.1.lows_room, c.requires.1.highs_room) c.sum_paths-unequal.ensures.summed, unequal_room (components_lent c.args.components.now) c.args.edges.now.sources.now c.args.edges.now.sinks.now c.args.order.now c.requires.0 (c.requires.1.settled_room, c.requires.1.lows_room, c.requires.1.highs_room) c.sum_paths-unequal.ensures.summed _ _ c.requires.1.reason_room c.list_temporal_reasons-temporal.ensures.listed)

pub clear_unsettled-requires : goal.clear_unsettled-requires
clear_unsettled-requires c = labels-long (components_lent c.args.components.now) c.args.edges.now.sources.now c.args.edges.now.sinks.now c.args.order.now c.requires.0 (c.requires.1.settled_room, c.requires.1.lows_room, c.requires.1.highs_room) c.sum_paths-unequal.ensures.summed

pub returns-clause-found : goal.returns-clause-found
returns-clause-found c =
    reasons-found (components_lent c.args.components.now) c.args.edges.now.sources.now c.args.edges.now.sinks.now c.args.order.now c.requires.0 (c.requires.1.settled_room, c.requires.1.lows_room, c.requires.1.highs_room) c.sum_paths-unequal.ensures.summed c.requires.1.reason_room
    c.list_flagged-feedback.ensures.ids c.list_flagged-feedback.ensures.counted c.list_temporal_reasons-temporal.ensures.listed c.list_unequal_reasons-all.ensures.listed c.clear_unsettled.ensures.cleared c.temporal_scope.ensures
    (c.classify_behavior_patterns.ensures ∙ pattern-marked _ _ _ _ _ _ c.requires.0.kinds_length c.list_flagged-feedback.ensures.marked c.list_flagged-feedback.ensures.counted)
