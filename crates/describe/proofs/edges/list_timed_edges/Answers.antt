-- The edges are gone through in order. Assumes nothing.
use Rattle.std.proofs.Common.{length, get_or, refl, ap, ◌∙◌, arith, rules}
use Rattle.rules.specs.declared.kinds.EdgeTiming.{EdgeTiming}
use Rattle.rules.specs.Codes.{behavior_code}
use Rattle.rules.proofs.Made.{made_more}
use Rattle.describe.proofs.EdgeSteps.{timing_read, edges_none, edges_all}
use Rattle.describe.proofs.edges.list_timed_edges.Goals as goal

pub loop-e-init : goal.loop-e-init
loop-e-init c = (search rules, edges_none _ _ _)

pub loop-e-preserved : goal.loop-e-preserved
loop-e-preserved c =
    let m = c.loop-e.invariant.1 in
    let read = λ (d : EdgeTiming). timing_read c.args.components.now.kinds.now c.args.components.now.delays.now _ c.fill_timings.new.timings (length c.args.components.now.kinds.now) (get_or c.args.edges.now.sources.now c.loop-e.e 0) d c.fill_timings.ensures (omega (arith, c.requires.room.starts_below c.loop-e.e c.loop-e-test.true)) in (
      search rules,
      record {
        sources = made_more _ 0 _ c.loop-e.e _ _ _ (omega arith) (omega arith) refl m.sources;
        sinks = made_more _ 0 _ c.loop-e.e _ _ _ (omega arith) (omega arith) refl m.sinks;
        minimums = made_more _ 0 _ c.loop-e.e _ _ _ (omega arith) (omega arith) (ap (λ (t : EdgeTiming). t.delay.minimum_redstone_ticks) (read _)) m.minimums;
        maximums = made_more _ 0 _ c.loop-e.e _ _ _ (omega arith) (omega arith) (ap (λ (t : EdgeTiming). t.delay.maximum_redstone_ticks) (read _)) m.maximums;
        behaviors = made_more _ 0 _ c.loop-e.e _ _ _ (omega arith) (omega arith) (c.from.ensures ∙ ap (λ (t : EdgeTiming). behavior_code t.behavior) (read _)) m.behaviors;
      },
    )

pub returns-clause-listed : goal.returns-clause-listed
returns-clause-listed c = edges_all _ _ _ _ c.loop-e.e (omega arith) c.requires.room.pairs c.loop-e.invariant.1
