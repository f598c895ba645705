-- The connections are gone through in order. Assumes nothing.
use native.Mathlib.Omega.{arith}
use lib.ListN.{length-append}
use Rattle.std.proofs.Common.{rules}
use Rattle.rules.specs.Lent.{connections_lent}
use mathlib.Core.Path.{◌≡◌}
use Rattle.std.specs.Prelude.{Ok, Err}
use Rattle.scene.proofs.ConnectionSteps.{ends-start, support-passed, edge-added, ends-refused, ends-all}
use Rattle.scene.proofs.SideBySide.{row-turn, rows-end}
use Rattle.scene.proofs.connections.look_up_rows.Goals as goal

pub loop-j-init : goal.loop-j-init
loop-j-init c = ends-start _ _ _ _

pub returns-in_err-ends : goal.returns-in_err-ends
returns-in_err-ends c =
    let m = c.args.connections.now in
    let row = row-turn m.sources.now m.sinks.now m.transfers.now c.requires.sinks_length c.requires.transfers_length _ (cc) (cc) (cc) (cc) _ _ c.loop-j.yielded_by _ c.next.new.self c.next.ensures.steps _ _ _ _ c.in-Some.is in
    let answer : c.from_residual.result ≡ Err c.in_err-ends.field-0.0 = search rules in
    rw answer (ends-refused c.args.index.now.ids.now (connections_lent m) c.in-Some.j c.loop-j.edges c.loop-j.starts c.loop-j.stops (rw row.1 c.loop-j.invariant) _ _ row.0 (rw (row.2, row.3, row.4) at c.look_up.ensures) c.in_err-ends.ensures.cases (λ o p. search rules) (λ kind q. search rules))

pub loop-j-preserved-in-Some-ends : goal.loop-j-preserved-in-Some-ends
loop-j-preserved-in-Some-ends c =
    let m = c.args.connections.now in
    let row = row-turn m.sources.now m.sinks.now m.transfers.now c.requires.sinks_length c.requires.transfers_length _ (cc) (cc) (cc) (cc) _ _ c.loop-j.yielded_by _ c.next.new.self c.next.ensures.steps _ _ _ _ c.in-Some.is in
    let found : c.look_up.result ≡ Ok c.in_ok-ends.ends = search rules in
    let below = c.loop-j.invariant in
    rw length-append (edge-added _ _ _ _ _ _ below _ (omega (arith, c.requires, row, below.few)) (omega (arith, c.requires, row, below.few)) (rw (found, c.in-Some-ends.is, row.2, row.3, row.4, row.1) at c.look_up.ensures))

pub loop-j-preserved : goal.loop-j-preserved
loop-j-preserved c =
    let m = c.args.connections.now in
    let row = row-turn m.sources.now m.sinks.now m.transfers.now c.requires.sinks_length c.requires.transfers_length _ (cc) (cc) (cc) (cc) _ _ c.loop-j.yielded_by _ c.next.new.self c.next.ensures.steps _ _ _ _ c.in-Some.is in
    let found : c.look_up.result ≡ Ok c.in_ok-ends.ends = search rules in
    rw length-append (support-passed _ _ _ _ _ _ c.loop-j.invariant (rw (found, c.in_default.is, row.2, row.3, row.4, row.1) at c.look_up.ensures))

pub returns : goal.returns
returns c =
    let m = c.args.connections.now in
    ends-all _ _ _ _ _ _ c.loop-j.invariant (rows-end m.sources.now m.sinks.now m.transfers.now c.requires.sinks_length c.requires.transfers_length _ (cc) (cc) (cc) (cc) _ _ c.loop-j.yielded_by _ c.next.new.self c.next.ensures.steps c.in-None.is)
