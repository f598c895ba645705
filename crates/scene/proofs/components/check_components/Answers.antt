-- The components are gone through in order. Assumes nothing.
use native.Mathlib.Omega.{arith}
use mathlib.Core.Path.{sym, ◌∙◌}
use Prim.Native.Nat.{◌<◌, ◌≤◌}
use lib.ListN.{length, length-append}
use Rattle.rules.specs.Lent.{components_lent}
use Rattle.rules.proofs.FirstRefusal.{rows_start}
use Rattle.scene.proofs.ComponentSteps.{component-refused, next-component, not-repeated}
use Rattle.scene.proofs.SideBySide.{row-turn}
use Rattle.scene.proofs.components.check_components.Goals as goal

pub loop-i-init : goal.loop-i-init
loop-i-init c = (rows_start _, omega arith)

pub returns-in-Some-or : goal.returns-in-Some-or
returns-in-Some-or c =
    let l = c.args.components.now in
    let r = c.requires.0 in
    let row = row-turn l.kinds.now l.delays.now l.locked.now (r.delays_length ∙ sym r.kinds_length) (r.locked_length ∙ sym r.kinds_length) _ (cc) (cc) (cc) (cc) _ _ c.loop-i.yielded_by _ c.next.new.self c.next.ensures.steps _ _ _ _ c.in-Some.is in
    component-refused (components_lent l) c.in-Some.i _ _ _ _ (omega (arith, row.0, r.kinds_length)) (rw row.1 c.loop-i.invariant.0) c.requires.1 (omega (arith, row.1, c.loop-i.invariant.1)) (rw (row.2, row.3, row.4) at c.range_refusal-range.ensures) c.repeat_refusal-used.ensures c.or.ensures _ c.in-Some-or.is

pub loop-i-preserved : goal.loop-i-preserved
loop-i-preserved c =
    let l = c.args.components.now in
    let r = c.requires.0 in
    let row = row-turn l.kinds.now l.delays.now l.locked.now (r.delays_length ∙ sym r.kinds_length) (r.locked_length ∙ sym r.kinds_length) _ (cc) (cc) (cc) (cc) _ _ c.loop-i.yielded_by _ c.next.new.self c.next.ensures.steps _ _ _ _ c.in-Some.is in
    let inside : c.in-Some.i < length l.ids.now = omega (arith, row.0, r.kinds_length) in
    let reached : c.in-Some.i ≤ c.args.repeat = omega (arith, row.1, c.loop-i.invariant.1) in
    let ranged = rw (row.2, row.3, row.4) at c.range_refusal-range.ensures in
    let next = next-component (components_lent l) c.in-Some.i _ _ _ _ inside (rw row.1 c.loop-i.invariant.0) c.requires.1 reached ranged c.repeat_refusal-used.ensures c.or.ensures c.in_default.is in
    let fresh = not-repeated (components_lent l) c.in-Some.i _ _ _ _ inside (rw row.1 c.loop-i.invariant.0) c.requires.1 reached ranged c.repeat_refusal-used.ensures c.or.ensures c.in_default.is in
    (rw length-append (rw row.1 at next), rw length-append (omega (arith, row.1, fresh)))
