-- The ordered positions are gone through by neighbours. Assumes nothing.
use native.Mathlib.Omega.{arith}
use mathlib.Core.Path.{ap}
use Prim.Native.Nat.{suc}
use lib.ListN.{length, length-append}
use Rattle.rules.proofs.Ordering.{ordered-length, ordered-below}
use Rattle.order.proofs.Pairs.{pair-next, pairs-end}
use Rattle.scene.proofs.Repeats.{repeat-more, repeat-end}
use Rattle.scene.proofs.components.first_repeat.Goals as goal

pub earlier_repeat-first-requires : goal.earlier_repeat-first-requires
earlier_repeat-first-requires c =
    let ids = c.args.ids.now in
    let l = c.loop-p in
    let k = length l.yielded in
    let size = ap length c.requires in
    let all = ordered-length ids in
    let p = pair-next c.args.order.now k l.p-iterator l.invariant.0 c.in-Some.field-0 c.next.new.self c.in-Some.ensures.steps in
    rw (p.1, p.2, c.requires) (ordered-below ids k (omega (arith, p.0)), ordered-below ids (suc k) (omega (arith, p.0)))

pub loop-p-preserved : goal.loop-p-preserved
loop-p-preserved c =
    let ids = c.args.ids.now in
    let l = c.loop-p in
    let k = length l.yielded in
    let size = ap length c.requires in
    let all = ordered-length ids in
    let p = pair-next c.args.order.now k l.p-iterator l.invariant.0 c.in-Some.field-0 c.next.new.self c.in-Some.ensures.steps in
    (rw length-append p.3, rw (length-append, c.earlier_repeat-first.ensures, p.1, p.2, c.requires) (repeat-more ids k l.first (omega (arith, p.0)) l.invariant.1))

pub returns : goal.returns
returns c =
    let ids = c.args.ids.now in
    let l = c.loop-p in
    let size = ap length c.requires in
    let all = ordered-length ids in
    let end = pairs-end c.args.order.now (length l.yielded) l.p-iterator l.invariant.0 _ c.in-None.ensures.steps in
    repeat-end ids (length l.yielded) l.first (omega (arith, end)) l.invariant.1
