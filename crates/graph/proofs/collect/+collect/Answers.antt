-- `collect` marks and groups what it reaches. The measure is the number of nodes not seen. Assumes nothing.
use mathlib.Core.Path.{◌≡◌}
use native.Mathlib.Omega.{arith}
use lib.ListN.{get_or}
use Rattle.graph.proofs.Chains.{step-on, step-end}
use Rattle.graph.proofs.Visits.{below-t}
use Rattle.graph.proofs.GroupSteps.{gather_none, fewer, open-again, gather-old, gather-new, gathered}
use Rattle.graph.proofs.collect.+collect.Goals as goal

pub loop-e-init : goal.loop-e-init
loop-e-init t c =
    let at : c.into_iter-e-iterator.result.at ≡ get_or c.args.links.now.head.now c.args.u 0 = cc in
    (cc, rw at (gather_none _ _ _ _ _ _ _))

pub collect-requires : goal.collect-requires
collect-requires t c =
    let a = c.args in
    let p = c.requires in
    let l = c.loop-e in
    let s = step-on a.links.now.next.now l.e-iterator l.invariant.0 c.in-Some.e c.next.new.self c.in-Some.ensures.steps in (
      below-t c.decreases (fewer p.0 a.root a.u p.1 p.2 _ _ l.invariant.1),
      (open-again p.0 a.root a.u p.1 p.2 _ _ l.invariant.1, p.0.linked.inside c.in-Some.e (omega (arith, s.0, p.0.linked.pairs)), c.if-marks-v-eq0.true),
    )

pub loop-e-preserved-then-marks-v-eq0 : goal.loop-e-preserved-then-marks-v-eq0
loop-e-preserved-then-marks-v-eq0 t c =
    let a = c.args in
    let p = c.requires in
    let l = c.loop-e in
    let s = step-on a.links.now.next.now l.e-iterator l.invariant.0 c.in-Some.e c.next.new.self c.in-Some.ensures.steps in
    (s.2, rw s.3 (gather-new p.0 a.root a.u p.1 p.2 _ c.in-Some.e (rw s.1 at l.invariant.1) s.0 c.collect.ensures))

pub loop-e-preserved : goal.loop-e-preserved
loop-e-preserved t c =
    let a = c.args in
    let p = c.requires in
    let l = c.loop-e in
    let s = step-on a.links.now.next.now l.e-iterator l.invariant.0 c.in-Some.e c.next.new.self c.in-Some.ensures.steps in
    (s.2, rw s.3 (gather-old p.0 a.root a.u p.1 p.2 _ c.in-Some.e (rw s.1 at l.invariant.1) s.0 c.if-marks-v-eq0.false))

pub returns : goal.returns
returns t c =
    let a = c.args in
    let p = c.requires in
    let l = c.loop-e in
    gathered p.0 a.root a.u p.1 p.2 _ l.invariant.1 (step-end a.links.now.next.now l.e-iterator l.invariant.0 c.next.new.self c.in-None.ensures.steps)
