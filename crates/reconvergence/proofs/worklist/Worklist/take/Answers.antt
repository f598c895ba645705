-- `take` relaxes the edges that leave one node. Assumes nothing.
use mathlib.Core.Path.{refl, sym}
use native.Mathlib.Omega.{arith}
use lib.Seq.{get_or-take}
use Rattle.std.proofs.lemmas.List.{length-take}
use Rattle.std.proofs.Common.{rules, length}
use Rattle.reconvergence.proofs.Keeping.{kept-none, kept-then, kept-relaxed}
use Rattle.reconvergence.proofs.Takes.{node_in, linked-more, leaving-start, brings, some_left, some-room, leaving-more, leaving-end}
use Rattle.reconvergence.proofs.worklist.Worklist.take.Goals as goal

pub at-requires : goal.at-requires
at-requires c = omega (arith, node_in c.requires.0 c.requires.1 c.requires.2)

pub at-requires-2 : goal.at-requires-2
at-requires-2 c = omega (arith, node_in c.requires.0 c.requires.1 c.requires.2)

pub offset_bounds-self-u : goal.offset_bounds-self-u
offset_bounds-self-u c = omega (arith, node_in c.requires.0 c.requires.1 c.requires.2)

pub bounds-self-u : goal.bounds-self-u
bounds-self-u c = omega (arith, node_in c.requires.0 c.requires.1 c.requires.2, c.requires.0.heads, length-take (length c.args.delays.now.low.now) c.args.self.now.room.now.head.now)

pub loop-e-init : goal.loop-e-init
loop-e-init c = (search rules, leaving-start c.requires.0 c.requires.1 c.requires.2 (sym (get_or-take _ _ _ 0 (node_in c.requires.0 c.requires.1 c.requires.2))), brings c.requires.0 c.requires.1 c.requires.2 _ (rw (c.add-sum.ensures, c.at.ensures, c.at-2.ensures) refl), kept-none _ _ _)

pub relax-requires : goal.relax-requires
relax-requires c =
    let on = linked-more _ _ _ c.args.self.now.room.now.next.now _ _ _ c.requires.0 c.loop-e-test.true in
    let v = c.requires.0.edges.high c.loop-e.e c.loop-e-test.true in
    let state = c.loop-e.invariant.1.state in (
      omega (arith, v, state.incomings),
      omega (arith, v, state.lefts),
      omega (arith, v, state.smallests),
      omega (arith, v, state.largests),
      some_left c.loop-e.invariant.1 c.requires.0.indexed.rises on.0 v,
      omega (arith, some-room c.loop-e.invariant.1 c.requires.0.indexed.rises on.0 v, state.places),
    )

pub loop-e-smaller : goal.loop-e-smaller
loop-e-smaller c =
    let on = linked-more _ _ _ c.args.self.now.room.now.next.now _ _ _ c.requires.0 c.loop-e-test.true in
    rw (c.relax.ensures.standing.next, c.loop-e.invariant.3.next, ← on.1) (omega (arith, c.requires.0.indexed.rises c.loop-e.e on.0, c.loop-e-test.true))

pub loop-e-preserved : goal.loop-e-preserved
loop-e-preserved c =
    let on = linked-more _ _ _ c.args.self.now.room.now.next.now _ _ _ c.requires.0 c.loop-e-test.true in
    let v = c.requires.0.edges.high c.loop-e.e c.loop-e-test.true in
    let done = c.relax.ensures in (
      search rules,
      rw (done.standing.incoming, done.standing.next, c.loop-e.invariant.3.next, ← on.1) (leaving-more c.loop-e.invariant.1 c.requires.0.indexed.rises on.0 v c.loop-e.invariant.2 done.relaxed),
      c.loop-e.invariant.2,
      kept-then c.loop-e.invariant.3 (kept-relaxed v done.standing done.relaxed),
    )

pub returns-clause-taken : goal.returns-clause-taken
returns-clause-taken c = leaving-end c.loop-e.invariant.1 (omega (arith, c.loop-e-test.false, c.requires.0.edges.pairs, c.requires.0.indexed.links))
