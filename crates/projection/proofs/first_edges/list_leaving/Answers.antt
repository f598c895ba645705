-- `list_leaving` lists the edges of one chain. Assumes nothing.
use mathlib.Core.Path.{◌≡◌}
use lib.ListN.{get_or}
use Rattle.graph.proofs.Chains.{step-on, step-end}
use Rattle.projection.proofs.ListSteps.{listing_none, listing-in, listing-more, listing-end}
use Rattle.projection.proofs.first_edges.list_leaving.Goals as goal

pub loop-e-init : goal.loop-e-init
loop-e-init c =
    let at : c.into_iter-e-iterator.result.at ≡ get_or c.args.links.now.head.now c.args.v 0 = cc in
    (cc, rw at (listing_none _ c.args.links.now.rises _ _ _ c.requires.1))

pub bounds-list-place : goal.bounds-list-place
bounds-list-place c =
    let links = c.args.links.now in
    let l = c.loop-e in
    let s = step-on links.next.now l.e-iterator l.invariant.0 c.in-Some.e c.next.new.self c.in-Some.ensures.steps in
    listing-in _ links.rises _ _ _ c.requires.1 (rw s.1 at l.invariant.1) s.0

pub loop-e-preserved : goal.loop-e-preserved
loop-e-preserved c =
    let links = c.args.links.now in
    let l = c.loop-e in
    let s = step-on links.next.now l.e-iterator l.invariant.0 c.in-Some.e c.next.new.self c.in-Some.ensures.steps in
    (s.2, rw s.3 (listing-more _ links.rises _ _ _ c.requires.1 (rw s.1 at l.invariant.1) s.0))

pub returns : goal.returns
returns c =
    let links = c.args.links.now in
    let l = c.loop-e in
    listing-end _ links.rises _ _ _ c.requires.1 l.invariant.1 (step-end links.next.now l.e-iterator l.invariant.0 c.next.new.self c.in-None.ensures.steps)
