-- `walk` writes the nodes of one chain, one by one. Assumes nothing.
use Rattle.projection.proofs.WalkSteps.{going_start, going_more, going_end, end-in, last-in}
use Rattle.projection.proofs.marked.MarkedGraph.walk.Goals as goal

pub loop-v-init : goal.loop-v-init
loop-v-init c = let w = c.args.self.now.walkable in let r = c.requires in going_start w r.0 _ _ r.1

pub bounds-path_ids-end : goal.bounds-path_ids-end
bounds-path_ids-end c = let w = c.args.self.now.walkable in let r = c.requires in end-in w r.0 _ _ r.1 c.loop-v.invariant

pub loop-v-preserved : goal.loop-v-preserved
loop-v-preserved c = let w = c.args.self.now.walkable in let r = c.requires in rw c.add-delay.ensures (going_more w r.0 _ _ r.1 c.loop-v.invariant c.if-self-v-ne0.false)

pub bounds-path_ids-end-2 : goal.bounds-path_ids-end-2
bounds-path_ids-end-2 c = let w = c.args.self.now.walkable in let r = c.requires in last-in w r.0 _ _ r.1 c.loop-v.invariant c.if-self-v-ne0.true

pub returns : goal.returns
returns c = let w = c.args.self.now.walkable in let r = c.requires in rw c.add-delay.ensures (going_end w r.0 _ _ r.1 c.loop-v.invariant c.if-self-v-ne0.true)
