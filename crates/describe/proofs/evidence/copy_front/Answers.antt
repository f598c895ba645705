-- The entries are gone through in order. Assumes nothing.
use mathlib.Core.List.{map-id}
use Rattle.std.proofs.Common.{ℕ, rules, ap, ◌∙◌, arith}
use Rattle.rules.specs.Lists.{written}
use Rattle.rules.proofs.Made.{made_none, made_more, made_all}
use Rattle.describe.proofs.evidence.copy_front.Goals as goal

pub loop-j-init : goal.loop-j-init
loop-j-init c = made_none _ 0 _

pub loop-j-preserved : goal.loop-j-preserved
loop-j-preserved c = made_more _ 0 _ c.loop-j.j _ _ _ (omega arith) (omega arith) (search rules) c.loop-j.invariant

pub returns : goal.returns
returns c = made_all (λ (x : ℕ). x) c.args.from.now 0 0 _ _ c.loop-j.j (omega arith) c.loop-j.invariant ∙ ap (written c.args.to.now) (map-id c.args.from.now)
