-- Assumes nothing.
use mathlib.Core.Path.{sym, ◌∙◌}
use native.Mathlib.Omega.{arith}
use lib.ListN.{length}
use Rattle.rules.proofs.Filling.{filling-none, filling-more}
use Rattle.rules.proofs.Indices.{made-length}
use Rattle.reasons.specs.Over.{position_delay}
use Rattle.reasons.proofs.SumSteps.{column, delay-next}
use Rattle.reasons.proofs.labels.fill_delays.Goals as goal

pub loop-i-init : goal.loop-i-init
loop-i-init c = filling-none (column c.args.kinds.now c.args.words.now) c.args.delays.now (omega (arith, made-length (position_delay c.args.kinds.now c.args.words.now) (length c.args.kinds.now)))

pub loop-i-preserved : goal.loop-i-preserved
loop-i-preserved c = filling-more (column c.args.kinds.now c.args.words.now) c.loop-i.delays c.loop-i.i c.component_delay.result c.loop-i.invariant (omega (arith, made-length (position_delay c.args.kinds.now c.args.words.now) (length c.args.kinds.now))) (delay-next c.args.kinds.now c.args.words.now c.loop-i.i (omega arith) ∙ sym c.component_delay.ensures)
