-- The entries are gone through in order.
use Rattle.std.proofs.Common.{ℕ, get_or}
use Rattle.rules.proofs.Made.{Made}
use Rattle.describe.proofs.evidence.copy_front.Given as goal

abbrev pub invariant-loop-j : goal.invariant-loop-j
invariant-loop-j l = Made (λ (k : ℕ). get_or l.from k 0) 0 l.initial.to l.to l.j
