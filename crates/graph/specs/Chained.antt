-- A chain of edges that is gone along. Assumes nothing: these are definitions.
use Rattle.std.specs.Prelude.{Option, MatchOption, ◌≡◌, ℕ, ◌<◌, ◌≤◌, length, get_or}
use Rattle.graph.specs.declared.chain.Chain.{Chain}

-- One edge of the chain, and the chain before and after it. At its end a chain stays where it is.
abbrev pub chain_steps : Chain → Option ℕ → Chain → Type 0
chain_steps s r t = (t.next.now ≡ s.next.now) × MatchOption r ((length s.next.now ≤ s.at) × (t.at ≡ s.at)) (λ e. (e ≡ s.at) × (s.at < length s.next.now) × (t.at ≡ get_or s.next.now s.at 0))
