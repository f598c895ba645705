-- Edges linked by the node that they leave. Assumes nothing: these are definitions.
use Rattle.std.specs.Prelude.{cond, List, [], ◌∷◌, map, ◌≡◌, ℕ, zero, suc, ◌-◌, ◌<◌, eqb, ltb, length, get_or}
use Rattle.rules.specs.Lists.{keep, indices}

-- each number of the list is below n
abbrev pub Below : ℕ → List ℕ → Type 0
Below n xs = (k : ℕ) → k < length xs → get_or xs k 0 < n

-- the edges on the chain of links from e on, f of them at most; a number past the last edge ends it
unfoldable pub follow : ℕ → List ℕ → ℕ → List ℕ
follow zero next e = []
follow (suc f) next e = let rest = follow f next (get_or next e 0) in cond (ltb e (length next)) (e ∷ rest) []

-- the edges on the chain from e on, each of which is later than the one before
unfoldable pub chain : List ℕ → ℕ → List ℕ
chain next e = follow (length next - e) next e

-- how many edges are left of the chain from e on
unfoldable pub edges_left : List ℕ → ℕ → ℕ
edges_left next e = length (chain next e)

-- each link leads to a later edge
abbrev pub Rises : List ℕ → Type 0
Rises next = (e : ℕ) → e < length next → e < get_or next e 0

-- the edges that leave u, in order
unfoldable pub leaving : List ℕ → ℕ → List ℕ
leaving sources u = keep (λ e. eqb (get_or sources e 0) u) (indices (length sources))

-- the chain from a node's head lists the edges that leave it
pub record Indexed (sources head next : List ℕ) : Type 0 where
  pub links : length next ≡ length sources
  pub rises : Rises next
  pub lists : (u : ℕ) → u < length head → chain next (get_or head u 0) ≡ leaving sources u

-- where the edges on the chain from e on lead
unfoldable pub ends : (next sinks : List ℕ) → ℕ → List ℕ
ends next sinks e = map (λ k. get_or sinks k 0) (chain next e)

-- where the edges that leave u lead
abbrev pub neighbours : (head next sinks : List ℕ) → ℕ → List ℕ
neighbours head next sinks u = ends next sinks (get_or head u 0)
