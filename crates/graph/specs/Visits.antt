-- Depth-first visits of marked nodes. Assumes nothing: these are definitions.
use Rattle.std.specs.Prelude.{List, [], ◌∷◌, ◌++◌, ◌≡◌, ℕ, suc, ◌+◌, ◌*◌, ◌<◌, ◌≤◌, eqb, length, get_or, set}
use Rattle.rules.specs.Lists.{count, written_from}
use Rattle.graph.specs.Adjacency.{Below, Rises, neighbours}
use Rattle.graph.specs.declared.edges.Links.{Links}

-- how many nodes have no mark
unfoldable pub unseen : List ℕ → ℕ
unseen marks = count (λ x. eqb x 0) marks

-- The measure of a visit and of a walk, which call each other: so many nodes are unseen, and so many edges left of the walk's chain,
-- none of a visit. There are `edges` in all.
unfoldable pub visits_left : (nodes edges left : ℕ) → ℕ
visits_left nodes edges left = nodes * suc edges + left

-- The nodes us are visited in turn: the marks s become s', and out lists the nodes newly marked, each after all that its visit met. next says where a node's edges lead.
pub data Dfs (next : ℕ → List ℕ) : List ℕ → List ℕ → List ℕ → List ℕ → Type 0 where
  done : {s : List ℕ} → Dfs next [] s s []
  skip : {v : ℕ} {us s s' out : List ℕ} → (get_or s v 0 ≡ 0 → ⊥) → Dfs next us s s' out → Dfs next (v ∷ us) s s' out
  enter : {v : ℕ} {us s s₁ s' below out : List ℕ} → v < length s → get_or s v 0 ≡ 0 → Dfs next (next v) (set s v 1) s₁ below → Dfs next us s₁ s' out → Dfs next (v ∷ us) s s' (below ++ (v ∷ out))

-- linked edges between nodes that have a mark each
pub record Linked (head next sinks marks : List ℕ) : Type 0 where
  pub nodes : length marks ≡ length head
  pub pairs : length sinks ≡ length next
  pub rises : Rises next
  pub inside : Below (length head) sinks

-- there is a place in order, from count on, for each node without a mark
pub record Ready (head next sinks marks order : List ℕ) (count : ℕ) : Type 0 where
  pub linked : Linked head next sinks marks
  pub room : count + unseen marks ≤ length order

-- the nodes us were visited, and those newly marked written to order from count on, up to r
pub record Visited (head next sinks us marks order : List ℕ) (count : ℕ) (marks' order' : List ℕ) (r : ℕ) : Type 0 where
  pub out : List ℕ
  pub dfs : Dfs (neighbours head next sinks) us marks marks' out
  pub result : r ≡ count + length out
  pub written : order' ≡ written_from count order out

-- there is a place for each node's group
pub record Open (head next sinks marks group : List ℕ) : Type 0 where
  pub linked : Linked head next sinks marks
  pub room : length group ≡ length head

-- root at each of the nodes vs
unfoldable pub paint : ℕ → List ℕ → List ℕ → List ℕ
paint root [] group = group
paint root (v ∷ vs) group = paint root vs (set group v root)

-- the nodes us were visited, and those newly marked given the group root
pub record Collected (head next sinks us marks group : List ℕ) (root : ℕ) (marks' group' : List ℕ) : Type 0 where
  pub out : List ℕ
  pub dfs : Dfs (neighbours head next sinks) us marks marks' out
  pub painted : group' ≡ paint root out group

-- the same of links that are lent
abbrev pub Visitable : Links → (marks order : List ℕ) → ℕ → Type 0
Visitable l = Ready l.head.now l.next.now l.ends.now

abbrev pub VisitedAlong : Links → (us marks order : List ℕ) (count : ℕ) (marks' order' : List ℕ) → ℕ → Type 0
VisitedAlong l = Visited l.head.now l.next.now l.ends.now

abbrev pub Collectable : Links → (marks group : List ℕ) → Type 0
Collectable l = Open l.head.now l.next.now l.ends.now

abbrev pub CollectedAlong : Links → (us marks group : List ℕ) (root : ℕ) (marks' group' : List ℕ) → Type 0
CollectedAlong l = Collected l.head.now l.next.now l.ends.now
