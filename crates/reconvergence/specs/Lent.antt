-- The definitions at the structs of lists, and structs that still hold the references that they held. Assumes nothing: these are definitions.
use Rattle.std.specs.Prelude.{Bool, Option, ◌≡◌, List, ℕ, length, take, drop}
use Rattle.rules.specs.Ordered.{key_at}
use Rattle.rules.specs.Graph.{Edge, edges_between}
use Rattle.rules.specs.declared.delay.DelayRange.{DelayRange}
use Rattle.graph.specs.declared.edges.Edges.{Edges}
use Rattle.reconvergence.specs.Fits.{reconvergence_fits, ReconvergentDelays}
use Rattle.reconvergence.specs.Worklist.{TimedGraph, Taking, Relaxed}
use Rattle.reconvergence.specs.Pass.{Summed, Sized, Lent, Answered}
use Rattle.reconvergence.specs.declared.lent.Delays.{Delays}
use Rattle.reconvergence.specs.declared.lent.PathSums.{PathSums}
use Rattle.reconvergence.specs.declared.lent.SumRoom.{SumRoom}
use Rattle.reconvergence.specs.declared.worklist.Worklist.{Worklist}

-- The same references

pub record SamePathSums (old new : PathSums) : Type 0 where
  pub settled : new.settled.ghost_name ≡ old.settled.ghost_name
  pub smallest : new.smallest.ghost_name ≡ old.smallest.ghost_name
  pub largest : new.largest.ghost_name ≡ old.largest.ghost_name

pub record SameSumRoom (old new : SumRoom) : Type 0 where
  pub head : new.head.ghost_name ≡ old.head.ghost_name
  pub next : new.next.ghost_name ≡ old.next.ghost_name
  pub incoming : new.incoming.ghost_name ≡ old.incoming.ghost_name
  pub left : new.left.ghost_name ≡ old.left.ghost_name
  pub queue : new.queue.ghost_name ≡ old.queue.ghost_name

pub record SameWorklist (old new : Worklist) : Type 0 where
  pub sums : new.sums.ghost_name ≡ old.sums.ghost_name
  pub room : new.room.ghost_name ≡ old.room.ghost_name
  pub sum_lists : SamePathSums old.sums.now new.sums.now
  pub room_lists : SameSumRoom old.room.now new.room.now

-- The call

abbrev pub lists_fit : Edges → Delays → (order : List ℕ) → PathSums → (unequal : List ℕ) → SumRoom → Bool
lists_fit g d order s unequal w =
    reconvergence_fits g.sources.now g.sinks.now order (length d.low.now) (length d.high.now) (length s.settled.now) (length s.smallest.now) (length s.largest.now) (length unequal) (length w.head.now) (length w.next.now) (length w.incoming.now)
    (length w.left.now) (length w.queue.now)

abbrev pub Reconvergence : Edges → Delays → (order : List ℕ) → (s s' : PathSums) → (unequal unequal' : List ℕ) → (w w' : SumRoom) → Option ℕ → Type 0
Reconvergence g d order s s' unequal unequal' w w' r =
    ReconvergentDelays g.sources.now g.sinks.now d.low.now d.high.now order s.settled.now s.smallest.now s.largest.now unequal w.head.now w.next.now w.incoming.now w.left.now w.queue.now s'.settled.now s'.smallest.now s'.largest.now unequal'
    w'.head.now w'.next.now w'.incoming.now w'.left.now w'.queue.now r

-- The pass

abbrev pub edges_lent : Edges → List Edge
edges_lent g = edges_between g.sources.now g.sinks.now

abbrev pub timed : Edges → Delays → SumRoom → Type 0
timed g d w = TimedGraph g.sources.now g.sinks.now (take (length d.low.now) w.head.now) (take (length g.sources.now) w.next.now) d.low.now d.high.now

abbrev pub roomy : ℕ → PathSums → SumRoom → Type 0
roomy n s w = Lent n w.incoming.now w.left.now s.smallest.now s.largest.now w.queue.now

abbrev pub sized : Edges → Delays → (order : List ℕ) → PathSums → (unequal : List ℕ) → SumRoom → Type 0
sized g d order s unequal w = Sized g.sources.now g.sinks.now d.low.now d.high.now order s.settled.now s.smallest.now s.largest.now unequal w.head.now w.next.now w.incoming.now w.left.now w.queue.now

abbrev pub taking : Edges → Delays → Worklist → (i : ℕ) → Type 0
taking g d l i =
    Taking (edges_lent g) (key_at d.low.now) (key_at d.high.now) (length d.low.now) l.room.now.incoming.now l.room.now.left.now l.sums.now.smallest.now l.sums.now.largest.now l.room.now.queue.now i l.waiting

abbrev pub relaxed : Worklist → (v : ℕ) → DelayRange → Worklist → Type 0
relaxed l v sum l' =
    Relaxed l.room.now.incoming.now l.room.now.left.now l.sums.now.smallest.now l.sums.now.largest.now l.room.now.queue.now l.waiting v sum l'.room.now.left.now l'.sums.now.smallest.now l'.sums.now.largest.now l'.room.now.queue.now l'.waiting

abbrev pub summed : Edges → Delays → PathSums → SumRoom → Type 0
summed g d s w = Summed (edges_lent g) (key_at d.low.now) (key_at d.high.now) (length d.low.now) w.incoming.now w.left.now s.smallest.now s.largest.now

abbrev pub answered : Edges → Delays → (order : List ℕ) → (s s' : PathSums) → (unequal unequal' : List ℕ) → ℕ → Type 0
answered g d order s s' unequal unequal' c =
    Answered (edges_lent g) (key_at d.low.now) (key_at d.high.now) (length d.low.now) order s.settled.now s.smallest.now s.largest.now unequal s'.settled.now s'.smallest.now s'.largest.now unequal' c

-- What the steps leave as it is

-- one step: the marks, the counts and the links
pub record Standing (l l' : Worklist) : Type 0 where
  pub settled : l'.sums.now.settled.now ≡ l.sums.now.settled.now
  pub incoming : l'.room.now.incoming.now ≡ l.room.now.incoming.now
  pub head : l'.room.now.head.now ≡ l.room.now.head.now
  pub next : l'.room.now.next.now ≡ l.room.now.next.now

-- all steps over n nodes: the marks, the links, and the entries of the sums past those of the nodes
pub record Kept (n : ℕ) (s s' : PathSums) (w w' : SumRoom) : Type 0 where
  pub settled : s'.settled.now ≡ s.settled.now
  pub smallest : drop n s'.smallest.now ≡ drop n s.smallest.now
  pub largest : drop n s'.largest.now ≡ drop n s.largest.now
  pub head : w'.head.now ≡ w.head.now
  pub next : w'.next.now ≡ w.next.now

abbrev pub kept : ℕ → Worklist → Worklist → Type 0
kept n l l' = Kept n l.sums.now l'.sums.now l.room.now l'.room.now
