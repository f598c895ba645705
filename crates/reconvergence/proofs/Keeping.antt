-- What the steps leave as it is. Assumes nothing.
use mathlib.Core.Path.{refl, ap, ◌∙◌}
use Prim.Native.Nat.{ℕ, ◌<◌}
use lib.ListN.{drop}
use Rattle.std.proofs.lemmas.List.{drop-set-lt}
use Rattle.rules.specs.declared.delay.DelayRange.{DelayRange}
use Rattle.graph.specs.declared.edges.Edges.{Edges}
use Rattle.reconvergence.specs.Lent.{timed, relaxed, Standing, Kept, kept}
use Rattle.reconvergence.specs.declared.lent.Delays.{Delays}
use Rattle.reconvergence.specs.declared.lent.PathSums.{PathSums}
use Rattle.reconvergence.specs.declared.lent.SumRoom.{SumRoom}
use Rattle.reconvergence.specs.declared.worklist.Worklist.{Worklist}

pub kept-none : (n : ℕ) (s : PathSums) (w : SumRoom) → Kept n s s w w
kept-none n s w = record { settled = refl; smallest = refl; largest = refl; head = refl; next = refl }

pub kept-then : {n : ℕ} {a b c : PathSums} {u v w : SumRoom} → Kept n a b u v → Kept n b c v w → Kept n a c u w
kept-then k l = record {
  settled = l.settled ∙ k.settled;
  smallest = l.smallest ∙ k.smallest;
  largest = l.largest ∙ k.largest;
  head = l.head ∙ k.head;
  next = l.next ∙ k.next;
}

-- one edge into v is relaxed
pub kept-relaxed : {n : ℕ} {l l' : Worklist} {v : ℕ} {sum : DelayRange} → v < n → Standing l l' → relaxed l v sum l' → kept n l l'
kept-relaxed {n} h k r = record {
  settled = k.settled;
  smallest = ap (drop n) r.small ∙ drop-set-lt _ _ _ _ h;
  largest = ap (drop n) r.large ∙ drop-set-lt _ _ _ _ h;
  head = k.head;
  next = k.next;
}

pub timed-kept : {n : ℕ} {s s' : PathSums} {w w' : SumRoom} (g : Edges) (d : Delays) → timed g d w → Kept n s s' w w' → timed g d w'
timed-kept g d t k = rw (k.head, k.next) t
