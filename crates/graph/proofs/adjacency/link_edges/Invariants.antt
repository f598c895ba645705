-- `link_edges` puts each edge in front of its source's chain. Assumes nothing.
use mathlib.Core.Path.{◌≡◌}
use mathlib.Core.List.{◌++◌}
use Rattle.std.proofs.Common.{length}
use Rattle.std.specs.Iterator.Adapters.{enumerate_count, enumerate_source, rev_source}
use Rattle.std.specs.Prelude.{drop}
use Rattle.std.specs.Slice.Iter.{iter_rest}
use Rattle.graph.proofs.Chains.{LinkedFrom}
use Rattle.graph.proofs.adjacency.link_edges.Given as goal

abbrev pub invariant-loop-e : goal.invariant-loop-e
invariant-loop-e l =
    let left = iter_rest (enumerate_source (rev_source l.e-iterator)) in
    (enumerate_count (rev_source l.e-iterator) ≡ 0)
    × (left ++ drop (length left) l.sources ≡ l.sources)
    × LinkedFrom (length left) l.sources l.head l.next
