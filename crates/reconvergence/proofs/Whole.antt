-- The pass from its lists to its answers. Assumes nothing.
use mathlib.Core.Bool.{Bool, true, false}
use mathlib.Core.List.{List}
use mathlib.Core.Path.{◌≡◌, refl, sym, ◌∙◌}
use Prim.Native.Nat.{ℕ}
use native.Mathlib.Omega.{arith}
use borrow.Author.Tests.{eq-eqb}
use lib.ListN.{length, take}
use lib.Seq.{length-take-le}
use Rattle.std.specs.Prelude.{Some, None}
use Rattle.rules.specs.Ordered.{key_at}
use Rattle.rules.specs.Graph.{edges_between}
use Rattle.graph.specs.Fits.{index_fits, EdgesIndexed}
use Rattle.graph.proofs.Fitting.{ends-all}
use Rattle.reconvergence.specs.Fits.{reconvergence_fits, ReconvergentDelays}
use Rattle.reconvergence.specs.Worklist.{TimedGraph}
use Rattle.reconvergence.specs.Pass.{Sized, Answered}

-- the edges are linked by their sources
pub timed : {sources sinks low high order settled smallest largest unequal head next incoming left queue head' next' : List ℕ} {r : Bool} → Sized sources sinks low high order settled smallest largest unequal head next incoming left queue
    → length head' ≡ length (take (length low) head) → EdgesIndexed sources (take (length low) head) (take (length sources) next) head' next' r → TimedGraph sources sinks head' next' low high
unfolding index_fits
timed {sources} {low} {head} {next} Z k i = record {
  indexed = i.indexed (i.answer ∙ rw (eq-eqb (length (take (length sources) next)) (length sources) (length-take-le _ _ Z.links)) (sym (ends-all (length (take (length low) head)) sources (λ e h. omega (arith, Z.edges.low e h, length-take-le (length low) head Z.heads)))));
  edges = Z.edges;
  heads = omega (arith, k, length-take-le (length low) head Z.heads);
  highs = Z.highs;
}

module _ (sources sinks low high order marks smallest largest unequal head next incoming left queue : List ℕ) where
  abbrev fits : Bool
  fits = reconvergence_fits sources sinks order (length low) (length high) (length marks) (length smallest) (length largest) (length unequal) (length head) (length next) (length incoming) (length left) (length queue)

  pub answers : (marks' smallest' largest' unequal' head' next' incoming' left' queue' : List ℕ) (c : ℕ) → fits ≡ true
      → Answered (edges_between sources sinks) (key_at low) (key_at high) (length low) order marks smallest largest unequal marks' smallest' largest' unequal' c
      → ReconvergentDelays sources sinks low high order marks smallest largest unequal head next incoming left queue marks' smallest' largest' unequal' head' next' incoming' left' queue' (Some c)
  answers marks' smallest' largest' unequal' head' next' incoming' left' queue' c e a = record {
    answer = sym e;
    settles = a.settles;
    smallests = a.smallests;
    largests = a.largests;
    lists = a.lists;
    counts = a.counts;
    refused = λ z. absurd (let y : ◌≡◌ {A = ℕ} 0 1 = cc in omega arith);
  }

  pub refuses : fits ≡ false
      → ReconvergentDelays sources sinks low high order marks smallest largest unequal head next incoming left queue marks smallest largest unequal head next incoming left queue None
  refuses e = record { answer = sym e; settles = refl; smallests = refl; largests = refl; lists = refl; counts = tt; refused = λ z. (refl, refl, refl, refl, refl) }
