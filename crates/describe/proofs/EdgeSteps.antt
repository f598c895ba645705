-- The edges are gone through in order. Assumes nothing.
use Rattle.std.proofs.Common.{◌≡◌, ℕ, ◌<◌, List, map, length, get_or, ap, ◌∙◌, arith}
use Rattle.rules.specs.Lists.{indices, written}
use Rattle.rules.specs.Ordered.{key_at}
use Rattle.rules.specs.declared.kinds.EdgeTiming.{EdgeTiming}
use Rattle.rules.specs.declared.lent.Components.{Components}
use Rattle.rules.specs.declared.lent.TimedEdgeLists.{TimedEdgeLists}
use Rattle.rules.proofs.Indices.{made-length, made_at}
use Rattle.rules.proofs.Made.{Made, made_none, made_all}
use Rattle.rules.proofs.Written.{written_at}
use Rattle.graph.specs.declared.edges.Edges.{Edges}
use Rattle.describe.specs.Rows.{timing_at_position, delay_at_position, behavior_at_position, EdgesListed}

-- what was filled in for a component
pub timing_read : (kinds delays : List ℕ) (old now : List EdgeTiming) (n i : ℕ) (d : EdgeTiming) → now ≡ written old (map (timing_at_position kinds delays) (indices n)) → i < n
    → get_or now i d ≡ timing_at_position kinds delays i
timing_read kinds delays old now n i d e h =
    ap (λ l. get_or l i d) e ∙ written_at old (map (timing_at_position kinds delays) (indices n)) i d (omega (arith, made-length (timing_at_position kinds delays) n))
    ∙ made_at (timing_at_position kinds delays) n i d h

-- list 0 before and after the first k edges are gone through
pub record EdgesBelow (c : Components) (edges : Edges) (old now : TimedEdgeLists) (k : ℕ) : Type 0 where
  pub sources : Made (λ e. key_at c.ids.now (get_or edges.sources.now e 0)) 0 old.sources.now now.sources.now k
  pub sinks : Made (λ e. key_at c.ids.now (get_or edges.sinks.now e 0)) 0 old.sinks.now now.sinks.now k
  pub minimums : Made (λ e. delay_at_position c.kinds.now c.delays.now (get_or edges.sources.now e 0)) 0 old.minimums.now now.minimums.now k
  pub maximums : Made (λ e. delay_at_position c.kinds.now c.delays.now (get_or edges.sources.now e 0)) 0 old.maximums.now now.maximums.now k
  pub behaviors : Made (λ e. behavior_at_position c.kinds.now (get_or edges.sources.now e 0)) 0 old.behaviors.now now.behaviors.now k

module _ (c : Components) (edges : Edges) (old : TimedEdgeLists) where
  pub edges_none : EdgesBelow c edges old old 0
  edges_none = record { sources = made_none _ 0 _; sinks = made_none _ 0 _; minimums = made_none _ 0 _; maximums = made_none _ 0 _; behaviors = made_none _ 0 _ }

  pub edges_all : (now : TimedEdgeLists) (k : ℕ) → k ≡ length edges.sources.now → length edges.sinks.now ≡ length edges.sources.now → EdgesBelow c edges old now k → EdgesListed c edges old now
  edges_all now k e pairs m = record {
    sources = made_all (key_at c.ids.now) edges.sources.now 0 0 _ _ k e m.sources;
    sinks = made_all (key_at c.ids.now) edges.sinks.now 0 0 _ _ k (omega arith) m.sinks;
    minimums = made_all (delay_at_position c.kinds.now c.delays.now) edges.sources.now 0 0 _ _ k e m.minimums;
    maximums = made_all (delay_at_position c.kinds.now c.delays.now) edges.sources.now 0 0 _ _ k e m.maximums;
    behaviors = made_all (behavior_at_position c.kinds.now) edges.sources.now 0 0 _ _ k e m.behaviors;
  }
