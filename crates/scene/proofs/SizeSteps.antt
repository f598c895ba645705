-- The tests of lengths in their order. Assumes nothing.
use mathlib.Core.List.{List, map}
use mathlib.Core.Path.{◌≡◌}
use Prim.Native.Nat.{◌<◌, ◌≤◌}
use lib.Dec.{T, ltb, lt→ltb}
use lib.ListN.{length}
use Rattle.rules.specs.Scene.{ComponentLists, ConnectionLists}
use Rattle.rules.specs.Refusals.{Checked, refused, Output, SceneLimits, first_refusal, lengths_differ, component_lengths, connection_lengths, output_test, size_tests}
use Rattle.rules.specs.declared.answers.RefusalKind.TheVariants.{TooManyComponents, TooManyConnections, LengthsDiffer}
use Rattle.rules.proofs.FirstRefusal.{stop, more, within}

module _ (limits : SceneLimits) (l : ComponentLists) (m : ConnectionLists) (outputs : List Output) where
  pub components-differ : T (lengths_differ (component_lengths l)) → refused LengthsDiffer 0 ≡ first_refusal (size_tests limits l m outputs)
  unfolding size_tests
  components-differ t = stop (lengths_differ (component_lengths l)) _ t

  module _ (components : T (lengths_differ (component_lengths l)) → ⊥) where
    pub connections-differ : T (lengths_differ (connection_lengths m)) → refused LengthsDiffer 1 ≡ first_refusal (size_tests limits l m outputs)
    unfolding size_tests
    connections-differ t = more _ _ components (stop (lengths_differ (connection_lengths m)) _ t)

    module _ (connections : T (lengths_differ (connection_lengths m)) → ⊥) where
      pub many-components : limits.components < length l.ids → refused TooManyComponents (length l.ids) ≡ first_refusal (size_tests limits l m outputs)
      unfolding size_tests
      many-components h = more _ _ components (more _ _ connections (stop (ltb limits.components (length l.ids)) _ (lt→ltb limits.components (length l.ids) h)))

      module _ (few : length l.ids ≤ limits.components) where
        pub many-connections : limits.connections < length m.sources → refused TooManyConnections (length m.sources) ≡ first_refusal (size_tests limits l m outputs)
        unfolding size_tests
        many-connections h =
            more _ _ components (more _ _ connections (more _ _ (within limits.components (length l.ids) few)
            (stop (ltb limits.connections (length m.sources)) _ (lt→ltb limits.connections (length m.sources) h))))

        pub then-outputs : length m.sources ≤ limits.connections → {v : Checked} → v ≡ first_refusal (map output_test outputs) → v ≡ first_refusal (size_tests limits l m outputs)
        unfolding size_tests
        then-outputs h e =
            more _ _ components (more _ _ connections (more _ _ (within limits.components (length l.ids) few) (more _ _ (within limits.connections (length m.sources) h) e)))
