-- The rows of a scene tested and indexed, step by step. Assumes nothing.
use mathlib.Core.Bool.{Bool}
use mathlib.Core.List.{List}
use mathlib.Core.Path.{◌≡◌, refl, sym, ap, subst, fun_ext, ◌∙◌}
use Prim.Native.Nat.{ℕ, ◌≤◌}
use lib.Dec.{T, leb, le→leb}
use lib.ListN.{length, take}
use Rattle.std.specs.Prelude.{Result, Ok, Err, IfOk}
use Rattle.rules.specs.Lists.{written}
use Rattle.rules.specs.Ordered.{ordered}
use Rattle.rules.specs.Graph.{edges_between}
use Rattle.rules.specs.Positions.{Positioned}
use Rattle.rules.specs.Scene.{ComponentLists, ConnectionLists, edges_of, connections_of}
use Rattle.rules.specs.Refusals.{accepted, first_refusal, component_tests, connection_tests, rows}
use Rattle.rules.specs.declared.answers.Refusal.{Refusal}
use Rattle.rules.proofs.Lists.{and_both, chosen}
use Rattle.rules.proofs.Ordering.{ordered-length}
use Rattle.rules.proofs.Written.{written-front}
use Rattle.rules.proofs.FirstRefusal.{skip, stay}
use Rattle.order.specs.Sorted.{sort_fits, SortedPositions}
use Rattle.scene.specs.Lent.{PositionLists, position_lists}
use Rattle.scene.specs.Ends.{ids_alone, EndsFound}
use Rattle.scene.specs.Indexed.{PositionsOf, Tested, rows_found}

-- a sort with room for every position writes them all
pub sorted_front : (keys order scratch order' scratch' : List ℕ) (r : Bool) → length keys ≤ length order → length keys ≤ length scratch → SortedPositions keys order scratch order' scratch' r
    → take (length keys) order' ≡ ordered keys
unfolding sort_fits
sorted_front keys order scratch order' scratch' r h k s =
    ap (take (length keys)) (s.positions ∙ chosen (written order (ordered keys)) order r fits) ∙ written-front order (ordered keys) (length keys) (ordered-length keys)
  where
    fits : T r
    fits = subst T (sym s.answer) (and_both (leb (length keys) (length order)) _ (le→leb (length keys) (length order) h) (le→leb (length keys) (length scratch) k))

-- the tests of connections look at the ids alone
same_row : (l : ComponentLists) (m : ConnectionLists) (j : ℕ) → connection_tests (ids_alone l.ids) m j ≡ connection_tests l m j
unfolding connection_tests
same_row l m j = refl

same-ends : (l : ComponentLists) (m : ConnectionLists) → rows (connection_tests (ids_alone l.ids) m) (length m.sources) ≡ rows (connection_tests l m) (length m.sources)
same-ends l m = ap (λ g. rows g (length m.sources)) (fun_ext (same_row l m))

module _ (l : ComponentLists) (m : ConnectionLists) where
  pub components-refused : (p : PositionLists) (r : Refusal) → Err r ≡ first_refusal (rows (component_tests l) (length l.ids)) → Tested (rows_found l m) l.ids m p (Err r)
  components-refused p r e = record { checked = stay (rows (component_tests l) (length l.ids)) _ e; accepted = tt }

  pub ends-indexed : (order starts stops : List ℕ) (answer : Result ℕ Refusal) → accepted ≡ first_refusal (rows (component_tests l) (length l.ids)) → take (length l.ids) order ≡ ordered l.ids
      → EndsFound l.ids m starts stops answer → Tested (rows_found l m) l.ids m (position_lists order starts stops) answer
  ends-indexed order starts stops answer e s f = record {
    checked = skip (rows (component_tests l) (length l.ids)) _ e (f.checked ∙ ap first_refusal (same-ends l m));
    accepted = placed answer f.few f.positions;
  }
    where
      placed : (answer : Result ℕ Refusal) → IfOk answer (λ e. e ≤ length m.sources) → IfOk answer (λ e. Positioned l.ids (edges_of (connections_of m)) (edges_between (take e starts) (take e stops)))
          → IfOk answer (PositionsOf l.ids m (position_lists order starts stops))
      placed (Ok e) few positions = record { sorted = s; edges_few = few; positioned = positions }
      placed (Err r) few positions = tt
