-- A scene that was read stands for its lists, and a call whose lists have the lengths that the limits ask for checks it as the report does. Assumes nothing.
use mathlib.Core.List.Memᴰ
use mathlib.Core.List.{List, [], ◌∷◌, ◌++◌, map, Memᴰ}
use mathlib.Core.Path.{◌≡◌, refl, sym, subst, ◌∙◌}
use mathlib.Core.Logic.{⊎_elim}
use Prim.Native.Nat.{ℕ, ◌+◌, ◌*◌, ◌≤◌, ◌<◌}
use native.Mathlib.Omega.{arith}
use lib.Dec.{T, leb, ltb, leb→le}
use lib.IntN.{pos}
use lib.ListN.{length, get_or, length-map}
use Rattle.std.specs.Prelude.{Ok, Err}
use Rattle.rules.specs.Lists.{every}
use Rattle.rules.specs.Scene.{Component, Connection, Scene, ComponentLists, ConnectionLists, component_at, connection_at, components_of, connections_of, scene_of, id_of}
use Rattle.rules.specs.Refusals.{Checked, accepted, Test, SceneLimits, scene_limits, Output, output_test, first_refusal, size_tests, scene_tests, check_scene}
use Rattle.rules.specs.Assess.{check_assess}
use Rattle.rules.specs.Report.{component_fields, connection_fields, check_read}
use Rattle.rules.proofs.Lists.{and_left, and_right}
use Rattle.rules.proofs.Indices.{map_at, made-same}
use Rattle.rules.proofs.FirstRefusal.{skip, stay, none-holds, none-map, accepted-if, at_most}
use Rattle.rules.proofs.Acceptance.{OutputLong, output-long-test}
use Rattle.laws.proofs.CallRoom.{Fits}

-- The lists have the fields of the scene, so that they stand for it

blank_component : Component
blank_component = record { id = 0; kind = 0; delay = 0; locked = 0; x = pos 0; y = pos 0; z = pos 0 }

blank_connection : Connection
blank_connection = record { source = 0; sink = 0; transfer = 0 }

pub fields-components : (cs : List Component) → components_of (component_fields cs) ≡ cs
unfolding components_of component_at
fields-components cs = rw (length-map cs id_of) (made-same (component_at (component_fields cs)) cs blank_component back)
  where
    back : (i : ℕ) → i < length cs → component_at (component_fields cs) i ≡ get_or cs i blank_component
    back i h =
        rw (
          map_at id_of cs i blank_component 0 h,
          map_at (λ c. c.kind) cs i blank_component 0 h,
          map_at (λ c. c.delay) cs i blank_component 0 h,
          map_at (λ c. c.locked) cs i blank_component 0 h,
          map_at (λ c. c.x) cs i blank_component (pos 0) h,
          map_at (λ c. c.y) cs i blank_component (pos 0) h,
          map_at (λ c. c.z) cs i blank_component (pos 0) h,
        )

pub fields-connections : (ns : List Connection) → connections_of (connection_fields ns) ≡ ns
unfolding connections_of connection_at
fields-connections ns = rw (length-map ns (λ n. n.source)) (made-same (connection_at (connection_fields ns)) ns blank_connection back)
  where
    back : (i : ℕ) → i < length ns → connection_at (connection_fields ns) i ≡ get_or ns i blank_connection
    back i h =
        rw (map_at (λ n. n.source) ns i blank_connection 0 h, map_at (λ n. n.sink) ns i blank_connection 0 h, map_at (λ n. n.transfer) ns i blank_connection 0 h)

pub fields-scene : (s : Scene) → scene_of (component_fields s.components) (connection_fields s.connections) ≡ s
fields-scene s = rw (fields-components s.components, fields-connections s.connections)

-- tests between two groups, none of which holds where the first group accepts, change nothing
between_none : (a b c : List Test) → (first_refusal a ≡ accepted → first_refusal b ≡ accepted) → first_refusal (a ++ (b ++ c)) ≡ first_refusal (a ++ c)
between_none a b c h = go (first_refusal a) refl h
  where
    go : (v : Checked) → v ≡ first_refusal a → (first_refusal a ≡ accepted → first_refusal b ≡ accepted) → first_refusal (a ++ (b ++ c)) ≡ first_refusal (a ++ c)
    go (Err r) e h = sym (stay a (b ++ c) e) ∙ stay a c e
    go (Ok u) e h = sym (skip a (b ++ c) e (skip b c (sym (h (sym e))) refl)) ∙ skip a c e refl

module _ (limits : SceneLimits) (l : ComponentLists) (m : ConnectionLists) where
  -- output lists that are long enough for a scene within the limits are never refused
  pub long-outputs : (outputs : List Output)
      → (length l.ids ≤ limits.components → length m.sources ≤ limits.connections → (o : Output) → Memᴰ o outputs → OutputLong o)
      → check_scene limits l m outputs ≡ check_scene limits l m []
  unfolding check_scene scene_tests size_tests
  long-outputs outputs long = between_none (size_tests limits l m []) (map output_test outputs) _ none-short
    where
      none-short : first_refusal (size_tests limits l m []) ≡ accepted → first_refusal (map output_test outputs) ≡ accepted
      none-short e = accepted-if _ (none-map output_test outputs (λ o k. output-long-test o (long (at_most _ _ few-components) (at_most _ _ few-connections) o k)))
        where
          few-components : T (ltb limits.components (length l.ids)) → ⊥
          few-components = none-holds (size_tests limits l m []) e _ (Memᴰ.tail (Memᴰ.tail (Memᴰ.head refl)))

          few-connections : T (ltb limits.connections (length m.sources)) → ⊥
          few-connections = none-holds (size_tests limits l m []) e _ (Memᴰ.tail (Memᴰ.tail (Memᴰ.tail (Memᴰ.head refl))))

-- every output of a row is long enough
abbrev AllLong : List Output → Type 0
AllLong outputs = (o : Output) → Memᴰ o outputs → OutputLong o

none-long : AllLong []
none-long o k = absurd (Memᴰ.not-nil k)

more-long : {p : Output} {outputs : List Output} → OutputLong p → AllLong outputs → AllLong (p ∷ outputs)
more-long h g o k = ⊎_elim (λ e. subst OutputLong (sym e) h) (g o) (Memᴰ.cases_cons k)

-- lists 3 to 8 have the lengths that the largest scene within the limits needs
pub record AssessLengths (limits : SceneLimits) (l3 l4 l5 l6 l7 l8 : List ℕ) : Type 0 where
  pub fits3 : Fits (2 * limits.components + 1) l3
  pub fits4 : Fits limits.components l4
  pub fits5 : Fits limits.components l5
  pub fits6 : Fits limits.connections l6
  pub fits7 : Fits (2 * limits.connections + limits.components) l7
  pub fits8 : Fits limits.components l8

-- then the call that writes them finds in a scene what the report's checks find
pub read-checked-by : (limits : SceneLimits) (s : Scene) (l3 l4 l5 l6 l7 l8 : List ℕ) → AssessLengths limits l3 l4 l5 l6 l7 l8
    → check_assess limits (component_fields s.components) (connection_fields s.connections) l3 l4 l5 l6 l7 l8 ≡ check_read limits s
unfolding check_assess check_read
read-checked-by limits s l3 l4 l5 l6 l7 l8 f = long-outputs limits (component_fields s.components) (connection_fields s.connections) _ (λ h k.
    more-long (λ n i. omega (arith, f.fits3 n i))
    (more-long (λ n i. omega (arith, f.fits4 n i))
    (more-long (λ n i. omega (arith, f.fits5 n i))
    (more-long (λ n i. omega (arith, f.fits6 n i))
    (more-long (λ n i. omega (arith, f.fits7 n i))
    (more-long (λ n i. omega (arith, f.fits8 n i)) none-long))))))

-- lengths that are numbers are compared by computing
fits-if : (used : ℕ) (lengths : List ℕ) → T (every (leb used) lengths) → Fits used lengths
unfolding every
fits-if used [] t n k = absurd (Memᴰ.not-nil k)
fits-if used (x ∷ lengths) t n k =
    ⊎_elim (λ e. subst (λ m. used ≤ m) (sym e) (leb→le used x (and_left (leb used x) _ t))) (fits-if used lengths (and_right (leb used x) _ t) n) (Memᴰ.cases_cons k)

-- the lengths that the report lends
pub read-checked : (s : Scene)
    → check_assess scene_limits (component_fields s.components) (connection_fields s.connections) (1025 ∷ 1025 ∷ 1025 ∷ 1025 ∷ 1025 ∷ []) (512 ∷ []) (512 ∷ []) (2048 ∷ 2048 ∷ 2048 ∷ 2048 ∷ 2048 ∷ 2048 ∷ 2048 ∷ []) (4608 ∷ []) (512 ∷ 512 ∷ 512 ∷ [])
    ≡ check_read scene_limits s
unfolding every
read-checked s = read-checked-by scene_limits s _ _ _ _ _ _ record {
  fits3 = fits-if _ _ tt;
  fits4 = fits-if _ _ tt;
  fits5 = fits-if _ _ tt;
  fits6 = fits-if _ _ tt;
  fits7 = fits-if _ _ tt;
  fits8 = fits-if _ _ tt;
}
