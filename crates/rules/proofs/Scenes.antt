-- Scenes whose ids stand once and whose edges end at components: what is said of a component by its id. Assumes nothing.
use mathlib.Core.List.Memᴰ
use mathlib.Core.List.{List, [], ◌∷◌, map, Memᴰ}
use mathlib.Core.Path.{◌≡◌, sym}
use Prim.Native.Nat.{ℕ, ◌≤◌}
use native.Mathlib.Omega.{arith}
use lib.Dec.{eqb_refl}
use lib.ListN.{length, get_or, length-map}
use Rattle.rules.specs.Lists.{keep, count}
use Rattle.rules.specs.Scene.{Component, id_of, has_id, row_of, delay_of, by_id, row_at, delay_at}
use Rattle.rules.specs.Graph.{Edge, source_of, sink_of}
use Rattle.rules.proofs.Lists.{keep-in}
use Rattle.rules.proofs.Permutations.{keep-length}

-- no id has two components
abbrev pub DistinctIds : List Component → Type 0
DistinctIds cs = (v : ℕ) → count (has_id v) cs ≤ 1

-- every end of every edge is the id of a component
abbrev pub EndsListed : List Component → List Edge → Type 0
EndsListed cs es = (e : Edge) → Memᴰ e es → Memᴰ (source_of e) (map id_of cs) × Memᴰ (sink_of e) (map id_of cs)

only_one : {A : Type 0} (l : List A) (x d : A) → length l ≤ 1 → Memᴰ x l → get_or l 0 d ≡ x
only_one (y ∷ []) x d h (Memᴰ.head e) = sym e
only_one (y ∷ z ∷ l) x d h m = absurd (omega arith)
only_one {A = A} [] x d h m = elim m [ ]
only_one {A = A} (y ∷ []) x d h (Memᴰ.tail x13) = elim x13 [ ]

module _ (cs : List Component) (distinct : DistinctIds cs) (c : Component) (listed : Memᴰ c cs) where
  -- what is said by an id is said of the component that has it
  pub by-id : {A : Type 0} (f : Component → A) (other : A) → by_id f other cs c.id ≡ f c
  unfolding by_id
  by-id f other =
      only_one (map f (keep (has_id c.id) cs)) (f c) other
      (omega (arith, distinct c.id, keep-length (has_id c.id) cs, length-map (keep (has_id c.id) cs) f))
      (Memᴰ.map f (keep-in (has_id c.id) listed (eqb_refl c.id)))

  pub row-at : row_at cs c.id ≡ row_of c
  unfolding row_at
  row-at = by-id row_of _

  pub delay-at : delay_at cs c.id ≡ delay_of c
  unfolding delay_at
  delay-at = by-id delay_of 0
