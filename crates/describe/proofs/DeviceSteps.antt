-- The devices are listed as the components are gone through in order. Assumes nothing.
use Rattle.std.proofs.Common.{true, false, cond, ◌≡◌, ℕ, ◌+◌, ◌<◌, ◌≤◌, List, [], ◌∷◌, ◌++◌, map, length, set, refl, sym, ap, ◌∙◌, arith}
use Rattle.std.proofs.lemmas.List.{append-nil, map-append, length-map, length-append, length-set}
use Rattle.rules.specs.Lists.{keep, from, indices, written_from}
use Rattle.rules.specs.Ordered.{key_at}
use Rattle.rules.specs.Kinds.{kind_row, is_device}
use Rattle.rules.specs.declared.lent.Components.{Components}
use Rattle.rules.specs.declared.lent.DeviceLists.{DeviceLists}
use Rattle.rules.specs.declared.lent.EvidenceLists.{EvidenceLists}
use Rattle.rules.proofs.Lists.{keep_append}
use Rattle.rules.proofs.Indices.{indices-more}
use Rattle.rules.proofs.Written.{from-none, from_more}
use Rattle.describe.specs.Rows.{delay_at_position, semantics_at_position, place_at, device_positions}

module _ (kinds : List ℕ) (i : ℕ) where
  -- the component at a position is a device, or it is not
  abbrev pub Taken : Type 0
  Taken = device_positions kinds (i + 1) ≡ device_positions kinds i ++ (i ∷ [])

  abbrev pub Passed : Type 0
  Passed = device_positions kinds (i + 1) ≡ device_positions kinds i

  more : device_positions kinds (i + 1) ≡ device_positions kinds i ++ cond (is_device (kind_row (key_at kinds i))) (i ∷ []) []
  unfolding device_positions keep
  more = ap (keep (λ j. is_device (kind_row (key_at kinds j)))) (indices-more i) ∙ keep_append (λ j. is_device (kind_row (key_at kinds j))) (indices i) (i ∷ [])

  pub taken : true ≡ is_device (kind_row (key_at kinds i)) → Taken
  taken e = more ∙ ap (λ b. device_positions kinds i ++ cond b (i ∷ []) []) (sym e)

  pub passed : false ≡ is_device (kind_row (key_at kinds i)) → Passed
  passed e = more ∙ ap (λ b. device_positions kinds i ++ cond b (i ∷ []) []) (sym e) ∙ append-nil (device_positions kinds i)

-- where the next entry is written, once the first i components are gone through
pub record PlacedBelow (kinds : List ℕ) (first place i : ℕ) : Type 0 where
  pub counted : place ≡ first + length (device_positions kinds i)
  pub few : place ≤ first + i

module _ (kinds : List ℕ) (first : ℕ) where
  pub placed_none : PlacedBelow kinds first first 0
  unfolding device_positions indices from keep
  placed_none = record { counted = omega arith; few = omega arith }

module _ {kinds : List ℕ} {first place i : ℕ} (was : PlacedBelow kinds first place i) where
  pub placed_more : Taken kinds i → PlacedBelow kinds first (place + 1) (i + 1)
  placed_more e = record { counted = rw e (omega (arith, was.counted, length-append (device_positions kinds i) (i ∷ []))); few = omega (arith, was.few) }

  pub placed_same : Passed kinds i → PlacedBelow kinds first place (i + 1)
  placed_same e = record { counted = rw e was.counted; few = omega (arith, was.few) }

-- the entries of the devices among the first i components are written, from a place on
pub record ListedBelow {A : Type 0} (f : ℕ → A) (kinds : List ℕ) (first : ℕ) (old now : List A) (i : ℕ) : Type 0 where
  pub content : now ≡ written_from first old (map f (device_positions kinds i))
  pub size : length now ≡ length old

module _ {A : Type 0} (f : ℕ → A) (kinds : List ℕ) (first : ℕ) (old : List A) where
  pub listed_none : ListedBelow f kinds first old old 0
  unfolding device_positions indices from keep
  listed_none = record { content = sym (from-none old first); size = refl }

module _ {A : Type 0} {f : ℕ → A} {kinds : List ℕ} {first : ℕ} {old now : List A} {i : ℕ} (was : ListedBelow f kinds first old now i) where
  pub listed_more : Taken kinds i → {place : ℕ} → PlacedBelow kinds first place i → place < length old → {x : A} → x ≡ f i → ListedBelow f kinds first old (set now place x) (i + 1)
  listed_more e {place} p h {x} q = record {
    content =
        let n : place ≡ first + length (map f (device_positions kinds i)) = omega (arith, p.counted, length-map (device_positions kinds i) f) in
        rw (was.content, q, n, e, map-append f (device_positions kinds i) (i ∷ [])) (from_more old (map f (device_positions kinds i)) first (f i) (omega arith));
    size = length-set now place x ∙ was.size;
  }

  pub listed_same : Passed kinds i → ListedBelow f kinds first old now (i + 1)
  listed_same e = record { content = rw e was.content; size = was.size }

-- list 1 before and after the first i components are gone through
pub record DevicesBelow (c : Components) (old now : DeviceLists) (i : ℕ) : Type 0 where
  pub components : ListedBelow (key_at c.ids.now) c.kinds.now 0 old.components.now now.components.now i
  pub xs : ListedBelow (place_at c.xs.now) c.kinds.now 0 old.xs.now now.xs.now i
  pub ys : ListedBelow (place_at c.ys.now) c.kinds.now 0 old.ys.now now.ys.now i
  pub zs : ListedBelow (place_at c.zs.now) c.kinds.now 0 old.zs.now now.zs.now i
  pub semantics : ListedBelow (semantics_at_position c.kinds.now) c.kinds.now 0 old.semantics.now now.semantics.now i
  pub delays : ListedBelow (delay_at_position c.kinds.now c.delays.now) c.kinds.now 0 old.delays.now now.delays.now i

-- the devices' entries of list 2
pub record DeviceEvidenceBelow (c : Components) (first : ℕ) (old now : EvidenceLists) (i : ℕ) : Type 0 where
  pub kinds : ListedBelow (λ (j : ℕ). 1) c.kinds.now first old.kinds.now now.kinds.now i
  pub sources : ListedBelow (λ (j : ℕ). 0) c.kinds.now first old.sources.now now.sources.now i
  pub sinks : ListedBelow (λ (j : ℕ). 0) c.kinds.now first old.sinks.now now.sinks.now i
  pub components : ListedBelow (key_at c.ids.now) c.kinds.now first old.components.now now.components.now i
  pub blocks : ListedBelow (key_at c.kinds.now) c.kinds.now first old.blocks.now now.blocks.now i
