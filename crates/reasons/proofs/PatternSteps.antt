-- Scope and pattern, step by step. Assumes nothing.
use mathlib.Core.Bool.{Bool, cond, ◌&&◌, ◌||◌}
use mathlib.Core.List.{List, [], ◌∷◌, map}
use mathlib.Core.Path.{◌≡◌, refl, sym, ap, ap₂, ◌∙◌}
use Prim.Native.Nat.{ℕ}
use native.Mathlib.Omega.{arith}
use borrow.Author.Tests.{lt-ltb, le-ltb}
use lib.Dec.{ltb}
use lib.ListN.{length, get_or, take}
use Rattle.std.specs.List.{list_any, zip}
use Rattle.std.proofs.lemmas.List.{ext_get_or}
use Rattle.std.proofs.lemmas.Slice.Zip.{length-zip, get_or-zip}
use Rattle.rules.specs.Lists.{not_empty, any, keep, indices}
use Rattle.rules.specs.Kinds.{kind_row, is_device}
use Rattle.rules.specs.Graph.{edges_between, shared_marks}
use Rattle.rules.specs.Scene.{ComponentLists, component_at, components_of, row_of}
use Rattle.rules.specs.Reasons.{is_inverter}
use Rattle.rules.specs.declared.answers.BehaviorPattern.TheVariants.{DelayedPath, ClockCandidate, LatchCandidate, Nothing}
use Rattle.rules.proofs.Lists.{any-map}
use Rattle.rules.proofs.Indices.{by_index, made-length, made_at}
use Rattle.reasons.specs.Listing.{is_listed, shared_positions, shared_ids}
use Rattle.reasons.specs.Over.{pattern_over}
use Rattle.reasons.specs.Pattern.{is_listed_inverter, has_listed_inverter, has_device, marked_pattern, shared_pattern}

-- something is listed
pub some_listed : {A : Type 0} (l : List A) → ltb 0 (length l) ≡ not_empty l
some_listed [] = le-ltb 0 0 (omega arith)
some_listed (x ∷ l) = lt-ltb 0 (length (x ∷ l)) (omega arith)

-- The pattern of list 4's components

-- only the marks of components are looked at
zip-front : {A B : Type 0} (xs : List A) (ys : List B) → zip xs (take (length xs) ys) ≡ zip xs ys
zip-front [] ys = refl
zip-front (x ∷ xs) [] = refl
zip-front (x ∷ xs) (y ∷ ys) = ap (λ l. (x, y) ∷ l) (zip-front xs ys)

pub pattern-marked : (ids kinds starts stops marks : List ℕ) (listed : ℕ) → length kinds ≡ length ids → take (length ids) marks ≡ shared_marks (edges_between starts stops) (length ids)
    → listed ≡ length (shared_ids ids kinds starts stops) → marked_pattern kinds marks listed ≡ shared_pattern ids kinds starts stops
unfolding shared_pattern marked_pattern
pattern-marked ids kinds starts stops marks listed e m c =
    rw (← m, ← e, ← c, zip-front)

-- two lists by their indices
zip-by_index : (xs ys : List ℕ) → length ys ≡ length xs → zip xs ys ≡ map (λ i. (get_or xs i 0, get_or ys i 0)) (indices (length xs))
zip-by_index xs ys e =
    let size : length (zip xs ys) ≡ length xs = omega (arith, length-zip xs ys) in
    ext_get_or (0, 0) (zip xs ys) (map pair (indices (length xs))) (size ∙ sym (made-length pair (length xs)))
    (λ k h. get_or-zip xs ys k (0, 0) (omega arith) (omega arith) ∙ sym (made_at pair (length xs) k (0, 0) (omega arith)))
  where
    pair : ℕ → ℕ × ℕ
    pair i = (get_or xs i 0, get_or ys i 0)

some_any : {A : Type 0} (f : A → Bool) (l : List A) → list_any f l ≡ any f l
unfolding any
some_any f [] = refl
some_any f (x ∷ l) = ap (λ r. f x || r) (some_any f l)

any-keep : {A : Type 0} (f g : A → Bool) (l : List A) → any f (keep g l) ≡ any (λ x. g x && f x) l
unfolding any keep
any-keep f g [] = refl
any-keep f g (x ∷ l) = grind (arith, any-keep f g l)

pub pattern-shared : (l : ComponentLists) (starts stops : List ℕ) → length l.kinds ≡ length l.ids → shared_pattern l.ids l.kinds starts stops ≡ pattern_over l starts stops
unfolding shared_pattern marked_pattern pattern_over shared_positions shared_marks components_of component_at row_of
pattern-shared l starts stops e =
    rw (some_listed (shared_ids l.ids l.kinds starts stops))
    (ap₂ (λ a b. cond (not_empty (shared_ids l.ids l.kinds starts stops)) (cond a ClockCandidate LatchCandidate) (cond b DelayedPath Nothing)) inverters devices)
  where
    marks : List ℕ
    marks = shared_marks (edges_between starts stops) (length l.ids)

    inverters : has_listed_inverter l.kinds marks ≡ any (λ i. is_inverter (kind_row (get_or l.kinds i 0)).node) (keep (is_listed l.kinds marks) (indices (length l.ids)))
    inverters =
        some_any _ (zip l.kinds marks)
        ∙ ap (any (λ p. is_listed_inverter p.0 p.1)) (zip-by_index l.kinds marks (made-length _ (length l.ids) ∙ sym e))
        ∙ any-map (λ p. is_listed_inverter p.0 p.1) (λ i. (get_or l.kinds i 0, get_or marks i 0)) (indices (length l.kinds))
        ∙ ap (λ n. any (λ i. is_listed_inverter (get_or l.kinds i 0) (get_or marks i 0)) (indices n)) e
        ∙ sym (any-keep (λ i. is_inverter (kind_row (get_or l.kinds i 0)).node) (is_listed l.kinds marks) (indices (length l.ids)))

    devices : has_device l.kinds ≡ any (λ c. is_device (row_of c)) (components_of l)
    devices =
        some_any _ l.kinds
        ∙ ap (any (λ kind. is_device (kind_row kind))) (by_index l.kinds 0)
        ∙ any-map (λ kind. is_device (kind_row kind)) (λ i. get_or l.kinds i 0) (indices (length l.kinds))
        ∙ ap (λ n. any (λ i. is_device (kind_row (get_or l.kinds i 0))) (indices n)) e
        ∙ sym (any-map (λ c. is_device (row_of c)) (component_at l) (indices (length l.ids)))
