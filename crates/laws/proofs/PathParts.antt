-- List 7 read back: the stored start and length of a projected edge give its path. Assumes nothing.
use mathlib.Core.Bool.{Bool, ◌&&◌}
use mathlib.Core.List.{List, [], ◌∷◌, ◌++◌, map, flat_map, append_assoc}
use mathlib.Core.Path.{◌≡◌, refl, sym, ap, ◌∙◌}
use Prim.Native.Nat.{ℕ, zero, suc, ◌+◌, ◌≤◌, ◌<◌}
use native.Mathlib.Omega.{arith}
use lib.Dec.{leb, ltb, leb→le, ltb→lt, le→leb, lt→ltb}
use lib.ListN.{length, get_or, take, drop, length-append, length-map}
use lib.Seq.{take_at, drop_at}
use Rattle.rules.specs.Lists.{written}
use Rattle.rules.specs.Projection.{ProjectedEdge, starts_from, path_length, path_ids, projected_path}
use Rattle.rules.proofs.Lists.{tests, chosen, not_chosen}
use Rattle.rules.proofs.Written.{written-parts, written_at, written-length}

-- What one edge's path is

module _ (paths starts lengths : List ℕ) (k : ℕ) where
  abbrev part : List ℕ
  part = take (get_or lengths k 0) (drop (get_or starts k 0) paths)

  abbrev is_part : Bool
  is_part = (ltb k (length starts) && ltb k (length lengths)) && leb (get_or starts k 0 + get_or lengths k 0) (length paths)

  pub path_inside : k < length starts → k < length lengths → get_or starts k 0 + get_or lengths k 0 ≤ length paths
      → projected_path paths starts lengths k ≡ take (get_or lengths k 0) (drop (get_or starts k 0) paths)
  unfolding projected_path
  path_inside h i j = chosen part [] is_part (search (tests, lt→ltb k (length starts) h, lt→ltb k (length lengths) i, le→leb (get_or starts k 0 + get_or lengths k 0) (length paths) j))

  -- an edge number past the end of list 6 gives the empty part
  pub path-past-starts : length starts ≤ k → projected_path paths starts lengths k ≡ []
  unfolding projected_path
  path-past-starts h = not_chosen part [] is_part (λ t. omega (arith, ltb→lt k (length starts) (search tests)))

  pub path-past-lengths : length lengths ≤ k → projected_path paths starts lengths k ≡ []
  unfolding projected_path
  path-past-lengths h = not_chosen part [] is_part (λ t. omega (arith, ltb→lt k (length lengths) (search tests)))

  -- a stored start and length that do not lie within list 7 give the empty part
  pub path-outside : length paths < get_or starts k 0 + get_or lengths k 0 → projected_path paths starts lengths k ≡ []
  unfolding projected_path
  path-outside h = not_chosen part [] is_part (λ t. omega (arith, leb→le (get_or starts k 0 + get_or lengths k 0) (length paths) (search tests)))

-- All paths

abbrev path_of : ProjectedEdge → List ℕ
path_of p = p.path

pub starts-length : (at : ℕ) (ps : List ProjectedEdge) → length (starts_from at ps) ≡ length ps
unfolding starts_from
starts-length at [] = refl
starts-length at (p ∷ ps) = ap suc (starts-length (at + length p.path) ps)

-- what stands in list 7 before and after the path of one edge, and where that path starts
path-place : (at k : ℕ) (ps : List ProjectedEdge) → k < length ps
    → (before : List ℕ) × (after : List ℕ) × (path_ids ps ≡ before ++ (get_or (map path_of ps) k [] ++ after)) × (get_or (starts_from at ps) k 0 ≡ at + length before)
unfolding starts_from path_ids flat_map
path-place at k [] h = absurd (omega arith)
path-place at zero (p ∷ ps) h = ([], path_ids ps, refl, omega arith)
path-place at (suc k) (p ∷ ps) h =
    let r = path-place (at + length p.path) k ps (omega arith) in (
      p.path ++ r.0,
      r.1,
      ap (λ l. p.path ++ l) r.2 ∙ sym (append_assoc p.path r.0 (get_or (map path_of ps) k [] ++ r.1)),
      omega (arith, r.3, length-append p.path r.0),
    )

size-at : (k : ℕ) (ps : List ProjectedEdge) → get_or (map path_length ps) k 0 ≡ length (get_or (map path_of ps) k [])
size-at k [] = refl
size-at zero (p ∷ ps) = refl
size-at (suc k) (p ∷ ps) = size-at k ps

module _ (oldp olds oldl : List ℕ) (ps : List ProjectedEdge) where
  abbrev paths : List ℕ
  paths = written oldp (path_ids ps)

  abbrev starts : List ℕ
  starts = written olds (starts_from 0 ps)

  abbrev lengths : List ℕ
  lengths = written oldl (map path_length ps)

  -- the path of each projected edge is handed back
  pub path-back : (k : ℕ) → k < length ps
      → projected_path (written oldp (path_ids ps)) (written olds (starts_from 0 ps)) (written oldl (map path_length ps)) k ≡ get_or (map (λ p. p.path) ps) k []
  path-back k h = at (path-place 0 k ps h)
    where
      here : List ℕ
      here = get_or (map path_of ps) k []

      size : get_or lengths k 0 ≡ length here
      size = written_at oldl (map path_length ps) k 0 (omega (arith, length-map ps path_length)) ∙ size-at k ps

      at : (before : List ℕ) × (after : List ℕ) × (path_ids ps ≡ before ++ (here ++ after)) × (get_or (starts_from 0 ps) k 0 ≡ 0 + length before) → projected_path paths starts lengths k ≡ here
      at r =
          path_inside paths starts lengths k
          (omega (arith, written-length olds (starts_from 0 ps), starts-length 0 ps)) (omega (arith, written-length oldl (map path_length ps), length-map ps path_length)) fits
          ∙ rw (size, start, whole, drop_at r.0 (here ++ (r.1 ++ rest)) (length r.0) refl) (take_at here (r.1 ++ rest) (length here) refl)
        where
          rest : List ℕ
          rest = drop (length (path_ids ps)) oldp

          start : get_or starts k 0 ≡ length r.0
          start = omega (arith, written_at olds (starts_from 0 ps) k 0 (omega (arith, starts-length 0 ps)), r.3)

          whole : paths ≡ r.0 ++ (here ++ (r.1 ++ rest))
          whole = written-parts oldp (path_ids ps) ∙ ap (λ l. l ++ rest) r.2 ∙ simp append_assoc

          fits : get_or starts k 0 + get_or lengths k 0 ≤ length paths
          fits = omega (arith, start, size, ap length whole, length-append r.0 (here ++ (r.1 ++ rest)), length-append here (r.1 ++ rest))
