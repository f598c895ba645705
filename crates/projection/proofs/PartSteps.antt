-- The part of list 7 that holds a path. Assumes nothing.
use mathlib.Core.Bool.{Bool, true, false, cond, ◌&&◌}
use mathlib.Core.List.{List, []}
use mathlib.Core.Path.{◌≡◌, refl, sym, ap, ◌∙◌}
use Prim.Native.Nat.{ℕ, ◌+◌, ◌-◌, ◌≤◌}
use native.Mathlib.Omega.{arith}
use lib.Dec.{T, leb, ltb, leb→le}
use lib.ListN.{length, get_or, take, drop}
use Rattle.rules.specs.Projection.{projected_path}
use Rattle.rules.proofs.Lists.{tests}
use Rattle.projection.specs.declared.projected_path.PathPart.{PathPart}
use Rattle.projection.specs.PathPart.{empty_part, path_part}

module _ (ids : ℕ) (starts lengths : List ℕ) (k : ℕ) where
  abbrev stored : PathPart
  stored = record { start = get_or starts k 0; length = get_or lengths k 0 }

  abbrev lies : Bool
  lies = (ltb k (length starts) && ltb k (length lengths)) && leb (get_or starts k 0 + get_or lengths k 0) ids

  -- the part lies within list 7
  pub part_within : (path_part ids starts lengths k).start + (path_part ids starts lengths k).length ≤ ids
  unfolding path_part
  part_within = go lies (λ t. leb→le (get_or starts k 0 + get_or lengths k 0) ids (search tests))
    where
      go : (b : Bool) → (T b → get_or starts k 0 + get_or lengths k 0 ≤ ids) → (cond b stored empty_part).start + (cond b stored empty_part).length ≤ ids
      go true h = h tt
      go false h = omega arith

-- and it is the path
pub part-path : (paths starts lengths : List ℕ) (k : ℕ)
    → take (path_part (length paths) starts lengths k).length (drop (path_part (length paths) starts lengths k).start paths) ≡ projected_path paths starts lengths k
unfolding path_part projected_path
part-path paths starts lengths k = go ((ltb k (length starts) && ltb k (length lengths)) && leb (get_or starts k 0 + get_or lengths k 0) (length paths))
  where
    go : (b : Bool) → take (cond b (stored (length paths) starts lengths k) empty_part).length (drop (cond b (stored (length paths) starts lengths k) empty_part).start paths)
        ≡ cond b (take (get_or lengths k 0) (drop (get_or starts k 0) paths)) []
    go true = refl
    go false = refl

-- also where its end is given for its length
pub path_cut : (paths starts lengths : List ℕ) (k : ℕ) → projected_path paths starts lengths k
    ≡ take (((path_part (length paths) starts lengths k).start + (path_part (length paths) starts lengths k).length) - (path_part (length paths) starts lengths k).start) (drop (path_part (length paths) starts lengths k).start paths)
path_cut paths starts lengths k =
    let p = path_part (length paths) starts lengths k in
    let q : (p.start + p.length) - p.start ≡ p.length = omega arith in
    rw q (sym (part-path paths starts lengths k))

-- so too for a part that is known to be it
pub found-path : (paths starts lengths : List ℕ) (k : ℕ) (r : PathPart) → r ≡ path_part (length paths) starts lengths k → take r.length (drop r.start paths) ≡ projected_path paths starts lengths k
found-path paths starts lengths k r e = ap (λ p. take p.length (drop p.start paths)) e ∙ part-path paths starts lengths k
