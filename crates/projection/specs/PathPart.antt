-- The part of list 7 that holds one path, by its start and length. Assumes nothing: these are definitions.
use Rattle.std.specs.Prelude.{cond, ◌&&◌, List, ℕ, ◌+◌, leb, ltb, length, get_or}
use Rattle.projection.specs.declared.projected_path.PathPart.{PathPart}

abbrev pub empty_part : PathPart
empty_part = record { start = 0; length = 0 }

-- as `projected_path` of the rules, for a list 7 with so many ids: the stored start and length, or an empty part at the front
unfoldable pub path_part : (ids : ℕ) (starts lengths : List ℕ) → ℕ → PathPart
path_part ids starts lengths k =
    let start = get_or starts k 0 in
    let size = get_or lengths k 0 in
    let stored = ltb k (length starts) && ltb k (length lengths) in
    cond (stored && leb (start + size) ids) (record { start = start; length = size }) empty_part
