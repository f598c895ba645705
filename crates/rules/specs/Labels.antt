-- Labels, list 8. Assumes nothing: these are definitions.
use Rattle.std.specs.Prelude.{cond, List, map, ℕ}
use Rattle.rules.specs.Scene.{Component, id_of, delay_at}
use Rattle.rules.specs.Graph.{Edge, settled}
use Rattle.rules.specs.Paths.{smallest_sum, largest_sum}

-- "a label for every component: its smallest and largest path sum if settled, otherwise "unsettled""
pub data Label : Type 0 where
  unsettled : Label
  between : (low high : ℕ) → Label

unfoldable pub label : List Edge → (ℕ → ℕ) → (ℕ → ℕ) → ℕ → Label
label es low high v =
    let sums = between (smallest_sum es low v) (largest_sum es high v) in
    cond (settled es v) sums unsettled

-- "An entry of list 8 is a settled flag (1 or 0) and two sums, both sums 0 if unsettled."
abbrev pub settled_flag : Label → ℕ
settled_flag unsettled = 0
settled_flag (between low high) = 1

abbrev pub low_sum : Label → ℕ
low_sum unsettled = 0
low_sum (between low high) = low

abbrev pub high_sum : Label → ℕ
high_sum unsettled = 0
high_sum (between low high) = high

-- list 8, "in component order": "Labels use the kind table's delays."
unfoldable pub labels : List Component → List Edge → List Label
labels cs es = map (label es (delay_at cs) (delay_at cs)) (map id_of cs)
