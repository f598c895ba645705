-- What the steps of the checks need and give. Assumes nothing: these are definitions.
use Rattle.std.specs.Prelude.{◌≡◌, List, ℕ, ◌<◌, ◌≤◌, T, length}
use Rattle.rules.specs.Scene.{ComponentLists}
use Rattle.rules.specs.Refusals.{used_earlier}

-- the least position whose id an earlier one has, or the number of positions
pub record FirstRepeat (ids : List ℕ) (r : ℕ) : Type 0 where
  pub inside : r ≤ length ids
  pub none_before : (i : ℕ) → i < r → T (used_earlier ids i) → ⊥
  pub repeats : r < length ids → T (used_earlier ids r)

-- one entry of each list for each component
pub record Rows (l : ComponentLists) : Type 0 where
  pub kinds_length : length l.kinds ≡ length l.ids
  pub delays_length : length l.delays ≡ length l.ids
  pub locked_length : length l.locked ≡ length l.ids
