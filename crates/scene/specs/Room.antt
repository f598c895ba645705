-- The tests of output lists by the shortest length of each. Assumes nothing: these are definitions.
use Rattle.std.specs.Prelude.{List, map, ℕ}
use Rattle.rules.specs.Refusals.{Test, output_test, room_outputs}

abbrev pub room_tests : (n m first : ℕ) → List ℕ → List Test
room_tests n m first room = map output_test (room_outputs n m first room)
