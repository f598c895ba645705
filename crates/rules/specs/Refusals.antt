-- The tests of the refusals and their order, with those of a scene: 1 to 8. Refusals 9 to 12 are in Traces, 13 and 15 in Recording.
-- Assumes nothing: these are definitions.
use Rattle.std.specs.Prelude.{Result, Ok, Err, Bool, false, not, cond, ◌&&◌, ◌||◌, ◌≡◌, ℕ, suc, ◌+◌, ◌*◌, min, T, eqb, ltb, length, get_or, take}
use mathlib.Core.List.{List, [], ◌∷◌, ◌++◌, map, flat_map}
use Rattle.rules.specs.Lists.{not_empty, any, indices, written_from}
use Rattle.rules.specs.Scene.{Component, Connection, ComponentLists, ConnectionLists, component_at, connection_at, is_edge}
use Rattle.rules.specs.Codes.{refusal_code}
use Rattle.rules.specs.declared.answers.Refusal.{Refusal}
use Rattle.rules.specs.declared.answers.RefusalKind.{RefusalKind}
use Rattle.rules.specs.declared.answers.RefusalKind.TheVariants.{TooManyComponents, TooManyConnections, IdUsedEarlier, ComponentOutOfRange, TransferOutOfRange, EndMissing, ListTooShort, LengthsDiffer}

-- one condition of the table of refusals, at one place
pub record Test : Type 0 where
  pub holds : Bool
  pub kind : RefusalKind
  pub place : ℕ

abbrev pub test : Bool → RefusalKind → ℕ → Test
test b k p = record { holds = b; kind = k; place = p }

-- what the checks find: that a call is accepted, or why it is not
abbrev pub Checked : Type 0
Checked = Result (Unit {0}) Refusal

abbrev pub accepted : Checked
accepted = Ok tt

abbrev pub refused : RefusalKind → ℕ → Checked
refused k p = Err (record { kind = k; place = p })

-- the first condition that holds. The tests of a step are listed by rising place: "Within one step of this order the lowest place is given.
-- A condition that doesn't hold never gives its number."
unfoldable pub first_refusal : List Test → Checked
first_refusal [] = accepted
first_refusal (t ∷ ts) =
    let r = first_refusal ts in
    cond t.holds (refused t.kind t.place) r

-- "Each returns its number and a place; every lent list and the record keep their contents.": what a lent list holds after a call
-- whose entries are to be written from a place on
module _ {A : Type 0} where
  abbrev pub after_from : Checked → ℕ → List A → List A → List A
  after_from (Ok u) start old new = written_from start old new
  after_from (Err r) start old new = old

  abbrev pub after : Checked → List A → List A → List A
  after checked old new = after_from checked 0 old new

-- an answer: what is said of an accepted call, or why it is refused
module _ {A : Type 0} where
  abbrev pub answer_of : Checked → A → Result A Refusal
  answer_of (Ok u) a = Ok a
  answer_of (Err r) a = Err r

-- the sizes that a scene may have
pub record SceneLimits : Type 0 where
  pub components : ℕ
  pub connections : ℕ

-- "N over 512", "M over 2,048"
abbrev pub scene_limits : SceneLimits
scene_limits = record { components = 512; connections = 2048 }

-- an output list: its number, the length it needs, and the lengths of the number lists of its fields
pub record Output : Type 0 where
  pub number : ℕ
  pub need : ℕ
  pub lengths : List ℕ

abbrev pub output : ℕ → ℕ → List ℕ → Output
output n k ls = record { number = n; need = k; lengths = ls }

-- "Output lists, numbered, with the length each needs: 0 timed edges M, 1 devices N, 2 evidence M+N, 3 reasons 2N+1, 4 feedback ids N,
-- 5 retained or compressed marks N, 6 projected edges M, 7 path ids 2M+N, 8 labels N."
abbrev pub need_of : (n m list : ℕ) → ℕ
need_of n m k = get_or (m ∷ n ∷ (m + n) ∷ (2 * n + 1) ∷ n ∷ n ∷ m ∷ (2 * m + n) ∷ n ∷ []) k 0

-- the output lists of a call, by rising number from a given one on, each with the lengths of its fields' number lists. A number past 8 is no
-- list that a scene call writes, and needs nothing
abbrev pub outputs_from : (list n m : ℕ) → List (List ℕ) → List Output
outputs_from k n m [] = []
outputs_from k n m (lengths ∷ lists) = output k (need_of n m k) lengths ∷ outputs_from (suc k) n m lists

-- the shortest of some lengths, and 0 of none
abbrev pub shortest : List ℕ → ℕ
shortest [] = 0
shortest (n ∷ []) = n
shortest (n ∷ m ∷ ns) = min n (shortest (m ∷ ns))

-- every output list has a number list
abbrev pub EachListed : List (List ℕ) → Type 0
EachListed [] = Unit {0}
EachListed (lengths ∷ lists) = T (not_empty lengths) × EachListed lists

-- the output lists of a call of which the shortest length of each is known: proofs/Shortest shows that this is enough
abbrev pub room_outputs : (n m list : ℕ) → List ℕ → List Output
room_outputs n m k room = outputs_from k n m (map (λ x. x ∷ []) room)

-- some length is not the first one
abbrev pub lengths_differ : List ℕ → Bool
lengths_differ [] = false
lengths_differ (n ∷ ns) = any (λ m. not (eqb m n)) ns

unfoldable pub component_lengths : ComponentLists → List ℕ
component_lengths l =
    length l.ids ∷ length l.kinds ∷ length l.delays ∷ length l.locked ∷ length l.xs ∷ length l.ys ∷ length l.zs ∷ []

unfoldable pub connection_lengths : ConnectionLists → List ℕ
connection_lengths l = length l.sources ∷ length l.sinks ∷ length l.transfers ∷ []

-- 7: "output list shorter than needed", "A list of several fields is one number list for each field, and 7 tests every one."
abbrev pub output_test : Output → Test
output_test o = test (any (λ n. ltb n o.need) o.lengths) ListTooShort o.number

-- 4: "kind over 12, delay word over 256 or locked over 1"
unfoldable pub out_of_range : Component → Bool
out_of_range c = ltb 12 c.kind || (ltb 256 c.delay || ltb 1 c.locked)

-- 3: "id already used by an earlier component"
unfoldable pub used_earlier : List ℕ → ℕ → Bool
used_earlier ids i = any (eqb (get_or ids i 0)) (take i ids)

-- "components one by one (4 then 3)"
unfoldable pub component_tests : ComponentLists → ℕ → List Test
component_tests l i = test (out_of_range (component_at l i)) ComponentOutOfRange i ∷ test (used_earlier l.ids i) IdUsedEarlier i ∷ []

-- 5: "transfer over 6"
abbrev pub bad_transfer : Connection → Bool
bad_transfer n = ltb 6 n.transfer

-- 6: "an edge's end is no component"
unfoldable pub end_missing : List ℕ → Connection → Bool
end_missing ids n = is_edge n && (not (any (eqb n.source) ids) || not (any (eqb n.sink) ids))

-- "connections one by one (5 then 6)"
unfoldable pub connection_tests : ComponentLists → ConnectionLists → ℕ → List Test
connection_tests l m j = test (bad_transfer (connection_at m j)) TransferOutOfRange j ∷ test (end_missing l.ids (connection_at m j)) EndMissing j ∷ []

-- the tests of n rows, one by one
abbrev pub rows : (ℕ → List Test) → ℕ → List Test
rows tests n = flat_map tests (indices n)

-- 8, 1, 2 and 7
unfoldable pub size_tests : SceneLimits → ComponentLists → ConnectionLists → List Output → List Test
size_tests limits l m outputs =
    test (lengths_differ (component_lengths l)) LengthsDiffer 0 ∷ test (lengths_differ (connection_lengths m)) LengthsDiffer 1
    ∷ test (ltb limits.components (length l.ids)) TooManyComponents (length l.ids)
    ∷ test (ltb limits.connections (length m.sources)) TooManyConnections (length m.sources) ∷ map output_test outputs

-- "Order for a scene: 8, 1, 2, 7, components one by one (4 then 3), connections one by one (5 then 6)."
unfoldable pub scene_tests : SceneLimits → ComponentLists → ConnectionLists → List Output → List Test
scene_tests limits l m outputs =
    size_tests limits l m outputs ++ (rows (component_tests l) (length l.ids) ++ rows (connection_tests l m) (length m.sources))

unfoldable pub check_scene : SceneLimits → ComponentLists → ConnectionLists → List Output → Checked
check_scene limits l m outputs = first_refusal (scene_tests limits l m outputs)

-- The number and place of what the checks find; an accepted call has 0 for both
abbrev pub refusal_number : Checked → ℕ
refusal_number (Ok u) = 0
refusal_number (Err r) = refusal_code r.kind

abbrev pub refusal_place : Checked → ℕ
refusal_place (Ok u) = 0
refusal_place (Err r) = r.place

-- a call that only checks: its answer, with its number and place
pub record CheckCall (checked answer : Checked) : Type 0 where
  pub answered : answer ≡ checked
  pub numbered : refusal_number answer ≡ refusal_number checked
  pub placed : refusal_place answer ≡ refusal_place checked
