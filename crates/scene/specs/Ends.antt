-- What looking up the ends of connections gives. Assumes nothing: these are definitions.
use Rattle.std.specs.Prelude.{Option, Some, None, Result, Ok, Err, IfOk, List, [], ◌≡◌, ℕ, ◌<◌, ◌≤◌, T, length, get_or, take}
use Rattle.rules.specs.Ordered.{ordered}
use Rattle.rules.specs.Graph.{edges_between}
use Rattle.rules.specs.Scene.{ComponentLists, component_lists, Connection, ConnectionLists, is_edge, edges_of, connections_of}
use Rattle.rules.specs.Refusals.{Checked, accepted, bad_transfer, end_missing, connection_tests, first_refusal, rows}
use Rattle.rules.specs.Positions.{Positioned}
use Rattle.rules.specs.declared.answers.Refusal.{Refusal}
use Rattle.rules.specs.declared.answers.RefusalKind.{RefusalKind}
use Rattle.rules.specs.declared.answers.RefusalKind.TheVariants.{TransferOutOfRange, EndMissing}
use Rattle.scene.specs.Lookup.{Different}
use Rattle.scene.specs.declared.connections.Ends.{Ends}

abbrev pub connection : (source sink transfer : ℕ) → Connection
connection a b t = record { source = a; sink = b; transfer = t }

-- the tests of connections look at the ids alone
abbrev pub ids_alone : List ℕ → ComponentLists
ids_alone ids = component_lists ids [] [] [] [] [] []

-- one connection: refused, a support, or an edge between two positions
pub data LookedUp (ids : List ℕ) (n : Connection) : Result (Option Ends) RefusalKind → Type 0 where
  bad-transfer : T (bad_transfer n) → LookedUp ids n (Err TransferOutOfRange)
  end-missing : (T (bad_transfer n) → ⊥) → T (end_missing ids n) → LookedUp ids n (Err EndMissing)
  support : (T (bad_transfer n) → ⊥) → (T (end_missing ids n) → ⊥) → (T (is_edge n) → ⊥) → LookedUp ids n (Ok None)
  edge : (T (bad_transfer n) → ⊥) → (T (end_missing ids n) → ⊥) → T (is_edge n) → (a b : ℕ) → a < length ids → get_or ids a 0 ≡ n.source → b < length ids → get_or ids b 0 ≡ n.sink
      → LookedUp ids n (Ok (Some (record { start = a; stop = b })))

-- the ids are ordered and all different, the lists of connections have one length, and there is room for an edge from each
pub record Joined (ids order : List ℕ) (m : ConnectionLists) (starts stops : List ℕ) : Type 0 where
  pub sorted : order ≡ ordered ids
  pub different : Different ids
  pub sinks_length : length m.sinks ≡ length m.sources
  pub transfers_length : length m.transfers ≡ length m.sources
  pub starts_room : length m.sources ≤ length starts
  pub stops_room : length m.sources ≤ length stops

-- what an answer says of the checks alone
abbrev pub checked_of : {A : Type 0} → Result A Refusal → Checked
checked_of (Ok x) = accepted
checked_of (Err r) = Err r

-- the answer of the connections' tests, and how many edges there are where they accept: the first entries of the two lists are then the
-- edges over positions
pub record EndsFound (ids : List ℕ) (m : ConnectionLists) (starts stops : List ℕ) (answer : Result ℕ Refusal) : Type 0 where
  pub checked : checked_of answer ≡ first_refusal (rows (connection_tests (ids_alone ids) m) (length m.sources))
  pub few : IfOk answer (λ edges. edges ≤ length m.sources)
  pub positions : IfOk answer (λ edges. Positioned ids (edges_of (connections_of m)) (edges_between (take edges starts) (take edges stops)))
