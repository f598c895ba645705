-- Evidence of connections, then of devices. Assumes nothing.
use Rattle.std.proofs.Common.{◌≡◌, ℕ, ◌+◌, ◌≤◌, List, ◌++◌, length, ap, ap₂, ◌∙◌, arith}
use Rattle.std.proofs.lemmas.List.{length-replicate}
use Rattle.rules.specs.Lists.{written, written_from}
use Rattle.rules.specs.declared.lent.Connections.{Connections}
use Rattle.rules.specs.declared.lent.Scene.{Scene}
use Rattle.rules.specs.declared.lent.EvidenceLists.{EvidenceLists}
use Rattle.rules.proofs.Written.{from-length, from-twice}
use Rattle.describe.specs.Rows.{EvidenceFits, ConnectionsListed, DeviceEvidenceListed, EvidenceListed}

-- a list has the same room once the entries of connections are written to it
room_kept : (old new a : List ℕ) (n : ℕ) → n ≤ length old → length a ≤ n → new ≡ written old a → n ≤ length new
room_kept old new a n h k e = omega (arith, ap length e, from-length old a 0 (omega arith))

-- what is written after the entries of connections
after_row : (old new last a b : List ℕ) (m : ℕ) → m ≡ length a → new ≡ written old a → last ≡ written_from m new b → last ≡ written old (a ++ b)
after_row old new last a b m e p q = let n : m ≡ 0 + length a = omega arith in q ∙ ap₂ (λ k x. written_from k x b) n p ∙ from-twice old a b 0 (omega arith)

module _ (n : Connections) (old new : EvidenceLists) (pairs : length n.sinks.now ≡ length n.sources.now) (first : ConnectionsListed n old new) where
  pub still_fits : (k : ℕ) → EvidenceFits (length n.sources.now + k) old → EvidenceFits (length n.sources.now + k) new
  still_fits k f = record {
    kinds_room = room_kept _ _ _ _ f.kinds_room (omega (arith, length-replicate {A = ℕ})) first.kinds;
    sources_room = room_kept _ _ _ _ f.sources_room (omega arith) first.sources;
    sinks_room = room_kept _ _ _ _ f.sinks_room (omega arith) first.sinks;
    components_room = room_kept _ _ _ _ f.components_room (omega (arith, length-replicate {A = ℕ})) first.components;
    blocks_room = room_kept _ _ _ _ f.blocks_room (omega (arith, length-replicate {A = ℕ})) first.blocks;
  }

pub both_listed : (s : Scene) (old new last : EvidenceLists) → length s.connections.sinks.now ≡ length s.connections.sources.now → ConnectionsListed s.connections old new
    → DeviceEvidenceListed s.components (length s.connections.sources.now) new last → EvidenceListed s old last
both_listed s old new last pairs a b = record {
  kinds = after_row _ _ _ _ _ _ (omega (arith, length-replicate {A = ℕ})) a.kinds b.kinds;
  sources = after_row _ _ _ _ _ _ (omega arith) a.sources b.sources;
  sinks = after_row _ _ _ _ _ _ (omega arith) a.sinks b.sinks;
  components = after_row _ _ _ _ _ _ (omega (arith, length-replicate {A = ℕ})) a.components b.components;
  blocks = after_row _ _ _ _ _ _ (omega (arith, length-replicate {A = ℕ})) a.blocks b.blocks;
}
