-- The tests of connections, step by step. Assumes nothing.
use mathlib.Core.List.Memᴰ
use mathlib.Core.List.{List, [], ◌∷◌, ◌++◌, map, map-append}
use mathlib.Core.Path.{◌≡◌, refl, sym, ap, subst, ◌∙◌}
use Prim.Native.Nat.{ℕ, zero, suc, ◌+◌, ◌<◌, ◌≤◌}
use native.Mathlib.Omega.{arith}
use lib.Dec.{T, T_not, not_T, eqb, lt→ltb}
use lib.ListN.{length, get_or, take, set}
use lib.Seq.{take-suc-set, length-take-le}
use Rattle.std.specs.Prelude.{Option, Some, None, Result, Ok, Err, MatchResult, is_ok, Bool, true, false}
use Rattle.rules.specs.Lists.{any, from, indices}
use Rattle.rules.specs.Ordered.{position_of}
use Rattle.rules.specs.Graph.{edges_between}
use Rattle.rules.specs.Positions.{Positioned}
use Rattle.rules.specs.Scene.{Connection, ConnectionLists, connection_at, connections_of, is_edge, edges_of}
use Rattle.rules.specs.Refusals.{accepted, refused, first_refusal, bad_transfer, end_missing, connection_tests, rows}
use denote.Enum.Bare.{sameb}
use Rattle.rules.specs.Decoded.{ReadsTransfer, transfers, named}
use Rattle.rules.specs.contracts.kinds.TransferKind.{the_type}
use Rattle.rules.specs.declared.kinds.UnknownCode.{UnknownCode}
use Rattle.rules.specs.declared.kinds.TransferKind.{TransferKind}
use Rattle.rules.specs.declared.kinds.TransferKind.TheVariants.{StructuralSupport}
use Rattle.rules.specs.declared.answers.Refusal.{Refusal}
use Rattle.rules.specs.declared.answers.RefusalKind.{RefusalKind}
use Rattle.rules.specs.declared.answers.RefusalKind.TheVariants.{TransferOutOfRange, EndMissing}
use Rattle.rules.proofs.Lists.{tests, and_left}
use Rattle.rules.proofs.Indices.{indices-more, at_mem}
use Rattle.rules.proofs.Ordering.{position→first, missing→not-any}
use Rattle.rules.proofs.Acceptance.{ends-known-test}
use Rattle.rules.proofs.FirstRefusal.{stop, more, end, within, flag-set, flag-clear, rows_start, rows_more, rows-stop}
use Rattle.scene.proofs.Named.{named_none, named-some}
use Rattle.laws.proofs.PositionEdges.{positioned-start, positioned-edge, positioned-support, edges_between-append}
use Rattle.scene.specs.declared.connections.Ends.{Ends}
use Rattle.scene.specs.Ends.{connection, ids_alone, LookedUp, bad-transfer, end-missing, support, edge, EndsFound}

-- What a transfer's number says of it

pub no_transfer→out : (t : ℕ) (r : Result TransferKind UnknownCode) → ReadsTransfer t r → is_ok r ≡ false → 6 < t
no_transfer→out t (Ok x) h e = absurd (cc)
no_transfer→out t (Err u) h e = omega (arith, named_none transfers t h)

some-is : {x y : TransferKind} → Some x ≡ Some y → x ≡ y
some-is e = cc

-- only 6 is a support
pub transfer→support : (t : ℕ) (x : TransferKind) → named transfers t ≡ Some x → sameb the_type x StructuralSupport ≡ eqb t 6
transfer→support zero x h = ap (λ y. sameb the_type y StructuralSupport) (sym (some-is h))
transfer→support (suc zero) x h = ap (λ y. sameb the_type y StructuralSupport) (sym (some-is h))
transfer→support (suc (suc zero)) x h = ap (λ y. sameb the_type y StructuralSupport) (sym (some-is h))
transfer→support (suc (suc (suc zero))) x h = ap (λ y. sameb the_type y StructuralSupport) (sym (some-is h))
transfer→support (suc (suc (suc (suc zero)))) x h = ap (λ y. sameb the_type y StructuralSupport) (sym (some-is h))
transfer→support (suc (suc (suc (suc (suc zero))))) x h = ap (λ y. sameb the_type y StructuralSupport) (sym (some-is h))
transfer→support (suc (suc (suc (suc (suc (suc zero)))))) x h = ap (λ y. sameb the_type y StructuralSupport) (sym (some-is h))
transfer→support (suc (suc (suc (suc (suc (suc (suc t))))))) x h = absurd (cc)

-- One connection

module _ (ids : List ℕ) (a b t : ℕ) where
  abbrev this : Connection
  this = connection a b t

  pub refused-transfer : 6 < t → LookedUp ids this (Err TransferOutOfRange)
  refused-transfer h = bad-transfer (lt→ltb 6 t h)

  module _ (x : TransferKind) (read : named transfers t ≡ Some x) where
    fits : t ≤ 6
    fits = omega (arith, named-some transfers t x read)

    -- the number is that of a support, as the value is
    six : {v : Bool} → sameb the_type x StructuralSupport ≡ v → eqb t 6 ≡ v
    six e = sym (transfer→support t x read) ∙ e

    pub a-support : sameb the_type x StructuralSupport ≡ true → LookedUp ids this (Ok None)
    unfolding end_missing
    a-support e = support (within 6 t fits) (λ s. no_edge (and_left (is_edge this) _ s)) no_edge
      where
        no_edge : T (is_edge this) → ⊥
        no_edge s = T_not (eqb t 6) s (flag-set refl (six e))

    module _ (other : sameb the_type x StructuralSupport ≡ false) where
      is-edge : T (is_edge this)
      is-edge = not_T (eqb t 6) (flag-clear refl (six other))

      pub no_source : position_of ids a ≡ None → LookedUp ids this (Err EndMissing)
      unfolding end_missing
      no_source e = let k = is-edge in let n = not_T (any (eqb a) ids) (missing→not-any ids a e) in end-missing (within 6 t fits) (search tests)

      pub no-sink : position_of ids b ≡ None → LookedUp ids this (Err EndMissing)
      unfolding end_missing
      no-sink e = let k = is-edge in let n = not_T (any (eqb b) ids) (missing→not-any ids b e) in end-missing (within 6 t fits) (search tests)

      pub both_ends : (x y : ℕ) → position_of ids a ≡ Some x → position_of ids b ≡ Some y → LookedUp ids this (Ok (Some (record { start = x; stop = y })))
      both_ends x y e f =
          let p = position→first ids a x e in
          let q = position→first ids b y f in
          edge (within 6 t fits) (ends-known-test ids this record {
            transfer_fits = fits;
            source_known = λ s. Memᴰ.cast (sym p.has) (at_mem 0 ids x p.inside);
            sink_known = λ s. Memᴰ.cast (sym q.has) (at_mem 0 ids y q.inside);
          }) is-edge x y p.inside p.has q.inside q.has

-- The connections one by one

module _ (ids : List ℕ) (m : ConnectionLists) where
  abbrev at : ℕ → Connection
  at j = connection (get_or m.sources j 0) (get_or m.sinks j 0) (get_or m.transfers j 0)

  -- what is known once the connections before j are gone through
  pub record EndsBelow (j e : ℕ) (starts stops : List ℕ) : Type 0 where
    pub few : e ≤ j
    pub none_refused : accepted ≡ first_refusal (rows (connection_tests (ids_alone ids) m) j)
    pub positions : Positioned ids (edges_of (map (connection_at m) (indices j))) (edges_between (take e starts) (take e stops))

  pub ends-start : (starts stops : List ℕ) → EndsBelow 0 0 starts stops
  unfolding indices from edges_between
  ends-start starts stops = record { few = omega arith; none_refused = rows_start (connection_tests (ids_alone ids) m); positions = positioned-start ids }

  row-at : (j : ℕ) → connection_at m j ≡ at j
  unfolding connection_at
  row-at j = refl

  connections-more : (j : ℕ) → map (connection_at m) (indices (j + 1)) ≡ map (connection_at m) (indices j) ++ (at j ∷ [])
  connections-more j = ap (map (connection_at m)) (indices-more j) ∙ map-append (connection_at m) (indices j) (j ∷ []) ∙ ap (λ x. map (connection_at m) (indices j) ++ (x ∷ [])) (row-at j)

  row-accepted : (j : ℕ) (o : Option Ends) → LookedUp ids (at j) (Ok o) → accepted ≡ first_refusal (connection_tests (ids_alone ids) m j)
  unfolding connection_tests connection_at
  row-accepted j None (support f g h) = more _ _ f (more _ _ g end)
  row-accepted j (Some k) (edge f g t x y h p i q) = more _ _ f (more _ _ g end)

  row-refused : (j : ℕ) (kind : RefusalKind) → LookedUp ids (at j) (Err kind) → refused kind j ≡ first_refusal (connection_tests (ids_alone ids) m j)
  unfolding connection_tests connection_at
  row-refused j kind (bad-transfer t) = stop (bad_transfer (at j)) _ t
  row-refused j kind (end-missing f t) = more _ _ f (stop (end_missing ids (at j)) [] t)

  module _ (j e : ℕ) (starts stops : List ℕ) (below : EndsBelow j e starts stops) where
    next-accepted : (o : Option Ends) → LookedUp ids (at j) (Ok o) → accepted ≡ first_refusal (rows (connection_tests (ids_alone ids) m) (j + 1))
    next-accepted o l = let q : j + 1 ≡ suc j = omega arith in rw q (rows_more (connection_tests (ids_alone ids) m) j below.none_refused (row-accepted j o l))

    one_more : (l : List ℕ) (x : ℕ) → e < length l → take (e + 1) (set l e x) ≡ take e l ++ (x ∷ [])
    one_more l x h = let q : e + 1 ≡ suc e = omega arith in rw q (take-suc-set l e x h)

    pub support-passed : LookedUp ids (at j) (Ok None) → EndsBelow (j + 1) e starts stops
    support-passed (support f g n) = record {
      few = omega (arith, below.few);
      none_refused = next-accepted None (support f g n);
      positions = rw (connections-more j) (positioned-support ids _ _ below.positions (at j) n);
    }

    pub edge-added : (k : Ends) → e < length starts → e < length stops → LookedUp ids (at j) (Ok (Some k)) → EndsBelow (j + 1) (e + 1) (set starts e k.start) (set stops e k.stop)
    edge-added k h i (edge f g t x y p q m n) = record {
      few = omega (arith, below.few);
      none_refused = next-accepted (Some (record { start = x; stop = y })) (edge f g t x y p q m n);
      positions = rw (connections-more j, one_more starts x h, one_more stops y i, edges_between-append (take e starts) (take e stops) x y (length-take-le e starts (omega arith) ∙ sym (length-take-le e stops (omega arith))))
          (positioned-edge ids _ _ below.positions (at j) t x y p q m n);
    }

    pub ends-refused : (r : Result (Option Ends) RefusalKind) (refusal : Refusal) {P : Option Ends → Type 0} {Q : RefusalKind → Type 0} → j < length m.sources → LookedUp ids (at j) r → MatchResult r P Q
        → ((o : Option Ends) → P o → ⊥) → ((kind : RefusalKind) → Q kind → refusal ≡ record { kind = kind; place = j }) → EndsFound ids m starts stops (Err refusal)
    ends-refused (Ok o) refusal h l p f g = absurd (f o p)
    ends-refused (Err kind) refusal h l q f g = rw (g kind q) (record { checked = rows-stop (connection_tests (ids_alone ids) m) j (length m.sources) h below.none_refused (row-refused j kind l); few = tt; positions = tt })

    pub ends-all : j ≡ length m.sources → EndsFound ids m starts stops (Ok e)
    unfolding connections_of
    ends-all q = record {
      checked = subst (λ n. accepted ≡ first_refusal (rows (connection_tests (ids_alone ids) m) n)) q below.none_refused;
      few = omega (arith, below.few);
      positions = subst (λ n. Positioned ids (edges_of (map (connection_at m) (indices n))) (edges_between (take e starts) (take e stops))) q below.positions;
    }
