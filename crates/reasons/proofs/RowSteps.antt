-- Reasons written to the columns of list 3, one after the other. Assumes nothing.
use mathlib.Core.List.{List, [], ◌∷◌, ◌++◌, map, flat_map, map-append, append_assoc, append-nil}
use mathlib.Core.Path.{◌≡◌, refl, sym, ap, ap₂, subst, ◌∙◌}
use Prim.Native.Nat.{ℕ, ◌+◌, ◌<◌, ◌≤◌}
use native.Mathlib.Numerals.{add-one}
use native.Mathlib.Omega.{arith}
use lib.ListN.{length, get_or, take, set, length-append, replicate, length-map, length-replicate}
use lib.Seq.{take-suc}
use Rattle.rules.specs.Lent.{SameReasons}
use Rattle.rules.specs.declared.lent.ReasonLists.{ReasonLists}
use Rattle.rules.specs.Lists.{from, indices, written_from}
use Rattle.rules.specs.Reasons.{Reason, feedback_loop, feedback_reason, own_reason}
use Rattle.rules.proofs.Lists.{flat-more}
use Rattle.rules.proofs.Written.{from-none, from_more, from-twice, from-length}
use Rattle.rules.proofs.Indices.{indices-length, indices-more}
use Rattle.laws.proofs.Room.{own-one, loop-one}
use Rattle.reasons.specs.Rows.{Columns, ReasonRoom, ReasonPut, ReasonsWritten, ReasonsListed, plain, own_reasons, unequal_row}

-- One column

column-more : (field : Reason → ℕ) (start mid : ℕ) (rs : List Reason) (x : Reason) (old now next : List ℕ) → mid ≡ start + length rs → mid < length old
    → now ≡ written_from start old (map field rs) → next ≡ set now mid (field x) → next ≡ written_from start old (map field (rs ++ (x ∷ [])))
column-more field start mid rs x old now next e h p q =
    let n : mid ≡ start + length (map field rs) = omega (arith, length-map rs field) in
    q ∙ ap₂ (λ l m. set l m (field x)) p n ∙ from_more old (map field rs) start (field x) (omega arith) ∙ ap (written_from start old) (sym (map-append field rs (x ∷ [])))

column-then : (field : Reason → ℕ) (start mid : ℕ) (xs ys : List Reason) (old now next : List ℕ) → mid ≡ start + length xs → start ≤ length old
    → now ≡ written_from start old (map field xs) → next ≡ written_from mid now (map field ys) → next ≡ written_from start old (map field (xs ++ ys))
column-then field start mid xs ys old now next e h p q =
    q
    ∙ ap₂ (λ m l. written_from m l (map field ys)) (e ∙ ap (λ n. start + n) (sym (length-map xs field))) p
    ∙ from-twice old (map field xs) (map field ys) start h
    ∙ ap (written_from start old) (sym (map-append field xs ys))

-- The columns together

pub same-then : {a b c : ReasonLists} → SameReasons a b → SameReasons b c → SameReasons a c
same-then p q = grind arith

-- they keep their lengths
pub record ColumnsKept (old new : Columns) : Type 0 where
  pub kinds_kept : length new.kinds ≡ length old.kinds
  pub components_kept : length new.components ≡ length old.components
  pub blocks_kept : length new.blocks ≡ length old.blocks
  pub minimums_kept : length new.minimums ≡ length old.minimums
  pub maximums_kept : length new.maximums ≡ length old.maximums

-- room for fewer
pub room-less : {old : Columns} (n m : ℕ) → m ≤ n → ReasonRoom n old → ReasonRoom m old
room-less n m h r = grind arith

-- nothing is written yet
pub rows_none : (start : ℕ) (old : Columns) → ReasonsWritten start [] old old
rows_none start old = grind (arith, from-none {A = ℕ})

module _ {old new : Columns} where
  pub rows-kept : {start : ℕ} {rs : List Reason} (n : ℕ) → start + length rs ≤ n → ReasonRoom n old → ReasonsWritten start rs old new → ColumnsKept old new
  rows-kept {start} {rs} n h m w = grind (arith, from-length {A = ℕ}, length-map {A = Reason} {B = ℕ})

  pub room-kept : (n m : ℕ) → m ≤ n → ReasonRoom n old → ColumnsKept old new → ReasonRoom m new
  room-kept n m h r e = grind arith

-- one reason more
pub rows_more : {old now next : Columns} {start mid : ℕ} {rs : List Reason} {x : Reason} → ReasonRoom (mid + 1) old → ReasonsListed start rs old now mid → ReasonPut mid x now next
    → ReasonsListed start (rs ++ (x ∷ [])) old next (mid + 1)
rows_more {old} {now} {next} {start} {mid} {rs} {x} m w p = grind (arith, column-more, length-append {A = Reason})

-- more reasons follow
pub rows_then : {old now next : Columns} {start mid : ℕ} {xs ys : List Reason} (n : ℕ) → mid ≡ start + length xs → start ≤ n → ReasonRoom n old
    → ReasonsWritten start xs old now → ReasonsWritten mid ys now next → ReasonsWritten start (xs ++ ys) old next
rows_then {old} {now} {next} {start} {mid} {xs} {ys} n e h m v w = grind (arith, column-then)

pub rows_next : {old now next : Columns} {start mid end : ℕ} {xs ys : List Reason} (n : ℕ) → start ≤ n → ReasonRoom n old → ReasonsListed start xs old now mid → ReasonsListed mid ys now next end
    → ReasonsListed start (xs ++ ys) old next end
rows_next {start} {xs} {ys} n h m v w = record { rows = rows_then n v.next h m v.rows w.rows; next = omega (arith, v.next, w.next, length-append xs ys) }

-- A component's own reasons

module _ (ids kinds locked : List ℕ) where
  abbrev own : ℕ → List Reason
  own i = own_reason (plain (get_or ids i 0) (get_or kinds i 0) (get_or locked i 0))

  own-none : own_reasons ids kinds locked 0 ≡ []
  unfolding own_reasons indices from flat_map
  own-none = refl

  own-more : (i : ℕ) → own_reasons ids kinds locked (i + 1) ≡ own_reasons ids kinds locked i ++ own i
  unfolding own_reasons flat_map
  own-more i = ap (flat_map own) (indices-more i) ∙ flat-more own (indices i) i

  own-counts : (l : List ℕ) → length (flat_map own l) ≤ length l
  unfolding flat_map
  own-counts [] = omega arith
  own-counts (j ∷ l) = grind (arith, own-counts l, own-one, length-append {A = Reason})

  pub own-count : (i : ℕ) → length (own_reasons ids kinds locked i) ≤ i
  unfolding own_reasons
  own-count i = omega (arith, own-counts (indices i), indices-length i)

-- The Feedback reason and the own reasons, component by component

-- the columns once the components before i are gone through, for as many ids of list 4 as are listed, whichever they are
abbrev pub TemporalBelow : (ids kinds locked : List ℕ) (feedback : ℕ) (old : Columns) (i count : ℕ) (now : Columns) → Type 0
TemporalBelow ids kinds locked feedback old i count now = (fs : List ℕ) → feedback ≡ length fs → ReasonsListed 0 (feedback_reason fs ++ own_reasons ids kinds locked i) old now count

module _ (ids kinds locked : List ℕ) (feedback : ℕ) {old : Columns} where
  pub without-loop : feedback ≤ 0 → TemporalBelow ids kinds locked feedback old 0 0 old
  unfolding feedback_reason
  without-loop h [] e = rw (own-none ids kinds locked) (record { rows = rows_none 0 old; next = refl })
  without-loop h (f ∷ fs) e = absurd (omega arith)

  pub with-loop : {now : Columns} → 0 < feedback → ReasonRoom (1 + length ids) old → ReasonPut 0 feedback_loop old now → TemporalBelow ids kinds locked feedback old 0 1 now
  unfolding feedback_reason
  with-loop h m p [] e = absurd (omega arith)
  with-loop h m p (f ∷ fs) e = rw (own-none ids kinds locked) (rows_more (room-less (1 + length ids) 1 (omega arith) m) (record { rows = rows_none 0 old; next = refl }) p)

  module _ (room : ReasonRoom (1 + length ids) old) (i count : ℕ) {now : Columns} (below : TemporalBelow ids kinds locked feedback old i count now) where
    abbrev some : List ℕ
    some = replicate feedback 0

    listed : ReasonsListed 0 (feedback_reason some ++ own_reasons ids kinds locked i) old now count
    listed = below some (sym (length-replicate feedback 0))

    pub temporal_few : count ≤ 1 + i
    temporal_few = omega (arith, listed.next, length-append (feedback_reason some) (own_reasons ids kinds locked i), loop-one some, own-count ids kinds locked i)

    pub temporal_room : i < length ids → ReasonRoom (count + 1) now
    temporal_room h = room-kept (1 + length ids) (count + 1) (omega (arith, temporal_few)) room (rows-kept (1 + length ids) (omega (arith, temporal_few, listed.next)) room listed.rows)

    pub temporal-own : {next : Columns} {x : Reason} → i < length ids → x ∷ [] ≡ own ids kinds locked i → ReasonPut count x now next → TemporalBelow ids kinds locked feedback old (i + 1) (count + 1) next
    temporal-own {next} {x} h e p fs q =
        subst (λ rs. ReasonsListed 0 rs old next (count + 1))
        (append_assoc (feedback_reason fs) (own_reasons ids kinds locked i) (x ∷ []) ∙ ap (λ rs. feedback_reason fs ++ rs) (ap (λ rs. own_reasons ids kinds locked i ++ rs) e ∙ sym (own-more ids kinds locked i)))
        (rows_more (room-less (1 + length ids) (count + 1) (omega (arith, temporal_few)) room) (below fs q) p)

  pub temporal-none : (i count : ℕ) {now : Columns} → [] ≡ own ids kinds locked i → TemporalBelow ids kinds locked feedback old i count now → TemporalBelow ids kinds locked feedback old (i + 1) count now
  temporal-none i count e below fs q = rw (own-more ids kinds locked i, ← e, append-nil) (below fs q)

-- The unequal delays, position by position

-- the columns once the first k positions are gone through
abbrev pub UnequalBelow : (ids smallest largest unequal : List ℕ) (start : ℕ) (old : Columns) (k : ℕ) (now : Columns) → Type 0
UnequalBelow ids smallest largest unequal start old k now = ReasonsListed start (map (unequal_row ids smallest largest) (take k unequal)) old now (start + k)

module _ (ids smallest largest unequal : List ℕ) (start : ℕ) (old : Columns) where
  abbrev row : ℕ → Reason
  row i = unequal_row ids smallest largest i

  pub unequal-start : UnequalBelow ids smallest largest unequal start old 0 old
  unequal-start = record { rows = rows_none start old; next = refl }

  module _ (room : ReasonRoom (start + length unequal) old) (k : ℕ) {now : Columns} (below : UnequalBelow ids smallest largest unequal start old k now) (h : k < length unequal) where
    pub unequal-room : ReasonRoom (start + k + 1) now
    unequal-room = room-kept (start + length unequal) (start + k + 1) (omega arith) room (rows-kept (start + length unequal) (omega (arith, below.next)) room below.rows)

    pub unequal-next : {next : Columns} → ReasonPut (start + k) (row (get_or unequal k 0)) now next → UnequalBelow ids smallest largest unequal start old (k + 1) next
    unequal-next {next} p =
        let more : map row (take k unequal) ++ (row (get_or unequal k 0) ∷ []) ≡ map row (take (k + 1) unequal) =
        sym (ap (λ m. map row (take m unequal)) (add-one k) ∙ ap (map row) (take-suc unequal k 0 h) ∙ map-append row (take k unequal) (get_or unequal k 0 ∷ [])) in
        subst (λ m. ReasonsListed start (map row (take (k + 1) unequal)) old next m) (omega arith)
        (subst (λ rs. ReasonsListed start rs old next (start + k + 1)) more (rows_more (room-less (start + length unequal) (start + k + 1) (omega arith) room) below p))
