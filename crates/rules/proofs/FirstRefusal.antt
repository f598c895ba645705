-- The first test that holds decides, over any list of tests. Assumes nothing.
use mathlib.Core.Bool.{Bool, true, false, not, cond}
use mathlib.Core.List.Memᴰ
use mathlib.Core.List.{List, [], ◌∷◌, ◌++◌, map, flat_map, Memᴰ}
use mathlib.Core.Path.{◌≡◌, refl, sym, ap, subst, ◌∙◌}
use mathlib.Core.Logic.{◌⊎◌, inl, inr, ⊎_elim}
use Prim.Native.Nat.{ℕ, suc, ◌-◌, ◌≤◌, ◌<◌}
use native.Mathlib.Omega.{arith}
use lib.Dec.{T, T_not, not_T, eqb, eqb→eq, ltb, ltb→lt, lt→ltb, nltb→le}
use Rattle.rules.specs.Lists.{any, from, indices, rows}
use Rattle.std.specs.Prelude.{Ok, Err}
use Rattle.rules.specs.Refusals.{Test, test, refusal_place, Checked, accepted, refused, first_refusal, lengths_differ}
use Rattle.rules.specs.declared.answers.RefusalKind.{RefusalKind}
use Rattle.rules.proofs.Lists.{tests, passes, or-none, eq_test, flat_in, flat_out, flat_append}
use Rattle.rules.proofs.Indices.{from_next, from_end, indices-split}

-- no test of the list holds
abbrev pub NoneHold : List Test → Type 0
NoneHold ts = (t : Test) → Memᴰ t ts → T t.holds → ⊥

pub none-nil : NoneHold []
none-nil t m k = Memᴰ.not-nil m

pub none-cons : {t : Test} {ts : List Test} → (T t.holds → ⊥) → NoneHold ts → NoneHold (t ∷ ts)
none-cons h g s m k = ⊎_elim (λ e. h (subst (λ u. T u.holds) e k)) (λ n. g s n k) (Memᴰ.cases_cons m)

pub none-append : (a : List Test) {b : List Test} → NoneHold a → NoneHold b → NoneHold (a ++ b)
none-append a g h s m k = ⊎_elim (λ n. g s n k) (λ n. h s n k) (Memᴰ.append_cases a m)

pub none-flat : {A : Type 0} (f : A → List Test) (l : List A) → ((x : A) → Memᴰ x l → NoneHold (f x)) → NoneHold (flat_map f l)
none-flat f l h s m k = let r = flat_out f l m in h r.0 r.1 s r.2 k

pub none-map : {A : Type 0} (f : A → Test) (l : List A) → ((x : A) → Memᴰ x l → T (f x).holds → ⊥) → NoneHold (map f l)
none-map f l h t m k = let r = Memᴰ.of_map f l m in h r.0 r.1 (subst (λ s. T s.holds) (sym r.2) k)

pub none-parts : (a b : List Test) → NoneHold (a ++ b) → NoneHold a × NoneHold b
none-parts a b h = (λ t m. h t (Memᴰ.append_left b m), λ t m. h t (Memᴰ.append_right a m))

pub none_each : {A : Type 0} (f : A → List Test) (l : List A) → NoneHold (flat_map f l) → (x : A) → Memᴰ x l → NoneHold (f x)
none_each f l h x m t k = h t (flat_in f m k)

-- The answer of code that goes through the tests: the first one holds, it does not, or there is none
pub stop : (b : Bool) {n : RefusalKind} {p : ℕ} (ts : List Test) → T b → refused n p ≡ first_refusal (test b n p ∷ ts)
unfolding first_refusal
stop true ts h = refl
stop false {n = n} {p = p} ts h = elim h [ ]

pub more : (t : Test) (ts : List Test) {v : Checked} → (T t.holds → ⊥) → v ≡ first_refusal ts → v ≡ first_refusal (t ∷ ts)
unfolding first_refusal
more t ts {v} h e = go t.holds h
  where
    go : (b : Bool) → (T b → ⊥) → v ≡ cond b (refused t.kind t.place) (first_refusal ts)
    go true k = absurd (k tt)
    go false k = e

pub end : accepted ≡ first_refusal []
unfolding first_refusal
end = refl

-- a number within its bound, for the test that it is over it
pub within : (b n : ℕ) → n ≤ b → T (ltb b n) → ⊥
within b n h t = omega (arith, ltb→lt b n t)

-- what a flag says of the test that it is equal to
pub flag-set : {r b : Bool} → r ≡ b → r ≡ true → T b
flag-set e s = subst T (sym s ∙ e) tt

pub flag-clear : {r b : Bool} → r ≡ b → r ≡ false → T b → ⊥
flag-clear e s t = subst T (sym e ∙ s) t

-- for `search`, where each test compares two numbers and what is known of them stands among the hypotheses
pub ruleset refusal-steps = (stop, more, end, within, lt→ltb)

-- the first answer, or the second where the first accepts
abbrev or_else : Checked → Checked → Checked
or_else (Ok u) r = r
or_else (Err e) r = Err e

first-append : (a b : List Test) → first_refusal (a ++ b) ≡ or_else (first_refusal a) (first_refusal b)
unfolding first_refusal
first-append [] b = refl
first-append (t ∷ a) b = go t.holds (first-append a b)
  where
    go : (h : Bool) → first_refusal (a ++ b) ≡ or_else (first_refusal a) (first_refusal b)
        → cond h (refused t.kind t.place) (first_refusal (a ++ b)) ≡ or_else (cond h (refused t.kind t.place) (first_refusal a)) (first_refusal b)
    go true e = refl
    go false e = e

-- tests in two groups: the first accepts and the second answers, or the first refuses
pub skip : (a b : List Test) {v : Checked} → accepted ≡ first_refusal a → v ≡ first_refusal b → v ≡ first_refusal (a ++ b)
skip a b e q = rw (first-append a b, ← e) q

pub stay : (a b : List Test) {n : RefusalKind} {p : ℕ} → refused n p ≡ first_refusal a → refused n p ≡ first_refusal (a ++ b)
stay a b e = rw (first-append a b, ← e)

-- Rows of tests by index: those of the rows before i accept, and row i accepts or refuses
module _ (tests-at : ℕ → List Test) where
  rows_split : (i n : ℕ) → i < n → rows tests-at n ≡ rows tests-at i ++ (tests-at i ++ flat_map tests-at (from (suc i) (n - suc i)))
  unfolding flat_map
  rows_split i n h =
      ap (flat_map tests-at) (indices-split i n (omega arith) ∙ ap (λ l. indices i ++ l) (from_next i n h)) ∙ flat_append tests-at (indices i) (i ∷ from (suc i) (n - suc i))

  pub rows_start : accepted ≡ first_refusal (rows tests-at 0)
  unfolding first_refusal indices from flat_map
  rows_start = refl

  pub rows_more : (i : ℕ) → accepted ≡ first_refusal (rows tests-at i) → accepted ≡ first_refusal (tests-at i) → accepted ≡ first_refusal (rows tests-at (suc i))
  unfolding flat_map
  rows_more i before here = rw (rows_split i (suc i) (omega arith)) (skip (rows tests-at i) (tests-at i ++ flat_map tests-at (from (suc i) (suc i - suc i))) before (rw (from_end (suc i)) (skip (tests-at i) [] here end)))

  pub rows-stop : (i n : ℕ) {kind : RefusalKind} {place : ℕ} → i < n → accepted ≡ first_refusal (rows tests-at i) → refused kind place ≡ first_refusal (tests-at i) → refused kind place ≡ first_refusal (rows tests-at n)
  rows-stop i n h before here = rw (rows_split i n h) (skip (rows tests-at i) (tests-at i ++ flat_map tests-at (from (suc i) (n - suc i))) before (stay (tests-at i) (flat_map tests-at (from (suc i) (n - suc i))) here))

holds-or-not : (b : Bool) → T b ⊎ (T b → ⊥)
holds-or-not true = inl tt
holds-or-not false = inr (λ t. t)

-- no answer both accepts and refuses
pub not-both : {v : Checked} {n : RefusalKind} {p : ℕ} → v ≡ accepted → v ≡ refused n p → ⊥
not-both a r = let z : ◌≡◌ {A = ℕ} 0 1 = cc in omega arith

-- an accepted list of tests has none that holds
pub none-holds : (ts : List Test) → first_refusal ts ≡ accepted → NoneHold ts
none-holds [] e = none-nil
none-holds (t ∷ ts) e = none-cons first (none-holds ts (more t ts first refl ∙ e))
  where
    first : T t.holds → ⊥
    first h = not-both e (sym (stop t.holds ts h))

-- and a list with none that holds is accepted
pub accepted-if : (ts : List Test) → NoneHold ts → first_refusal ts ≡ accepted
accepted-if [] h = sym end
accepted-if (t ∷ ts) h = sym (more t ts (h t (Memᴰ.head refl)) (sym (accepted-if ts (λ s m. h s (Memᴰ.tail m)))))

-- equal refusals have one kind and one place
pub same-kind : {k l : RefusalKind} {p q : ℕ} → refused k p ≡ refused l q → k ≡ l
same-kind {k = k} e = ap kind_of e
  where
    kind_of : Checked → RefusalKind
    kind_of (Ok u) = k
    kind_of (Err r) = r.kind

pub same-place : {k l : RefusalKind} {p q : ℕ} → refused k p ≡ refused l q → p ≡ q
same-place e = ap refusal_place e

-- where the first test that holds stands
pub record FirstHolds (ts : List Test) (n : RefusalKind) (p : ℕ) : Type 0 where
  pub before : List Test
  pub found : Test
  pub later : List Test
  pub split : ts ≡ before ++ (found ∷ later)
  pub none_before : NoneHold before
  pub found_holds : T found.holds
  pub found_kind : found.kind ≡ n
  pub found_place : found.place ≡ p

-- a refusal is the first test that holds
pub refused-first : (ts : List Test) {n : RefusalKind} {p : ℕ} → first_refusal ts ≡ refused n p → FirstHolds ts n p
refused-first [] e = absurd (not-both (sym end) e)
refused-first (t ∷ ts) {n} {p} e = go (refused-first ts) (holds-or-not t.holds)
  where
    go : (first_refusal ts ≡ refused n p → FirstHolds ts n p) → T t.holds ⊎ (T t.holds → ⊥) → FirstHolds (t ∷ ts) n p
    go below (inl h) = let q = stop t.holds {n = t.kind} {p = t.place} ts h in record {
      before = [];
      found = t;
      later = ts;
      split = refl;
      none_before = none-nil;
      found_holds = h;
      found_kind = same-kind (q ∙ e);
      found_place = same-place (q ∙ e);
    }
    go below (inr h) = let r = below (more t ts h refl ∙ e) in record {
      before = t ∷ r.before;
      found = r.found;
      later = r.later;
      split = ap (λ l. t ∷ l) r.split;
      none_before = none-cons h r.none_before;
      found_holds = r.found_holds;
      found_kind = r.found_kind;
      found_place = r.found_place;
    }

-- and the first test that holds is the refusal
pub first-refused : (ts : List Test) {n : RefusalKind} {p : ℕ} → FirstHolds ts n p → refused n p ≡ first_refusal ts
first-refused ts {n} {p} f = skip f.before (f.found ∷ f.later) (sym (accepted-if f.before f.none_before)) this ∙ ap first_refusal (sym f.split)
  where
    this : refused n p ≡ first_refusal (f.found ∷ f.later)
    this = rw (← f.found_kind, ← f.found_place) (stop f.found.holds f.later f.found_holds)

-- a condition that does not hold never gives its kind
pub refused-holds : (ts : List Test) {n : RefusalKind} {p : ℕ} → first_refusal ts ≡ refused n p → (t : Test) × Memᴰ t ts × T t.holds × (t.kind ≡ n) × (t.place ≡ p)
refused-holds ts e =
    let f = refused-first ts e in
    (f.found, subst (Memᴰ f.found) (sym f.split) (Memᴰ.append_right f.before (Memᴰ.head refl)), f.found_holds, f.found_kind, f.found_place)

pub at_most : (b n : ℕ) → (T (ltb b n) → ⊥) → n ≤ b
at_most b n h = nltb→le b n (not_T (ltb b n) h)

-- the lengths of one record kind differ, or all are the first one
abbrev pub All : ℕ → List ℕ → Type 0
All n [] = Unit {0}
All n (k ∷ ns) = (k ≡ n) × All n ns

pub all_same : (n : ℕ) (ns : List ℕ) → (T (lengths_differ (n ∷ ns)) → ⊥) → All n ns
unfolding any
all_same n [] h = tt
all_same n (k ∷ ns) h = (eqb→eq k n (passes (eqb k n) (λ t. h (search tests))), all_same n ns (λ t. h (search tests)))

pub same-all : (n : ℕ) (ns : List ℕ) → All n ns → T (lengths_differ (n ∷ ns)) → ⊥
unfolding any
same-all n [] a = λ t. t
same-all n (k ∷ ns) a = or-none (not (eqb k n)) _ (λ t. T_not (eqb k n) t (eq_test a.0)) (same-all n ns a.1)
