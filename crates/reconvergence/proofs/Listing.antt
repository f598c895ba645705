-- Marks and positions, listed step by step. Assumes nothing.
use mathlib.Core.Path.{◌≡◌, refl, sym, ap, ◌∙◌}
use mathlib.Core.Bool.{Bool, true, false, cond}
use mathlib.Core.List.{List, [], ◌∷◌, ◌++◌, append-nil}
use Prim.Native.Nat.{ℕ, ◌+◌, ◌<◌, ◌≤◌}
use native.Mathlib.Omega.{arith}
use native.Mathlib.Numerals.{add-one}
use lib.ListN.{length, get_or, take, set}
use lib.Seq.{take-suc, take_all}
use lib.Dec.{eqb}
use borrow.Author.Tests.{lt-leb, le-leb, eq-eqb, ne_eqb}
use mir.Val.{bool_byte}
use Rattle.rules.specs.Lists.{keep, written}
use Rattle.rules.specs.Ordered.{key_at}
use Rattle.rules.proofs.Lists.{keep_append}
use Rattle.rules.proofs.Indices.{made_at, made-length}
use Rattle.rules.proofs.Kept.{KeptBelow, kept-none, kept_more}
use Rattle.rules.proofs.Filling.{Filling, filling-more}
use Rattle.reconvergence.specs.Pass.{done_marks, differs}

pub marks-length : (left : List ℕ) → length (done_marks left) ≡ length left
unfolding done_marks
marks-length left = made-length (λ v. cond (eqb (key_at left v) 0) 1 0) (length left)

mark-at : (left : List ℕ) (v : ℕ) → v < length left → get_or (done_marks left) v 0 ≡ cond (eqb (key_at left v) 0) 1 0
unfolding done_marks
mark-at left v h = made_at (λ v. cond (eqb (key_at left v) 0) 1 0) (length left) v 0 h

pub mark-more : (left settled : List ℕ) (v : ℕ) → Filling (done_marks left) settled v → v < length left → Filling (done_marks left) (set settled v (bool_byte (eqb (key_at left v) 0))) (v + 1)
mark-more left settled v was h = filling-more (done_marks left) settled v _ was (omega (arith, marks-length left)) (mark-at left v h ∙ byte (eqb (key_at left v) 0))
  where
    byte : (b : Bool) → cond b 1 0 ≡ bool_byte b
    byte true = refl
    byte false = refl

-- the positions before i that pass are listed
module _ (f : ℕ → Bool) (order old : List ℕ) where
  abbrev passing : ℕ → List ℕ
  passing i = keep f (take i order)

  abbrev pub ListedTo : (unequal : List ℕ) (c i : ℕ) → Type 0
  ListedTo unequal c i = KeptBelow passing old i unequal c

  pub listed-none : ListedTo old 0 0
  unfolding keep
  listed-none = kept-none passing old refl

  module _ {unequal : List ℕ} {c i : ℕ} (was : ListedTo unequal c i) where
    module _ (h : i < length order) where
      next : (b : Bool) → f (key_at order i) ≡ b → passing (i + 1) ≡ passing i ++ cond b (key_at order i ∷ []) []
      unfolding keep
      next b e = rw add-one (ap (keep f) (take-suc order i 0 h) ∙ keep_append f (take i order) (key_at order i ∷ [])) ∙ ap (λ c. passing i ++ cond c (key_at order i ∷ []) []) e

      pub listed-yes : length order ≤ length old → f (key_at order i) ≡ true → ListedTo (set unequal c (key_at order i)) (c + 1) (i + 1)
      listed-yes room e = kept_more passing old i c unequal (key_at order i) (omega arith) was true (next true e)

      pub listed-no : f (key_at order i) ≡ false → ListedTo unequal c (i + 1)
      listed-no e =
          let none : passing (i + 1) ≡ passing i = next false e ∙ append-nil (passing i) in
          record { content = was.content ∙ ap (written old) (sym none); counted = was.counted ∙ ap length (sym none); few = omega (arith, was.few); size = was.size }

    pub listed-all : length order ≤ i → (unequal ≡ written old (keep f order)) × (c ≡ length (keep f order))
    listed-all h = let e : take i order ≡ order = take_all i order h in (was.content ∙ ap (λ l. written old (keep f l)) e, was.counted ∙ ap (λ l. length (keep f l)) e)

-- the two tests of a node
pub apart : (incoming smallest largest : ℕ) → 2 ≤ incoming → (smallest ≡ largest → ⊥) → differs incoming smallest largest ≡ true
apart incoming smallest largest h n = rw (le-leb 2 incoming h, ne_eqb smallest largest n)

pub equal : (incoming smallest largest : ℕ) → 2 ≤ incoming → smallest ≡ largest → differs incoming smallest largest ≡ false
equal incoming smallest largest h e = rw (le-leb 2 incoming h, eq-eqb smallest largest e)

pub too_few : (incoming smallest largest : ℕ) → incoming < 2 → differs incoming smallest largest ≡ false
too_few incoming smallest largest h = rw (lt-leb 2 incoming h)
