-- What one read gives goes behind what stands there.
use Rattle.std.proofs.Common.{◌≡◌, ℕ, ◌+◌, ◌-◌, ◌≤◌, List, [], ◌∷◌, ◌++◌, rules, arith, length, take, drop, slice_range, sym, ap, ◌∙◌, subst, le_refl, drop_at, length-take-le, length-drop, take_all, append-nil, drop_of_length-le}
use Rattle.std.proofs.lemmas.Slice.{take-put_mid_below}
use Rattle.std.proofs.lemmas.List.{drop-drop}
use Rattle.std.proofs.lemmas.Fn.{FoldsTo-push}
use Rattle.std.specs.Io.KnownBytes.{Consumes}
use Rattle.std.proofs.KnownBytes.{Consumes-trans}
use borrow.Rule.Slice.PartMut.{put_mid, mid_of, post_of}
use lib.Seq.{take-add, take-append-le}
use Rattle.input.proofs.read_by.Goals as goal

take_split : (a b : ℕ) (old new : List ℕ) → a ≤ b → take a new ≡ take a old → take a old ++ slice_range new a b ≡ take b new
take_split a b old new h front =
    let same : a + (b - a) ≡ b = omega arith in
    ap (λ l. l ++ slice_range new a b) (sym front) ∙ sym (take-add a (b - a) new) ∙ ap (λ n. take n new) same

slice_range-put_mid : (a k n : ℕ) (xs ys : List ℕ) → a ≤ length xs → n ≤ length ys → slice_range (put_mid a k xs ys) a (a + n) ≡ take n ys
slice_range-put_mid a k n xs ys within fits =
    let same : (a + n) - a ≡ n = omega arith in
    let after = post_of a k xs in
    ap (take ((a + n) - a)) (drop_at (take a xs) (ys ++ after) a (length-take-le a xs within)) ∙ ap (λ m. take m (ys ++ after)) same ∙ take-append-le n ys after fits

-- what stands behind what one read gave stays
behind-put_mid : (a k n : ℕ) (first xs ys : List ℕ) → a + k ≡ length xs → length ys ≡ k → n ≤ k → drop a xs ≡ drop a first → drop n ys ≡ drop n (mid_of a k xs) → drop (a + n) (put_mid a k xs ys) ≡ drop (a + n) first
behind-put_mid a k n first xs ys whole size fits kept behind =
    let after = post_of a k xs in
    let front : drop a (put_mid a k xs ys) ≡ ys ++ after = drop_at (take a xs) (ys ++ after) a (length-take-le a xs (omega arith)) in
    let none : after ≡ [] = drop_of_length-le (drop a xs) (omega (arith, length-drop a xs)) in
    let mid : mid_of a k xs ≡ drop a xs = take_all k (drop a xs) (omega (arith, length-drop a xs)) in
    sym (drop-drop n a (put_mid a k xs ys)) ∙ ap (drop n) (front ∙ ap (λ l. ys ++ l) none ∙ append-nil ys) ∙ behind ∙ ap (drop n) (mid ∙ kept) ∙ drop-drop n a first

pub loop-done-preserved : goal.loop-done-preserved
loop-done-preserved g c =
    let from = c.loop-done.done in
    let n = c.in_ok-n.n in
    let space = c.loop-done.space in
    let room = length space - from in
    let so_far = c.loop-done.invariant.1 in
    let given = c.loop-done.invariant.2 in
    let part = slice_range-put_mid from room n space c.read_front.new.space so_far.fits c.in_ok-n.ensures.bound.0 in
    let joined = take_split from (from + n) space (put_mid from room space c.read_front.new.space) (omega arith) (take-put_mid_below _ _ _ _ _ (le_refl _) so_far.fits) in (
      search rules,
      record {
        fits = search rules;
        bytes = subst (Consumes _ _) (ap (λ l. take from space ++ l) (sym part) ∙ joined) (Consumes-trans _ _ _ _ _ so_far.bytes c.in_ok-n.ensures.bytes.0);
        behind = behind-put_mid from room n _ space c.read_front.new.space (search rules) (search rules) (search rules) so_far.behind c.in_ok-n.ensures.behind;
      },
      (given.0 ++ n ∷ [], FoldsTo-push _ _ _ _ _ _ given.1 c.in_ok-n.ensures.gave),
    )
