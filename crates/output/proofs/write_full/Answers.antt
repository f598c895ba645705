-- What one write took goes behind what was taken before. Assumes nothing.
use Rattle.std.proofs.Common.{◌≡◌, ℕ, ◌-◌, List, [], ◌∷◌, ◌++◌, length, take, drop, sym, ap, ◌∙◌, append_assoc, take-append-drop}
use Rattle.std.proofs.lemmas.List.{take_rest}
use Rattle.std.proofs.lemmas.Fn.{FoldsTo-push}
use Rattle.std.proofs.KnownBytes.{Appends-trans}
use Rattle.output.proofs.write_full.Goals as goal

moves_front : (all front rest : List ℕ) (n : ℕ) → all ≡ front ++ rest → all ≡ (front ++ take n rest) ++ take (length rest - n) (drop n rest)
moves_front all front rest n e =
    e ∙ ap (λ l. front ++ l) (sym (take-append-drop n rest)) ∙ sym (append_assoc front (take n rest) (drop n rest)) ∙ ap (λ l. (front ++ take n rest) ++ l) (sym (take_rest rest n))

pub loop-rest-preserved : goal.loop-rest-preserved
loop-rest-preserved g c =
    let (front, split, appended) = c.loop-rest.invariant.0 in
    let (counts, took) = c.loop-rest.invariant.1 in
    let rest = c.loop-rest.rest.now in
    let n = c.in_ok-n.n in (
      (front ++ take n rest, moves_front _ front rest n split, Appends-trans _ _ _ _ _ appended c.in_ok-n.ensures.bytes),
      (counts ++ n ∷ [], FoldsTo-push _ _ _ _ _ _ took (c.in_ok-n.ensures.took, take_rest rest n)),
    )
