-- The lengths after the first are held against it, in order. Assumes nothing.
use Rattle.std.proofs.Common.{rules, tests, ◌∙◌, ℕ, Bool, not, nat_eq, get_or, drop}
use Rattle.std.proofs.lemmas.List.{take_rest}
use Rattle.std.proofs.lemmas.Iterator.{YieldsList-from_slice}
use Rattle.std.proofs.lemmas.Iterator.Search.{any_from_yields_List}
use Rattle.lengths.proofs.Iterated.{differ_from_any}
use Rattle.lengths.proofs.lengths_differ.Goals as goal

pub returns-in-len1-up : goal.returns-in-len1-up
returns-in-len1-up c =
    let l = c.args.lengths.now in
    let test : ℕ → Bool = λ n. not (nat_eq n (get_or l 0 0)) in
    any_from_yields_List test _ _ _ c.any.ensures.ran (YieldsList-from_slice (drop 1 l) (c.iter.ensures.rest ∙ take_rest l 1)) (λ x b q k. search (rules, tests)) ∙ differ_from_any l c.in-len1-up.len_at_least
