-- `link_edges` puts each edge in front of its source's chain. Assumes nothing.
use mathlib.Core.Path.{◌≡◌, refl, ap, subst, sym, ◌∙◌}
use mathlib.Core.List.{List, [], ◌∷◌, ◌++◌}
use lib.ListN.{get_or}
use Rattle.std.proofs.Common.{length}
use Rattle.std.proofs.lemmas.List.{append-nil, append_assoc, length-append, length_push}
use Rattle.std.proofs.Math.Seq.{drop-length, drop-append_seam, get_or-append_seam}
use Rattle.std.specs.Iterator.Adapters.{enumerate_source, rev_source}
use Rattle.std.specs.Prelude.{drop}
use Rattle.std.specs.Slice.Iter.{iter_rest}
use Prim.Native.Nat.{ℕ, suc, ◌+◌, ◌<◌}
use native.Mathlib.Omega.{arith}
use Rattle.graph.proofs.Chains.{LinkedFrom, linked-none, linked-more, linked-whole}
use Rattle.graph.proofs.adjacency.link_edges.Goals as goal

-- the last of those in front
last-of : (sources front next : List ℕ) (s : ℕ) → front ≡ next ++ s ∷ [] → front ++ drop (length front) sources ≡ sources
    → (next ++ drop (length next) sources ≡ sources) × (get_or sources (length next) 0 ≡ s) × (length next < length sources) × (length front ≡ suc (length next))
last-of sources front next s last split =
    let back : List ℕ = drop (length front) sources in
    let whole : next ++ s ∷ back ≡ sources = sym (append_assoc next (s ∷ []) back) ∙ rw (← last) split in
    let long : length next + suc (length back) ≡ length sources = sym (length-append next (s ∷ back)) ∙ ap (λ l. length l) whole in (
      subst (λ l. next ++ drop (length next) l ≡ l) whole (rw (drop-append_seam next (s ∷ back)) refl),
      subst (λ l. get_or l (length next) 0 ≡ s) whole (get_or-append_seam next s back 0),
      omega (arith, long),
      ap (λ l. length l) last ∙ omega (arith, length_push next s),
    )

pub loop-e-init : goal.loop-e-init
loop-e-init c =
    rw (c.into_iter-e-iterator.ensures.into_iter_gives, c.rev-e-items.ensures.source, c.enumerate.ensures.source, c.enumerate.ensures.count, c.iter.ensures.rest)
    (refl, rw (drop-length c.args.sources.now) (append-nil c.args.sources.now), linked-none _ _ _ c.requires.0 c.requires.2)

pub loop-e-preserved : goal.loop-e-preserved
loop-e-preserved c =
    let s = c.in-Some.ensures.steps in
    let y = c.loop-e.invariant in
    let z = last-of _ _ _ _ s.1.0 y.1 in
    let place : c.in-Some.e ≡ length (iter_rest (enumerate_source (rev_source c.next.new.self))) = omega (arith, s.1.1, y.0) in
    (s.0 ∙ y.0, z.0, rw place (linked-more _ _ _ _ _ z.1 z.2 (c.loop-e.auto.next ∙ c.requires.0) (omega (arith, z.1, c.requires.1 _ z.2)) (subst (λ k. LinkedFrom k c.args.sources.now c.loop-e.head c.loop-e.next) z.3 y.2)))

pub returns : goal.returns
returns c =
    let s = c.in-None.ensures.steps in
    let y = c.loop-e.invariant in
    linked-whole _ _ _ (c.loop-e.auto.next ∙ c.requires.0) (subst (λ k. LinkedFrom k c.args.sources.now c.loop-e.head c.loop-e.next) s.1.0 y.2)
