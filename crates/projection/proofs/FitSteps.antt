-- What the tests of the lists' shapes say when all pass. Assumes nothing.
use mathlib.Core.Bool.{true}
use mathlib.Core.List.Memᴰ
use mathlib.Core.List.{List, [], ◌∷◌, map, Memᴰ}
use mathlib.Core.Path.{◌≡◌, refl, sym}
use mathlib.Core.Logic.{⊎_elim}
use Prim.Native.Nat.{ℕ, ◌*◌, ◌<◌}
use native.Mathlib.Omega.{arith}
use borrow.Author.Tests.{eqb-true, ltb-true, leb-true, le-leb, eq-eqb}
use lib.Dec.{eqb, leb, ltb}
use lib.ListN.{length}
use Rattle.std.specs.List.{list_all}
use Rattle.std.proofs.lemmas.List.Sums.{AllPass-from_list_all}
use Rattle.rules.specs.Lists.{Distinct}
use Rattle.rules.specs.Positions.{id_at}
use Rattle.rules.proofs.Lists.{both_true}
use Rattle.graph.specs.Fits.{ends_below}
use Rattle.graph.proofs.Fitting.{ends-all, ends-below}
pub use Rattle.projection.specs.Projecting.{Fitted}
use Rattle.projection.specs.Projecting.{NodeLists, ProjectedLists, WorkLists, rises, shapes_fit, projection_fits}

-- Ids that rise

rises-tail : (x : ℕ) (l : List ℕ) → rises (x ∷ l) ≡ true → rises l ≡ true
unfolding rises
rises-tail x [] e = refl
rises-tail x (y ∷ l) e = (both_true (ltb x y) (rises (y ∷ l)) e).1

rises-first : (x : ℕ) (l : List ℕ) → rises (x ∷ l) ≡ true → (y : ℕ) → Memᴰ y l → x < y
unfolding rises
rises-first x [] e y m = absurd (Memᴰ.not-nil m)
rises-first x (z ∷ l) e y m =
    let b = both_true (ltb x z) (rises (z ∷ l)) e in
    let h = ltb-true x z b.0 in
    ⊎_elim (λ q. omega (arith, q)) (λ k. let i = rises-first z l b.1 y k in omega arith) (Memᴰ.cases_cons m)

-- no entry stands twice in a row whose names rise
pub distinct-rising : (f : ℕ → ℕ) (l : List ℕ) → rises (map f l) ≡ true → Distinct l
distinct-rising f [] e = tt
distinct-rising f (x ∷ l) e = (λ m. let h = rises-first (f x) (map f l) e (f x) (Memᴰ.map f m) in omega arith, distinct-rising f l (rises-tail (f x) (map f l) e))

-- All tests

module _ (l : NodeLists) (marks : List ℕ) (c : ProjectedLists) (w : WorkLists) where
  abbrev n : ℕ
  n = length l.ids

  abbrev m : ℕ
  m = length l.sources

  abbrev per-node : List ℕ
  per-node = length l.low ∷ length l.high ∷ length l.inverts ∷ length l.compressible ∷ []

  abbrev node-room : List ℕ
  node-room = length marks ∷ length w.head ∷ length w.incoming ∷ []

  abbrev edge-room : List ℕ
  edge-room =
      length w.next ∷ length w.firsts ∷ length c.sources ∷ length c.sinks ∷ length c.inverted ∷ length c.minimums ∷ length c.maximums ∷ length c.starts ∷ length c.lengths ∷ []

  pub fitted : projection_fits l marks c w ≡ true → Fitted l marks c w
  unfolding shapes_fit
  fitted e =
      let i = both_true _ (rises (map (id_at l.ids) l.order)) e in
      let h = both_true _ (ends_below n l.order) i.0 in
      let g = both_true _ (ends_below n l.sinks) h.0 in
      let f = both_true _ (ends_below n l.sources) g.0 in
      let d = both_true _ (leb (2 * m) (length c.ids)) f.0 in
      let b = both_true _ (list_all (leb m) edge-room) d.0 in
      let a = both_true _ (list_all (leb n) node-room) b.0 in
      let p = both_true (eqb (length l.sinks) m) (list_all (λ k. eqb k n) per-node) a.0 in
      let per = AllPass-from_list_all (λ k. eqb k n) per-node p.1 in
      let nodes = AllPass-from_list_all (leb n) node-room a.1 in
      let edges = AllPass-from_list_all (leb m) edge-room b.1 in
      record {
        pairs = eqb-true _ _ p.0;
        lows = eqb-true _ _ (per 0 0 (omega arith));
        highs = eqb-true _ _ (per 1 0 (omega arith));
        flags = eqb-true _ _ (per 2 0 (omega arith));
        kinds = eqb-true _ _ (per 3 0 (omega arith));
        marked = leb-true _ _ (nodes 0 0 (omega arith));
        heads = leb-true _ _ (nodes 1 0 (omega arith));
        counts = leb-true _ _ (nodes 2 0 (omega arith));
        links = leb-true _ _ (edges 0 0 (omega arith));
        firsts = leb-true _ _ (edges 1 0 (omega arith));
        sources = leb-true _ _ (edges 2 0 (omega arith));
        sinks = leb-true _ _ (edges 3 0 (omega arith));
        inverted = leb-true _ _ (edges 4 0 (omega arith));
        minimums = leb-true _ _ (edges 5 0 (omega arith));
        maximums = leb-true _ _ (edges 6 0 (omega arith));
        starts = leb-true _ _ (edges 7 0 (omega arith));
        lengths = leb-true _ _ (edges 8 0 (omega arith));
        paths = leb-true _ _ d.1;
        sources_below = ends-below n l.sources f.1;
        sinks_below = ends-below n l.sinks g.1;
        order_below = ends-below n l.order h.1;
        rising = i.1;
      }

  -- and the converse
  pub fitting : Fitted l marks c w → projection_fits l marks c w ≡ true
  unfolding shapes_fit
  fitting f = simp (
    eq-eqb _ _ f.pairs,
    eq-eqb _ _ f.lows,
    eq-eqb _ _ f.highs,
    eq-eqb _ _ f.flags,
    eq-eqb _ _ f.kinds,
    le-leb _ _ f.marked,
    le-leb _ _ f.heads,
    le-leb _ _ f.counts,
    le-leb _ _ f.links,
    le-leb _ _ f.firsts,
    le-leb _ _ f.sources,
    le-leb _ _ f.sinks,
    le-leb _ _ f.inverted,
    le-leb _ _ f.minimums,
    le-leb _ _ f.maximums,
    le-leb _ _ f.starts,
    le-leb _ _ f.lengths,
    le-leb _ _ f.paths,
    sym (ends-all _ _ f.sources_below),
    sym (ends-all _ _ f.sinks_below),
    sym (ends-all _ _ f.order_below),
    f.rising,
  ) refl
