-- What the tests of the lists' shapes say when all pass. Assumes nothing.
use mathlib.Core.Bool.{true}
use mathlib.Core.List.{List}
use mathlib.Core.Path.{◌≡◌, sym, ◌∙◌}
use Prim.Native.Nat.{ℕ, ◌≤◌}
use borrow.Author.Tests.{eqb-true, leb-true, eq-eqb, le-leb}
use lib.Dec.{leb, eqb}
use lib.ListN.{length}
use Rattle.rules.proofs.Lists.{both_true}
use Rattle.graph.specs.Adjacency.{Below}
use Rattle.graph.specs.Groups.{Between}
use Rattle.graph.specs.Fits.{ends_below}
use Rattle.graph.proofs.Fitting.{ends-all, ends-below}
use Rattle.reconvergence.specs.Fits.{given_fits, answers_fit, work_fits, reconvergence_fits}
use Rattle.reconvergence.specs.Pass.{Sized}

pub record GivenFit (sources sinks order : List ℕ) (n highs : ℕ) : Type 0 where
  pub edges : Between sources sinks n
  pub delays : highs ≡ n
  pub positions : Below n order

given-fit : (sources sinks order : List ℕ) (n highs : ℕ) → given_fits sources sinks order n highs ≡ true → GivenFit sources sinks order n highs
unfolding given_fits
given-fit sources sinks order n highs e =
    let d = both_true _ (ends_below n order) e in
    let c = both_true _ (ends_below n sinks) d.0 in
    let b = both_true _ (ends_below n sources) c.0 in
    let a = both_true (eqb (length sinks) (length sources)) (eqb highs n) b.0 in
    record {
      edges = record { pairs = eqb-true _ _ a.0; low = ends-below n sources b.1; high = ends-below n sinks c.1 };
      delays = eqb-true _ _ a.1;
      positions = ends-below n order d.1;
    }

pub record AnswersFit (n listed settled smallest largest unequal : ℕ) : Type 0 where
  pub marks : n ≤ settled
  pub smallests : n ≤ smallest
  pub largests : n ≤ largest
  pub room : listed ≤ unequal

answers-fit : (n listed settled smallest largest unequal : ℕ) → answers_fit n listed settled smallest largest unequal ≡ true → AnswersFit n listed settled smallest largest unequal
unfolding answers_fit
answers-fit n listed settled smallest largest unequal e =
    let c = both_true _ (leb listed unequal) e in
    let b = both_true _ (leb n largest) c.0 in
    let a = both_true (leb n settled) (leb n smallest) b.0 in
    record { marks = leb-true _ _ a.0; smallests = leb-true _ _ a.1; largests = leb-true _ _ b.1; room = leb-true _ _ c.1 }

pub record WorkFit (n m head next incoming left queue : ℕ) : Type 0 where
  pub heads : n ≤ head
  pub links : m ≤ next
  pub incomings : n ≤ incoming
  pub lefts : n ≤ left
  pub places : n ≤ queue

work-fit : (n m head next incoming left queue : ℕ) → work_fits n m head next incoming left queue ≡ true → WorkFit n m head next incoming left queue
unfolding work_fits
work-fit n m head next incoming left queue e =
    let d = both_true _ (leb n queue) e in
    let c = both_true _ (leb n left) d.0 in
    let b = both_true _ (leb n incoming) c.0 in
    let a = both_true (leb n head) (leb m next) b.0 in
    record { heads = leb-true _ _ a.0; links = leb-true _ _ a.1; incomings = leb-true _ _ b.1; lefts = leb-true _ _ c.1; places = leb-true _ _ d.1 }

pub record Fitted (sources sinks order : List ℕ) (n highs settled smallest largest unequal head next incoming left queue : ℕ) : Type 0 where
  pub given : GivenFit sources sinks order n highs
  pub answers : AnswersFit n (length order) settled smallest largest unequal
  pub work : WorkFit n (length sources) head next incoming left queue

pub fitted : (sources sinks order : List ℕ) (n highs settled smallest largest unequal head next incoming left queue : ℕ)
    → reconvergence_fits sources sinks order n highs settled smallest largest unequal head next incoming left queue ≡ true
    → Fitted sources sinks order n highs settled smallest largest unequal head next incoming left queue
unfolding reconvergence_fits
fitted sources sinks order n highs settled smallest largest unequal head next incoming left queue e =
    let b = both_true _ (work_fits n (length sources) head next incoming left queue) e in
    let a = both_true (given_fits sources sinks order n highs) (answers_fit n (length order) settled smallest largest unequal) b.0 in
    record { given = given-fit _ _ _ _ _ a.0; answers = answers-fit _ _ _ _ _ _ a.1; work = work-fit _ _ _ _ _ _ _ b.1 }

-- the last test decides once the others pass
pub work-last : (n m head next incoming left queue : ℕ) → n ≤ head → m ≤ next → n ≤ incoming → n ≤ left → leb n queue ≡ work_fits n m head next incoming left queue
unfolding work_fits
work-last n m head next incoming left queue a b c d = rw (le-leb n head a, le-leb m next b, le-leb n incoming c, le-leb n left d)

-- and the converse, for a caller whose lists fit
fits-given : {sources sinks order : List ℕ} {n highs : ℕ} → GivenFit sources sinks order n highs → given_fits sources sinks order n highs ≡ true
unfolding given_fits
fits-given {sources} {sinks} {order} {n} {highs} g =
    rw (
      eq-eqb (length sinks) (length sources) g.edges.pairs,
      eq-eqb highs n g.delays,
      ← ends-all n sources g.edges.low,
      ← ends-all n sinks g.edges.high,
      ← ends-all n order g.positions,
    )

fits-answers : {n listed settled smallest largest unequal : ℕ} → AnswersFit n listed settled smallest largest unequal → answers_fit n listed settled smallest largest unequal ≡ true
unfolding answers_fit
fits-answers a = rw (le-leb _ _ a.marks, le-leb _ _ a.smallests, le-leb _ _ a.largests, le-leb _ _ a.room)

fits_work : {n m head next incoming left queue : ℕ} → WorkFit n m head next incoming left queue → work_fits n m head next incoming left queue ≡ true
fits_work w = sym (work-last _ _ _ _ _ _ _ w.heads w.links w.incomings w.lefts) ∙ le-leb _ _ w.places

pub →fits : {sources sinks order : List ℕ} {n highs settled smallest largest unequal head next incoming left queue : ℕ} → Fitted sources sinks order n highs settled smallest largest unequal head next incoming left queue
    → reconvergence_fits sources sinks order n highs settled smallest largest unequal head next incoming left queue ≡ true
unfolding reconvergence_fits
→fits f = rw (fits-given f.given, fits-answers f.answers, fits_work f.work)

-- what the pass asks for
pub sized : {sources sinks low high order settled smallest largest unequal head next incoming left queue : List ℕ}
    → Fitted sources sinks order (length low) (length high) (length settled) (length smallest) (length largest) (length unequal) (length head) (length next) (length incoming) (length left) (length queue)
    → Sized sources sinks low high order settled smallest largest unequal head next incoming left queue
sized f = record {
  edges = f.given.edges;
  highs = f.given.delays;
  positions = f.given.positions;
  marks = f.answers.marks;
  room = f.answers.room;
  heads = f.work.heads;
  links = f.work.links;
  lent = record { incomings = f.work.incomings; lefts = f.work.lefts; smallests = f.answers.smallests; largests = f.answers.largests; places = f.work.places };
}
