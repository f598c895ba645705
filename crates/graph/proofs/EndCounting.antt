-- Ends are counted one by one. Assumes nothing.
use mathlib.Core.Bool.{true, cond}
use mathlib.Core.List.{List, [], ◌∷◌}
use mathlib.Core.Path.{◌≡◌, refl, sym, ap, ◌∙◌}
use Prim.Native.Nat.{ℕ, ◌+◌, ◌<◌, ◌≤◌}
use native.Mathlib.Decide.{ℕ_discrete}
use native.Mathlib.Numerals.{add-one}
use native.Mathlib.Omega.{arith}
use borrow.Author.Tests.{eq-eqb, ne_eqb}
use lib.Dec.{eqb}
use lib.ListN.{length, get_or, set, take, replicate, length-set, length-take}
use lib.Seq.{take-suc, take-length, get_or-set_same, get_or-set_other}
use Rattle.rules.specs.Lists.{count}
use Rattle.rules.proofs.Counts.{count-append, count_under, count-every}
use Rattle.graph.specs.EndCounts.{EndsCounted}
use Rattle.graph.proofs.Filled.{no-marks}

-- the ends before e are counted
pub record Counting (ends : List ℕ) (size : ℕ) (counts : List ℕ) (e : ℕ) : Type 0 where
  pub inside : e ≤ length ends
  pub kept : length counts ≡ size
  pub so_far : EndsCounted (take e ends) counts

module _ (ends : List ℕ) (size : ℕ) where
  pub counting-none : (counts : List ℕ) → length counts ≡ size → counts ≡ replicate size 0 → Counting ends size counts 0
  unfolding count
  counting-none counts k e = record { inside = omega arith; kept = k; so_far = λ v h. no-marks size e v }

  module _ (counts : List ℕ) (e : ℕ) (c : Counting ends size counts e) where
    pub counting-all : length ends ≤ e → EndsCounted ends counts
    counting-all h v i = let q : e ≡ length ends = omega (arith, c.inside) in c.so_far v i ∙ ap (count (λ x. eqb x v)) (ap (λ k. take k ends) q ∙ take-length ends)

    -- a count is no more than the ends counted
    pub counting-few : (v : ℕ) → v < length counts → get_or counts v 0 ≤ e
    counting-few v h =
        omega (arith, c.so_far v h, count_under (λ x. eqb x v) (λ x. true) (take e ends) (λ x m t. tt), count-every (take e ends), length-take e ends)

    more : (v : ℕ) → e < length ends → count (λ x. eqb x v) (take (e + 1) ends) ≡ count (λ x. eqb x v) (take e ends) + cond (eqb (get_or ends e 0) v) 1 0
    unfolding count
    more v h = rw (add-one e, take-suc ends e 0 h) (count-append (λ x. eqb x v) (take e ends) (get_or ends e 0 ∷ []))

    pub counting_more : e < length ends → get_or ends e 0 < size → Counting ends size (set counts (get_or ends e 0) (get_or counts (get_or ends e 0) 0 + 1)) (e + 1)
    counting_more h k = record {
      inside = omega arith;
      kept = length-set counts u (get_or counts u 0 + 1) ∙ c.kept;
      so_far = λ v i. sum v (omega (arith, length-set counts u (get_or counts u 0 + 1))) ∙ sym (more v h);
    }
      where
        u : ℕ
        u = get_or ends e 0

        sum : (v : ℕ) → v < length counts → get_or (set counts u (get_or counts u 0 + 1)) v 0 ≡ count (λ x. eqb x v) (take e ends) + cond (eqb u v) 1 0
        sum v i = go (ℕ_discrete v u)
          where
            go : Dec (v ≡ u) → get_or (set counts u (get_or counts u 0 + 1)) v 0 ≡ count (λ x. eqb x v) (take e ends) + cond (eqb u v) 1 0
            go (yes p) = rw (p, get_or-set_same counts u (get_or counts u 0 + 1) 0 (omega (arith, c.kept)), eq-eqb u u refl) (ap (λ k. k + 1) (c.so_far u (omega (arith, c.kept))))
            go (no p) = rw (get_or-set_other counts u v (get_or counts u 0 + 1) 0 p, ne_eqb u v (λ r. p (sym r))) (omega (arith, c.so_far v i))

    -- an end that is no node changes no count
    pub counting-skip : e < length ends → size ≤ get_or ends e 0 → Counting ends size counts (e + 1)
    counting-skip h k = record {
      inside = omega arith;
      kept = c.kept;
      so_far = λ v i. c.so_far v i ∙ sym (more v h ∙ rw (ne_eqb (get_or ends e 0) v (λ q. omega (arith, c.kept))) (omega arith));
    }
