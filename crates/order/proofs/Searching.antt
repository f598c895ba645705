-- Among the ordered positions the first place whose key is not below has the first position of the key, if any has it. Assumes nothing.
use mathlib.Core.Bool.{Bool, true, false}
use mathlib.Core.List.{List}
use mathlib.Core.Path.{◌≡◌, refl, sym, ap, ◌∙◌}
use mathlib.Core.Logic.{⊎_elim}
use Prim.Native.Nat.{ℕ, ◌≤◌, ◌<◌}
use native.Mathlib.Omega.{arith}
use denote.Param.Members.{Mut}
use denote.Ref.{Bor}
use lib.Dec.{eqb, ltb}
use lib.ListN.{length, get_or}
use Rattle.std.specs.Prelude.{Some, None}
use Rattle.std.specs.Bool.{then_some}
use Rattle.std.specs.Fn.{Called, ComputesKey}
use Rattle.std.specs.List.Sorted.{IsNonDecreasingBy, IsPartitionedBy, IsPartitionPoint}
use Rattle.std.proofs.lemmas.Bool.{eqb-true, eqb-false, ltb-true, ltb-false}
use Rattle.std.proofs.lemmas.List.Sorted.{IsPartitionPoint-from_clause, IsPartitionedBy-ltb, IsNonDecreasingBy-from_default}
use Rattle.rules.specs.Ordered.{key_at, ordered}
use Rattle.rules.proofs.Sums.{order}
use Rattle.rules.proofs.Ordering.{ordered-length, ordered-rise, ordered-below, place_of, earlier-place, first→position, none→missing}
use Rattle.order.specs.Searched.{Searched}

-- the key at a place of a row of positions
abbrev pub key_of : List ℕ → List ℕ → ℕ → ℕ
key_of keys row k = key_at keys (get_or row k 0)

-- among the ordered positions, those before a place have keys below the one looked for, and those from it on don't
pub record SplitAt (keys row : List ℕ) (key place : ℕ) : Type 0 where
  pub inside : place ≤ length row
  pub below : row ≡ ordered keys → (k : ℕ) → k < place → key_of keys row k < key
  pub above : row ≡ ordered keys → (k : ℕ) → place ≤ k → k < length row → key ≤ key_of keys row k

module _ (keys row : List ℕ) (key : ℕ) where
  rise : row ≡ ordered keys → IsNonDecreasingBy (key_at keys) row
  rise e = IsNonDecreasingBy-from_default (key_at keys) row 0 (λ i j h b. rw e (ordered-rise keys i j h (omega (arith, ap length e, ordered-length keys))))

  pub split-point : {F : Type 0} {g : Mut F (Bor ℕ × Unit {0}) Bool} {f : F} (place : ℕ) → place ≤ length row
      → ((q : ℕ → Bool) → ComputesKey g q f → IsPartitionedBy q row → IsPartitionPoint (λ y. q y ≡ true) (λ y. q y ≡ false) row place)
      → ((a : Bor ℕ × Unit {0}) (r : Bool) (f' : F) → Called g f a r f' → (r ≡ ltb (key_at keys a.0.now) key) × (f' ≡ f))
      → SplitAt keys row key place
  split-point place h point calls = record {
    inside = h;
    below = λ e k b. ltb-true _ _ ((at e).0 k 0 (omega arith) b);
    above = λ e k b c. ltb-false _ _ ((at e).1 k 0 b c);
  }
    where
      at : row ≡ ordered keys → IsPartitionPoint (λ y. ltb (key_at keys y) key ≡ true) (λ y. ltb (key_at keys y) key ≡ false) row place
      at e = IsPartitionPoint-from_clause (λ y. ltb (key_at keys y) key) row place point (IsPartitionedBy-ltb (key_at keys) row key (rise e)) calls

  -- a position that has the key stands at a place
  row-place : row ≡ ordered keys → (q : ℕ) → q < length keys → key_at keys q ≡ key → (k : ℕ) × (k < length row) × (get_or row k 0 ≡ q) × (key_of keys row k ≡ key)
  row-place e q h t =
      let p = place_of keys q h in
      let same : get_or row p.0 0 ≡ q = ap (λ l. get_or l p.0 0) e ∙ p.2 in
      (p.0, omega (arith, p.1, ap length e, ordered-length keys), same, ap (key_at keys) same ∙ t)

  -- of two positions with one key, the smaller stands at the earlier place
  row-earlier : row ≡ ordered keys → (j k : ℕ) → j < length row → k < length row → key_of keys row j ≡ key_of keys row k → get_or row j 0 < get_or row k 0 → j < k
  row-earlier e j k = rw e (λ a b. earlier-place keys j k (omega (arith, ordered-length keys)) (omega (arith, ordered-length keys)))

  module _ (place : ℕ) (s : SplitAt keys row key place) where
    -- so where a place has the key, so has the first whose key is not below
    place-has : (e : row ≡ ordered keys) (k : ℕ) → k < length row → key_of keys row k ≡ key → (place < length row) × (key_of keys row place ≡ key)
    place-has e k h t =
        let g : place ≤ k = ⊎_elim (λ g. g) (λ g. absurd (omega (arith, s.below e k g))) (order place k) in
        let b : place < length row = omega arith in
        let up = rise e place k 0 g h in
        (b, omega (arith, s.above e place (omega arith) b))

    found : place < length row → get_or row place 0 < length keys → key_of keys row place ≡ key → Searched keys row key (Some (get_or row place 0))
    found h b t = record {
      has_key = λ p e. let same : get_or row place 0 ≡ p = cc in (omega arith, cc);
      first = λ e. sym (first→position keys key (get_or row place 0) (record { inside = b; has = t; none_earlier = earlier e }));
    }
      where
        earlier : row ≡ ordered keys → (q : ℕ) → q < get_or row place 0 → key_at keys q ≡ key → ⊥
        earlier e q g u =
            let r = row-place e q (omega arith) u in
            omega (arith, s.below e r.0 (row-earlier e r.0 place r.1 h (r.3 ∙ sym t) (omega (arith, r.2))), r.3)

    -- there is none where the place does not have the key
    pub searched-missing : (place < length row → get_or row place 0 < length keys → key_of keys row place ≡ key → ⊥) → Searched keys row key None
    searched-missing n = record {
      has_key = λ p e. cc;
      first = λ e. sym (none→missing keys key (none e));
    }
      where
        none : row ≡ ordered keys → (q : ℕ) → q < length keys → key_at keys q ≡ key → ⊥
        none e q h t =
            let r = row-place e q h t in
            let p = place-has e r.0 r.1 r.3 in
            let b : place < length keys = omega (arith, p.0, ap length e, ordered-length keys) in
            n p.0 (rw e (ordered-below keys place b)) p.1

    -- and where it has a key, the answer is by that
    pub searched-at : place < length row → get_or row place 0 < length keys → (x : ℕ) → x ≡ key_of keys row place → Searched keys row key (then_some (eqb x key) (get_or row place 0))
    searched-at h b x e = go (eqb x key) refl
      where
        go : (c : Bool) → eqb x key ≡ c → Searched keys row key (then_some c (get_or row place 0))
        go true t = found h b (sym e ∙ eqb-true x key t)
        go false t = searched-missing (λ h b k. eqb-false x key t (e ∙ k))
