-- The order in which depth-first visits leave the nodes: if a path leads to r through nodes that are listed no later than r, then r leads back to its start. Assumes nothing.
use mathlib.Core.List.Memᴰ
use mathlib.Core.List.{List, [], ◌∷◌, ◌++◌, Memᴰ}
use mathlib.Core.Logic.{◌⊎◌, inl, inr, ⊎_elim}
use mathlib.Core.Path.{◌≡◌, sym, subst}
use Prim.Native.Nat.{ℕ, ◌<◌}
use lib.ListN.{length, set}
use Rattle.graph.specs.Visits.{Dfs, done, skip, enter}
use Rattle.graph.proofs.Seen.{Seen, PathIn, last, on, start_of, path-map, Next, mark-seen, grows, us-seen, out-was, out-is, closed, sound}

-- x stands in the list, and r at the same place or later
pub data NoLater (x r : ℕ) : List ℕ → Type 0 where
  here : {y : ℕ} {ys : List ℕ} → x ≡ y → Memᴰ r (y ∷ ys) → NoLater x r (y ∷ ys)
  beyond : {y : ℕ} {ys : List ℕ} → NoLater x r ys → NoLater x r (y ∷ ys)

-- where the two stand in a list of two parts
data Parted (x r : ℕ) (a b : List ℕ) : Type 0 where
  early : NoLater x r a → Parted x r a b
  across : Memᴰ x a → Memᴰ r b → Parted x r a b
  late : NoLater x r b → Parted x r a b

module _ {x r : ℕ} where
  first-in : {l : List ℕ} → NoLater x r l → Memᴰ x l
  first-in (here e m) = Memᴰ.head e
  first-in (beyond h) = Memᴰ.tail (first-in h)

  last-in : {l : List ℕ} → NoLater x r l → Memᴰ r l
  last-in (here e m) = m
  last-in (beyond h) = Memᴰ.tail (last-in h)

  no-later-cons : {y : ℕ} {ys : List ℕ} → NoLater x r (y ∷ ys) → ((x ≡ y) × Memᴰ r (y ∷ ys)) ⊎ NoLater x r ys
  no-later-cons (here e m) = inl (e, m)
  no-later-cons (beyond h) = inr h

  parted-more : {y : ℕ} {ys b : List ℕ} → Parted x r ys b → Parted x r (y ∷ ys) b
  parted-more (early h) = early (beyond h)
  parted-more (across m n) = across (Memᴰ.tail m) n
  parted-more (late h) = late h

  parted : (a : List ℕ) {b : List ℕ} → NoLater x r (a ++ b) → Parted x r a b
  parted [] h = late h
  parted (y ∷ ys) h =
      ⊎_elim
      (λ t. ⊎_elim (λ m. early (here t.0 m)) (λ m. across (Memᴰ.head t.0) m) (Memᴰ.append_cases (y ∷ ys) t.1))
      (λ k. parted-more (parted ys k))
      (no-later-cons h)

  pub no-later-front : (a : List ℕ) {b : List ℕ} → Memᴰ x a → Memᴰ r b → NoLater x r (a ++ b)
  no-later-front [] m n = absurd (Memᴰ.not-nil m)
  no-later-front (y ∷ ys) m n = ⊎_elim (λ e. here e (Memᴰ.tail (Memᴰ.append_right ys n))) (λ m'. beyond (no-later-front ys m' n)) (Memᴰ.cases_cons m)

  pub no-later-append : (a : List ℕ) {b : List ℕ} → NoLater x r b → NoLater x r (a ++ b)
  no-later-append [] h = h
  no-later-append (y ∷ ys) h = beyond (no-later-append ys h)

abbrev pub Anywhere : ℕ → Type 0
Anywhere v = Unit {0}

module _ {next : ℕ → List ℕ} where
  -- one node entered: below is listed before it, out after it
  module _ (v₀ : ℕ) (s : List ℕ) {us s₁ s' below out : List ℕ} (l : v₀ < length s) (d₁ : Dfs next (next v₀) (set s v₀ 1) s₁ below) (d₂ : Dfs next us s₁ s' out) where
    not-twice : (r : ℕ) → Memᴰ r below → Memᴰ r (v₀ ∷ out) → ⊥
    not-twice r b m = ⊎_elim (λ e. mark-seen s v₀ l r e (out-was d₁ r b)) (λ o. out-is d₁ r b (out-was d₂ r o)) (Memᴰ.cases_cons m)

    not-self : (r : ℕ) → r ≡ v₀ → Memᴰ r out → ⊥
    not-self r e o = grows d₁ r (mark-seen s v₀ l r e) (out-was d₂ r o)

    -- r is below
    to_below : (r : ℕ) → Memᴰ r below → (y : ℕ) → NoLater y r (below ++ (v₀ ∷ out)) → NoLater y r below
    to_below r b y h = go (parted below h)
      where
        go : Parted y r below (v₀ ∷ out) → NoLater y r below
        go (early k) = k
        go (across m n) = absurd (not-twice r b n)
        go (late k) = absurd (not-twice r b (last-in k))

    -- r is the node
    from-node : (r x : ℕ) → r ≡ v₀ → NoLater x r (below ++ (v₀ ∷ out)) → PathIn (Next next) Anywhere v₀ x
    from-node r x e h = go (parted below h)
      where
        under : Memᴰ x below → PathIn (Next next) Anywhere v₀ x
        under m = let t = sound d₁ x m in on tt t.1 (path-map (λ k z. tt) t.2)

        go : Parted x r below (v₀ ∷ out) → PathIn (Next next) Anywhere v₀ x
        go (early k) = under (first-in k)
        go (across m n) = under m
        go (late k) = ⊎_elim (λ t. subst (λ j. PathIn (Next next) Anywhere v₀ j) (sym t.0) (last tt)) (λ k'. absurd (not-self r e (last-in k'))) (no-later-cons k)

    -- r is listed after: the path never meets what was seen by then
    module _ (r : ℕ) (o : Memᴰ r out) where
      never : {y : ℕ} → PathIn (Next next) (λ k. NoLater k r (below ++ (v₀ ∷ out))) y r → Seen s₁ y → ⊥
      never (last p) h = h (out-was d₂ r o)
      never (on {u = y} {v = z} p e q) h = never q (⊎_elim
          (λ b. closed d₁ y z b e)
          (λ t. ⊎_elim (λ same. us-seen d₁ z (subst (λ k. Memᴰ z (next k)) same e)) (λ m. absurd (h (out-was d₂ y m))) (Memᴰ.cases_cons t))
          (Memᴰ.append_cases below (first-in p)))

      later : (y : ℕ) → NoLater y r (below ++ (v₀ ∷ out)) → (Seen s₁ y → ⊥) → NoLater y r out
      later y h unmet = go (parted below h)
        where
          go : Parted y r below (v₀ ∷ out) → NoLater y r out
          go (early k) = absurd (unmet (out-is d₁ y (first-in k)))
          go (across m n) = absurd (unmet (out-is d₁ y m))
          go (late k) = ⊎_elim (λ t. absurd (unmet (grows d₁ y (mark-seen s v₀ l y t.0)))) (λ k'. k') (no-later-cons k)

      to-later : {y : ℕ} → PathIn (Next next) (λ k. NoLater k r (below ++ (v₀ ∷ out))) y r → PathIn (Next next) (λ k. NoLater k r out) y r
      to-later (last p) = last (later r p (λ h. h (out-was d₂ r o)))
      to-later (on {u = y} p e q) = on (later y p (λ h. never (on p e q) h)) e (to-later q)

  pub leads-back : {us s s' out : List ℕ} → Dfs next us s s' out → (r x : ℕ) → Memᴰ r out → PathIn (Next next) (λ k. NoLater k r out) x r → PathIn (Next next) Anywhere r x
  leads-back done r x m p = absurd (Memᴰ.not-nil m)
  leads-back (skip n d) r x m p = leads-back d r x m p
  leads-back (enter {v = v₀} {s = s} {below = below} l n d₁ d₂) r x m p =
      ⊎_elim
      (λ b. leads-back d₁ r x b (path-map (to_below v₀ s l d₁ d₂ r b) p))
      (λ t. ⊎_elim (λ e. subst (λ j. PathIn (Next next) Anywhere j x) (sym e) (from-node v₀ s l d₁ d₂ r x e (start_of p))) (λ o. leads-back d₂ r x o (to-later v₀ s l d₁ d₂ r o p)) (Memᴰ.cases_cons t))
      (Memᴰ.append_cases below m)
