-- Nodes under other names, no two the same: chains, first edges and projected edges. Assumes nothing.
use mathlib.Core.Bool.{Bool, true, false, not, cond}
use mathlib.Core.List.Memᴰ
use mathlib.Core.List.{List, [], ◌∷◌, map, map-map, flat_map, Memᴰ}
use mathlib.Core.Path.{◌≡◌, refl, sym, ap, subst, ◌∙◌}
use mathlib.Core.Logic.{⊎_elim}
use Prim.Native.Nat.{ℕ, zero, suc, ◌<◌}
use lib.ListN.{length, get_or, length-map, get_or-map}
use Rattle.rules.specs.Lists.{keep}
use Rattle.rules.specs.Graph.{Edge, source_of, sink_of, starts_at}
use Rattle.rules.specs.Scene.{Component, rising_ids, delay_at}
use Rattle.rules.specs.Projection.{compressed, retained, first_edges, next, chain, chain_from, before_last, last_of, flips, inverts_at, ProjectedEdge, projected_by, projected_along, projected}
use Rattle.rules.proofs.Lists.{keep_out, keep_same, keep-map, map_same, flat_out, flat-mapped}
use Rattle.laws.proofs.Renaming.{same-named, sum-named}
use Rattle.rules.specs.Positions.{named_entry, named, Inside}

before-map : (f : ℕ → ℕ) (l : List ℕ) → before_last (map f l) ≡ map f (before_last l)
unfolding before_last
before-map f [] = refl
before-map f (x ∷ []) = refl
before-map f (x ∷ y ∷ l) = ap (λ r. f x ∷ r) (before-map f (y ∷ l))

last-map : (f : ℕ → ℕ) (x : ℕ) (l : List ℕ) → last_of (map f (x ∷ l)) ≡ f (last_of (x ∷ l))
unfolding last_of
last-map f x [] = refl
last-map f x (y ∷ l) = last-map f y l

before-listed : (l : List ℕ) (x : ℕ) → Memᴰ x (before_last l) → Memᴰ x l
unfolding before_last
before-listed [] x m = m
before-listed (y ∷ []) x m = absurd (Memᴰ.not-nil m)
before-listed (y ∷ z ∷ l) x m = ⊎_elim Memᴰ.head (λ k. Memᴰ.tail (before-listed (z ∷ l) x k)) (Memᴰ.cases_cons m)

first_below : (l : List ℕ) (n d : ℕ) → d < n → ((x : ℕ) → Memᴰ x l → x < n) → get_or l 0 d < n
first_below [] n d h below = h
first_below (x ∷ l) n d h below = below x (Memᴰ.head refl)

module _ (name : ℕ → ℕ) (n : ℕ) (injective : (i j : ℕ) → i < n → j < n → name i ≡ name j → i ≡ j) where
  flips-named : (f f' : ℕ → Bool) → ((i : ℕ) → i < n → f (name i) ≡ f' i) → (p : List ℕ) → ((x : ℕ) → Memᴰ x p → x < n) → flips f (map name p) ≡ flips f' p
  unfolding flips
  flips-named f f' same [] below = refl
  flips-named f f' same (v ∷ p) below =
      let ih = flips-named f f' same p (λ x m. below x (Memᴰ.tail m)) in
      rw (same v (below v (Memᴰ.head refl)), ih)

  projected-by-named : (d d' : ℕ → ℕ) (f f' : ℕ → Bool) → ((i : ℕ) → i < n → d (name i) ≡ d' i) → ((i : ℕ) → i < n → f (name i) ≡ f' i) → (e : Edge) (x : ℕ) (p : List ℕ) → ((y : ℕ) → Memᴰ y (x ∷ p) → y < n)
      → projected_by d d f (named name e) (map name (x ∷ p)) ≡ named_entry name (projected_by d' d' f' e (x ∷ p))
  unfolding projected_by
  projected-by-named d d' f f' delays flipped e x p below =
      let inner : (y : ℕ) → Memᴰ y (before_last (x ∷ p)) → y < n = λ y m. below y (before-listed (x ∷ p) y m) in
      cc (last-map name x p, before-map name (x ∷ p), flips-named f f' flipped (before_last (x ∷ p)) inner, sum-named name n injective d d' delays (before_last (x ∷ p)) inner)

  module _ (es : List Edge) (inside : Inside n es) where
    -- the edges out of a node
    starts-named : (v : ℕ) → v < n → keep (starts_at (name v)) (map (named name) es) ≡ map (named name) (keep (starts_at v) es)
    starts-named v h = keep-map (starts_at (name v)) (named name) es ∙ ap (map (named name)) (keep_same _ (starts_at v) es (λ e m. same-named name n injective (source_of e) v (inside e m).0 h))

    pub next-below : (v : ℕ) → v < n → next es v < n
    unfolding next
    next-below v h = first_below (map sink_of (keep (starts_at v) es)) n v h (λ x m.
        let r = Memᴰ.of_map sink_of (keep (starts_at v) es) m in
        subst (λ y. y < n) r.2 (inside r.0 (keep_out (starts_at v) es r.1).0).1)

    pub next-named : (v : ℕ) → v < n → next (map (named name) es) (name v) ≡ name (next es v)
    unfolding next
    next-named v h =
        ap (λ l. get_or l 0 (name v)) (ap (map sink_of) (starts-named v h) ∙ map-map sink_of (named name) (keep (starts_at v) es) ∙ sym (map-map name sink_of (keep (starts_at v) es)))
        ∙ get_or-map name (map sink_of (keep (starts_at v) es)) 0 v

    chain-below : (through : ℕ → Bool) (k v : ℕ) → v < n → (x : ℕ) → Memᴰ x (chain k es through v) → x < n
    unfolding chain
    chain-below through zero v h x m = subst (λ y. y < n) (sym (Memᴰ.eq_of_singleton m)) h
    chain-below through (suc k) v h x m = go (through v) (chain-below through k (next es v) (next-below v h) x) m
      where
        go : (b : Bool) → (Memᴰ x (chain k es through (next es v)) → x < n) → Memᴰ x (cond b (v ∷ chain k es through (next es v)) (v ∷ [])) → x < n
        go true ih m = ⊎_elim (λ e. subst (λ y. y < n) (sym e) h) ih (Memᴰ.cases_cons m)
        go false ih m = subst (λ y. y < n) (sym (Memᴰ.eq_of_singleton m)) h

    module _ (test through : ℕ → Bool) (same : (v : ℕ) → v < n → test (name v) ≡ through v) where
      pub chain-named : (k v : ℕ) → v < n → chain k (map (named name) es) test (name v) ≡ map name (chain k es through v)
      unfolding chain
      chain-named zero v h = refl
      chain-named (suc k) v h = rw (same v h) (go (through v) (ap (chain k (map (named name) es) test) (next-named v h) ∙ chain-named k (next es v) (next-below v h)))
        where
          go : (b : Bool) → chain k (map (named name) es) test (next (map (named name) es) (name v)) ≡ map name (chain k es through (next es v))
              → cond b (name v ∷ chain k (map (named name) es) test (next (map (named name) es) (name v))) (name v ∷ []) ≡ map name (cond b (v ∷ chain k es through (next es v)) (v ∷ []))
          go true e = ap (λ r. name v ∷ r) e
          go false e = refl

    -- the whole projection: `ranked` has the nodes by rising name, `through` says which are compressed
    module _ (cs : List Component) (d : ℕ → ℕ) (inverts through : ℕ → Bool) (ranked : List ℕ)
        (delays : (i : ℕ) → i < n → delay_at cs (name i) ≡ d i) (inverted : (i : ℕ) → i < n → inverts_at cs (name i) ≡ inverts i)
        (passes : (i : ℕ) → i < n → compressed cs (map (named name) es) (name i) ≡ through i) (rises : rising_ids cs ≡ map name ranked) (below : (i : ℕ) → Memᴰ i ranked → i < n) where
      abbrev kept : List ℕ
      kept = keep (λ v. not (through v)) ranked

      abbrev firsts : List Edge
      firsts = flat_map (λ v. keep (starts_at v) es) kept

      abbrev along : Edge → ProjectedEdge
      along e = projected_by d d inverts e (source_of e ∷ chain (length es) es through (sink_of e))

      pub retained-named : retained cs (map (named name) es) ≡ map name (keep (λ v. not (through v)) ranked)
      unfolding retained
      retained-named =
          ap (keep (λ v. not (compressed cs (map (named name) es) v))) rises ∙ keep-map (λ v. not (compressed cs (map (named name) es) v)) name ranked
          ∙ ap (map name) (keep_same _ (λ v. not (through v)) ranked (λ v m. ap not (passes v (below v m))))

      pub first-edges-named : first_edges cs (map (named name) es) ≡ map (named name) (flat_map (λ v. keep (starts_at v) es) (keep (λ v. not (through v)) ranked))
      unfolding first_edges
      first-edges-named =
          ap (flat_map (λ v. keep (starts_at v) (map (named name) es))) retained-named
          ∙ flat-mapped _ name (named name) (λ v. keep (starts_at v) es) kept (λ v m. starts-named v (below v (keep_out (λ v. not (through v)) ranked m).0))

      chain-from-named : (e : Edge) → Memᴰ e es → chain_from cs (map (named name) es) (named name e) ≡ map name (source_of e ∷ chain (length es) es through (sink_of e))
      unfolding chain_from
      chain-from-named e m =
          ap (λ r. name (source_of e) ∷ r) (ap (λ k. chain k (map (named name) es) (compressed cs (map (named name) es)) (name (sink_of e))) (length-map es (named name))
          ∙ chain-named (compressed cs (map (named name) es)) through passes (length es) (sink_of e) (inside e m).1)

      along-named : (e : Edge) → Memᴰ e es → projected_along cs (map (named name) es) (named name e) ≡ named_entry name (along e)
      unfolding projected_along
      along-named e m =
          ap (projected_by (delay_at cs) (delay_at cs) (inverts_at cs) (named name e)) (chain-from-named e m)
          ∙ projected-by-named (delay_at cs) d (inverts_at cs) inverts delays inverted e (source_of e) (chain (length es) es through (sink_of e)) (λ y k.
          ⊎_elim (λ q. subst (λ z. z < n) (sym q) (inside e m).0) (chain-below through (length es) (sink_of e) (inside e m).1 y) (Memᴰ.cases_cons k))

      pub projected-named : projected cs (map (named name) es)
          ≡ map (named_entry name) (map (λ e. projected_by d d inverts e (source_of e ∷ chain (length es) es through (sink_of e))) (flat_map (λ v. keep (starts_at v) es) (keep (λ v. not (through v)) ranked)))
      unfolding projected
      projected-named =
          ap (map (projected_along cs (map (named name) es))) first-edges-named ∙ map-map (projected_along cs (map (named name) es)) (named name) firsts
          ∙ map_same _ (λ e. named_entry name (along e)) firsts (λ e m. let r = flat_out (λ v. keep (starts_at v) es) kept m in along-named e (keep_out (starts_at r.0) es r.2).0)
          ∙ sym (map-map (named_entry name) along firsts)
