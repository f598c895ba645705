-- Nodes as the components of a scene: what the laws say of its chains holds of chains through the nodes. Assumes nothing.
use mathlib.Core.Bool.{Bool, true, false, not, cond, ◌&&◌}
use mathlib.Core.List.Memᴰ
use mathlib.Core.List.{List, ◌∷◌, map, map-map, map-id, flat_map, Memᴰ}
use mathlib.Core.Path.{◌≡◌, refl, sym, ap, subst, ◌∙◌, fun_ext}
use Prim.Native.Nat.{ℕ, ◌+◌, ◌*◌, ◌≤◌, ◌<◌}
use native.Mathlib.Decide.{dec_lt}
use native.Mathlib.Omega.{arith}
use lib.Dec.{T, T_not, eqb, eqb→eq}
use lib.IntN.{pos}
use lib.ListN.{length}
use Rattle.rules.specs.Lists.{keep, indices, Distinct}
use Rattle.rules.specs.Kinds.{kind_row}
use Rattle.rules.specs.Scene.{Component, id_of, row_of, row_at}
use Rattle.rules.specs.Graph.{Edge, source_of, sink_of, starts_at, ends_at, in_count, out_count}
use Rattle.rules.specs.Positions.{Inside}
use Rattle.rules.specs.Projection.{compressible_kind, compressed, chain, chain_from, last_of}
use Rattle.rules.proofs.Lists.{and_left, and_both, same_test, eq_test, keep_out}
use Rattle.rules.proofs.Indices.{from-distinct, below-indices}
use Rattle.rules.proofs.Counts.{count_none, distinct-keep}
use Rattle.rules.proofs.Scenes.{DistinctIds, row-at}
use Rattle.rules.proofs.Acceptance.{distinct→ids}
use Rattle.laws.proofs.Chains.{inner, compressed-in, chain-ends}
use Rattle.laws.proofs.Projection.{edges-enough, paths-length}

module _ (es : List Edge) (n : ℕ) (inside : Inside n es) (through : ℕ → Bool) (one_in : (v : ℕ) → T (through v) → in_count es v ≡ 1) (one_out : (v : ℕ) → T (through v) → out_count es v ≡ 1) where
  -- a node that chains go through is a wire, another a lever
  component : ℕ → Component
  component v = record { id = v; kind = cond (through v) 8 3; delay = 256; locked = 0; x = pos 0; y = pos 0; z = pos 0 }

  nodes : List Component
  nodes = map component (indices n)

  ids-once : DistinctIds nodes
  unfolding nodes component indices
  ids-once = distinct→ids nodes (rw (map-map id_of component (indices n), map-id (indices n)) (from-distinct 0 n))

  node-kind : (v : ℕ) → v < n → compressible_kind (row_at nodes v).node ≡ through v
  unfolding nodes component row_of kind_row
  node-kind v h = ap (λ r. compressible_kind r.node) (row-at nodes ids-once (component v) (Memᴰ.map component (below-indices n h))) ∙ kind (through v)
    where
      kind : (b : Bool) → compressible_kind (kind_row (cond b 8 3)).node ≡ b
      kind true = refl
      kind false = refl

  -- what an edge enters is a node
  entered : (v : ℕ) → in_count es v ≡ 1 → v < n
  unfolding in_count
  entered v e = go (dec_lt v n)
    where
      go : Dec (v < n) → v < n
      go (yes h) = h
      go (no h) = absurd (omega (arith, h, e, count_none (ends_at v) es (λ f m t. omega (arith, h, (inside f m).1, eqb→eq (sink_of f) v t))))

  same : compressed nodes es ≡ through
  unfolding compressed
  same = fun_ext (λ v. same_test (compressed nodes es v) (through v)
      (λ t. subst T (node-kind v (entered v (compressed-in nodes es v t))) (and_left (compressible_kind (row_at nodes v).node) (eqb (in_count es v) 1 && eqb (out_count es v) 1) t))
      (λ t. and_both (compressible_kind (row_at nodes v).node) (eqb (in_count es v) 1 && eqb (out_count es v) 1) (subst T (sym (node-kind v (entered v (one_in v t)))) t)
      (and_both (eqb (in_count es v) 1) (eqb (out_count es v) 1) (eq_test (one_in v t)) (eq_test (one_out v t)))))

  -- the last node of a chain from a retained one is retained
  pub through-ends : (e : Edge) → Memᴰ e es → (T (through (source_of e)) → ⊥) → T (through (last_of (source_of e ∷ chain (length es) es through (sink_of e)))) → ⊥
  unfolding chain_from
  through-ends = subst (λ t. (e : Edge) → Memᴰ e es → (T (t (source_of e)) → ⊥) → T (t (last_of (source_of e ∷ chain (length es) es t (sink_of e)))) → ⊥) same (chain-ends nodes es)

  -- The paths from the retained nodes among distinct ones have two ids for each edge at most

  module _ (order : List ℕ) (distinct : Distinct order) where
    abbrev kept : List ℕ
    kept = keep (λ v. not (through v)) order

    abbrev firsts : List Edge
    firsts = flat_map (λ v. keep (starts_at v) es) kept

    enough : length firsts + length (flat_map (inner nodes es) firsts) ≤ length es
    enough = edges-enough nodes es kept (distinct-keep (λ v. not (through v)) order distinct) (λ v m t. T_not (through v) (keep_out (λ v. not (through v)) order m).1 (subst (λ f. T (f v)) same t))

    pub firsts-few : length (flat_map (λ v. keep (starts_at v) es) (keep (λ v. not (through v)) order)) ≤ length es
    firsts-few = omega (arith, enough)

    pub paths-short : length (flat_map (λ e. source_of e ∷ chain (length es) es through (sink_of e)) (flat_map (λ v. keep (starts_at v) es) (keep (λ v. not (through v)) order))) ≤ 2 * length es
    unfolding chain_from
    paths-short = omega (arith, enough, subst (λ t. length (flat_map (λ e. source_of e ∷ chain (length es) es t (sink_of e)) firsts) ≡ 2 * length firsts + length (flat_map (inner nodes es) firsts)) same (paths-length nodes es firsts))
