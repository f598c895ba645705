-- The edges linked from a node, and those out of the retained nodes, listed one by one. Assumes nothing.
use mathlib.Core.Bool.{Bool, true, false, not}
use mathlib.Core.List.{List, [], ◌∷◌, ◌++◌, flat_map, append_assoc, append-nil}
use mathlib.Core.Path.{◌≡◌, refl, sym, ap, ◌∙◌}
use Prim.Native.Nat.{ℕ, ◌+◌, ◌<◌, ◌≤◌}
use native.Mathlib.Numerals.{add-one}
use native.Mathlib.Omega.{arith}
use borrow.Author.Tests.{eq-eqb, ne_eqb}
use lib.Dec.{eqb}
use lib.ListN.{length, get_or, set, take, drop, length-append, take-append-drop}
use lib.Seq.{take-suc}
use Rattle.std.specs.Prelude.{Option, Some, None, is_some}
use Rattle.std.proofs.lemmas.List.{get_or_default}
use Rattle.rules.specs.Lists.{keep}
use Rattle.rules.proofs.Lists.{flat_append, flat-more, keep_append}
use Rattle.rules.proofs.Written.{from-none, from-twice, from-length}
use Rattle.graph.specs.Adjacency.{Rises, chain}
use Rattle.graph.specs.declared.chain.Chain.{Chain}
use Rattle.graph.specs.Chained.{chain_steps}
use Rattle.graph.proofs.Chains.{chain-step, chain-end, step-on, step-end}
use Rattle.projection.specs.Marking.{linked, through, firsts_by, Listable, RowWritten}
use Rattle.projection.proofs.Rows.{from_at}

-- Whether a chain of links has one edge: it goes on once, and then it ends

module _ (next : List ℕ) (up : Rises next) (s t : Chain) (same : s.next.now ≡ next) where
  pub linked-once : (u : Chain) (a b : Option ℕ) → is_some a ≡ true → chain_steps s a t → chain_steps t b u → (r : Bool) → is_some b ≡ not r → r ≡ eqb (length (chain next s.at)) 1
  linked-once u None b e f g r q = absurd (cc)
  linked-once u (Some e) b h f g r q = let k = step-on next s same e t f in go b g k.0 k.1 k.2 k.3 r q
    where
      go : (b : Option ℕ) → chain_steps t b u → e < length next → s.at ≡ e → t.next.now ≡ next → t.at ≡ get_or next e 0 → (r : Bool) → is_some b ≡ not r → r ≡ eqb (length (chain next s.at)) 1
      go None g h i j k true q = sym (eq-eqb (length (chain next s.at)) 1 (rw i (omega (arith, ap length (chain-step next up e h), ap length (chain-end next (get_or next e 0) (omega (arith, step-end next t j u g, k)))))))
      go None g h i j k false q = absurd (cc)
      go (Some d) g h i j k true q = absurd (cc)
      go (Some d) g h i j k false q = sym (ne_eqb (length (chain next s.at)) 1 (λ q.
          let l = step-on next t j d u g in
          omega (arith, q, ap (λ x. length (chain next x)) i, ap length (chain-step next up e h), ap length (chain-step next up (get_or next e 0) (omega (arith, l.0, l.1, k))))))

  pub linked-never : (a : Option ℕ) → is_some a ≡ false → chain_steps s a t → is_some a ≡ eqb (length (chain next s.at)) 1
  linked-never None e f = sym (ne_eqb (length (chain next s.at)) 1 (λ q. omega (arith, q, ap length (chain-end next s.at (step-end next s same t f)))))
  linked-never (Some d) e f = absurd (cc)

-- One chain is listed

-- the edges before e on the chain from first are written
pub record Listing (next : List ℕ) (start first : ℕ) (old new : List ℕ) (place e : ℕ) : Type 0 where
  pub part : List ℕ
  pub whole : part ++ chain next e ≡ chain next first
  pub row : RowWritten part start old new place

module _ (next : List ℕ) (up : Rises next) (start first : ℕ) (old : List ℕ) (room : start + length (chain next first) ≤ length old) where
  pub listing_none : Listing next start first old old start first
  listing_none = record { part = []; whole = refl; row = record { list = sym (from-none old start); place = omega arith } }

  module _ {new : List ℕ} {place e : ℕ} (g : Listing next start first old new place e) where
    sizes : length (chain next first) ≡ length g.part + length (chain next e)
    sizes = ap length (sym g.whole) ∙ length-append g.part (chain next e)

    pub listing-length : length new ≡ length old
    listing-length = ap length g.row.list ∙ from-length old g.part start (omega (arith, sizes))

    pub listing-end : length next ≤ e → RowWritten (chain next first) start old new place
    listing-end h = let q : g.part ≡ chain next first = sym (append-nil g.part) ∙ ap (λ l. g.part ++ l) (sym (chain-end next e h)) ∙ g.whole in rw (← q) g.row

    module _ (h : e < length next) where
      pub listing-in : place < length new
      listing-in = omega (arith, listing-length, sizes, ap length (chain-step next up e h), g.row.place)

      pub listing-more : Listing next start first old (set new place e) (place + 1) (get_or next e 0)
      listing-more = record {
        part = g.part ++ (e ∷ []);
        whole = append_assoc g.part (e ∷ []) (chain next (get_or next e 0)) ∙ ap (λ l. g.part ++ l) (sym (chain-step next up e h)) ∙ g.whole;
        row = record {
          list = rw g.row.list (from_at old g.part start place e g.row.place (omega (arith, listing-in, listing-length)));
          place = omega (arith, g.row.place, length-append g.part (e ∷ []));
        };
      }

-- The chains of the retained nodes are listed

module _ (head next marks order old : List ℕ) (L : Listable head next marks order old) where
  abbrev kept : ℕ → Bool
  kept v = not (through marks v)

  abbrev all : List ℕ → List ℕ
  all l = firsts_by (linked head next) marks l

  pub firsts-none : RowWritten (firsts_by (linked head next) marks (take 0 order)) 0 old old 0
  unfolding firsts_by flat_map keep
  firsts-none = record { list = sym (from-none old 0); place = refl }

  front_fits : (i : ℕ) → length (all (take i order)) ≤ length old
  unfolding firsts_by
  front_fits i = omega (
    arith,
    L.room,
    ap length (ap (λ l. flat_map (linked head next) (keep kept l)) (sym (take-append-drop i order)) ∙ ap (flat_map (linked head next)) (keep_append kept (take i order) (drop i order)) ∙ flat_append (linked head next) (keep kept (take i order)) (keep kept (drop i order))),
    length-append (flat_map (linked head next) (keep kept (take i order))) (flat_map (linked head next) (keep kept (drop i order))),
  )

  module _ (i : ℕ) (new : List ℕ) (count : ℕ) (w : RowWritten (firsts_by (linked head next) marks (take i order)) 0 old new count) where
    pub firsts-length : length new ≡ length old
    firsts-length = ap length w.list ∙ from-length old (all (take i order)) 0 (omega (arith, front_fits i))

    module _ (h : i < length order) where
      abbrev v : ℕ
      v = get_or order i 0

      one_more : all (take (i + 1) order) ≡ flat_map (linked head next) (keep kept (take i order) ++ keep kept (v ∷ []))
      unfolding firsts_by
      one_more = rw (add-one i, take-suc order i 0 h) (ap (flat_map (linked head next)) (keep_append kept (take i order) (v ∷ [])))

      mark-read : get_or marks v 1 ≡ get_or marks v 0
      mark-read = get_or_default marks v 1 0 (L.nodes i h)

      pub firsts_same : get_or marks v 0 ≡ 0 → RowWritten (firsts_by (linked head next) marks (take (i + 1) order)) 0 old new count
      unfolding firsts_by keep
      firsts_same z =
          let q : all (take (i + 1) order) ≡ all (take i order) = one_more ∙ rw (eq-eqb (get_or marks v 1) 0 (mark-read ∙ z)) (ap (flat_map (linked head next)) (append-nil (keep kept (take i order)))) in
          rw q w

      module _ (z : get_or marks v 0 ≡ 0 → ⊥) where
        with-chain : all (take (i + 1) order) ≡ all (take i order) ++ linked head next v
        unfolding firsts_by keep
        with-chain = one_more ∙ rw (ne_eqb (get_or marks v 1) 0 (λ q. z (sym mark-read ∙ q))) (flat-more (linked head next) (keep kept (take i order)) v)

        pub firsts_room : count + length (linked head next v) ≤ length new
        firsts_room = omega (arith, firsts-length, w.place, front_fits (i + 1), ap length with-chain, length-append (all (take i order)) (linked head next v))

        pub firsts_more : (new' : List ℕ) (count' : ℕ) → RowWritten (linked head next v) count new new' count' → RowWritten (firsts_by (linked head next) marks (take (i + 1) order)) 0 old new' count'
        firsts_more new' count' u = record {
          list = u.list ∙ rw (w.list, w.place, with-chain) (from-twice old (all (take i order)) (linked head next v) 0 (omega arith));
          place = u.place ∙ rw with-chain (omega (arith, w.place, length-append (all (take i order)) (linked head next v)));
        }
