-- One chain is walked, node by node. Assumes nothing.
use mathlib.Core.Bool.{Bool, true, false, not, beq, cond}
use mathlib.Core.List.Memᴰ
use mathlib.Core.List.{List, [], ◌∷◌, ◌++◌, map, map-append, append_assoc, Memᴰ}
use mathlib.Core.Path.{◌≡◌, refl, sym, ap, subst, ◌∙◌}
use Prim.Native.Nat.{ℕ, zero, suc, ◌+◌, ◌<◌, ◌≤◌}
use native.Mathlib.Omega.{arith}
use lib.Dec.{T, eqb, eqb→eq}
use lib.ListN.{length, get_or, set, length-append, length-map, length-set}
use Rattle.std.proofs.lemmas.List.{get_or_default}
use Rattle.rules.specs.Lists.{written_from}
use Rattle.rules.specs.Ordered.{key_at}
use Rattle.rules.specs.Positions.{id_at, Inside}
use Rattle.rules.specs.Delay.{add_range, zero_range}
use Rattle.rules.specs.Graph.{Edge, ◌⟶◌}
use Rattle.rules.specs.Paths.{delay_sum}
use Rattle.rules.specs.Projection.{chain, before_last, last_of, flips, projected_by, path_length}
use Rattle.rules.specs.declared.delay.DelayRange.{DelayRange}
use Rattle.rules.proofs.Lists.{eq_test}
use Rattle.rules.proofs.Indices.{at_mem}
use Rattle.rules.proofs.Written.{from-none, from-length}
use Rattle.laws.proofs.Chains.{before-appended, last-appended}
use Rattle.laws.proofs.PositionEdges.{edges_between-length, edges_between-at, edges_between-inside}
use Rattle.projection.specs.Entries.{inverts_from}
use Rattle.projection.specs.Marking.{through}
use Rattle.projection.specs.Walking.{Net, net_edges, edge_at, chain_of, entry_of, Walkable, FirstEdge, Walking}
use Rattle.projection.proofs.Rows.{sum_more, flips-more, chain-goes, chain-stops, chain-spent, from_at}
use Rattle.projection.proofs.NodeScenes.{through-ends}

-- at the node v, about to leave it along the edge e, with the nodes before it written
pub record Going (N : Net) (f start : ℕ) (old new : List ℕ) (v e end : ℕ) (delay : DelayRange) (inverted : Bool) : Type 0 where
  pub met : List ℕ
  pub left : ℕ
  pub whole : chain_of N (edge_at N f) ≡ met ++ (v ∷ chain left (net_edges N) (through N.marks) (get_or N.sinks e 0))
  pub steps : left + length met ≡ length N.sources
  pub node : v < length N.ids
  pub edge : e < length N.sources
  pub names : new ≡ written_from start old (map (id_at N.ids) met)
  pub place : end ≡ start + length met
  pub least : delay.minimum_redstone_ticks ≡ delay_sum (key_at N.low) met
  pub greatest : delay.maximum_redstone_ticks ≡ delay_sum (key_at N.high) met
  pub flipped : inverted ≡ flips (inverts_from N.inverts) met

-- the flag after a node
abbrev pub flipped_by : Bool → ℕ → Bool
flipped_by inverted inverts = not (beq inverted (not (eqb inverts 0)))

turned : (b f : Bool) → not (beq b f) ≡ cond f (not b) b
turned true true = refl
turned true false = refl
turned false true = refl
turned false false = refl

module _ {N : Net} {head : List ℕ} (W : Walkable N head) where
  abbrev es : List Edge
  es = net_edges N

  abbrev th : ℕ → Bool
  th = through N.marks

  pub edge_count : length (net_edges N) ≡ length N.sources
  edge_count = edges_between-length N.sources N.sinks (sym W.pairs)

  pub edges-inside : Inside (length N.ids) (net_edges N)
  edges-inside = edges_between-inside (length N.ids) N.sources N.sinks W.starts W.ends

  pub edge-listed : (e : ℕ) → e < length N.sources → Memᴰ (edge_at N e) (net_edges N)
  edge-listed e h = Memᴰ.cast (sym (edges_between-at N.sources N.sinks e (0 ⟶ 0) h (omega (arith, W.pairs)))) (at_mem (0 ⟶ 0) (net_edges N) e (omega (arith, edge_count)))

  pub sink-in : (e : ℕ) → e < length N.sources → get_or N.sinks e 0 < length N.ids
  sink-in e h = W.ends e (omega (arith, W.pairs))

  -- a mark that is read
  pub passes : (v : ℕ) → v < length N.ids → get_or N.marks v 0 ≡ 0 → T (through N.marks v)
  passes v h z = eq_test (get_or_default N.marks v 1 0 (omega (arith, W.marked)) ∙ z)

  pub stops : (v : ℕ) → v < length N.ids → (get_or N.marks v 0 ≡ 0 → ⊥) → T (through N.marks v) → ⊥
  stops v h z t = z (get_or_default N.marks v 0 1 (omega (arith, W.marked)) ∙ eqb→eq (get_or N.marks v 1) 0 t)

  module _ {f : ℕ} (F : FirstEdge N f) (start : ℕ) (old : List ℕ) (room : start + path_length (entry_of N (edge_at N f)) ≤ length old) where
    path-length : path_length (entry_of N (edge_at N f)) ≡ length (chain_of N (edge_at N f))
    unfolding entry_of projected_by
    path-length = length-map (chain_of N (edge_at N f)) (id_at N.ids)

    ends-kept : T (through N.marks (last_of (chain_of N (edge_at N f)))) → ⊥
    unfolding chain_of
    ends-kept = through-ends es (length N.ids) edges-inside th W.one_in W.one_out (edge_at N f) (edge-listed f F.listed) F.kept

    pub going_start : Going N f start old old (get_or N.sources f 0) f start zero_range false
    unfolding chain_of delay_sum flips
    going_start = record {
      met = [];
      left = length N.sources;
      whole = rw edge_count refl;
      steps = omega arith;
      node = W.starts f F.listed;
      edge = F.listed;
      names = sym (from-none old start);
      place = omega arith;
      least = refl;
      greatest = refl;
      flipped = refl;
    }

    module _ {new : List ℕ} {v e end : ℕ} {delay : DelayRange} {inverted : Bool} (g : Going N f start old new v e end delay inverted) where
      abbrev w : ℕ
      w = get_or N.sinks e 0

      abbrev before : List ℕ
      before = g.met ++ (v ∷ [])

      longer : length (chain_of N (edge_at N f)) ≡ length g.met + suc (length (chain g.left es th w))
      longer = ap length g.whole ∙ length-append g.met (v ∷ chain g.left es th w)

      pub kept-length : length new ≡ length old
      kept-length = ap length g.names ∙ from-length old (map (id_at N.ids) g.met) start (omega (arith, length-map g.met (id_at N.ids), longer, path-length))

      pub end-in : end < length new
      end-in = omega (arith, kept-length, longer, path-length, g.place)

      -- the node is written
      names_more : set new end (id_at N.ids v) ≡ written_from start old (map (id_at N.ids) before)
      names_more =
          rw (g.names, map-append (id_at N.ids) g.met (v ∷ []))
          (from_at old (map (id_at N.ids) g.met) start end (id_at N.ids v) (omega (arith, length-map g.met (id_at N.ids), g.place)) (omega (arith, kept-length, end-in)))

      place-more : end + 1 ≡ start + length before
      place-more = omega (arith, g.place, length-append g.met (v ∷ []))

      abbrev delay-more : DelayRange
      delay-more = add_range delay (record { minimum_redstone_ticks = key_at N.low v; maximum_redstone_ticks = key_at N.high v })

      least_more : delay-more.minimum_redstone_ticks ≡ delay_sum (key_at N.low) before
      least_more = rw g.least (sym (sum_more (key_at N.low) g.met v))

      greatest-more : delay-more.maximum_redstone_ticks ≡ delay_sum (key_at N.high) before
      greatest-more = rw g.greatest (sym (sum_more (key_at N.high) g.met v))

      flipped-more : flipped_by inverted (key_at N.inverts v) ≡ flips (inverts_from N.inverts) before
      flipped-more = rw (g.flipped, flips-more (inverts_from N.inverts) g.met v) (turned (flips (inverts_from N.inverts) g.met) (inverts_from N.inverts v))

      -- the chain if it stops at the next node
      whole-end : chain g.left es th w ≡ w ∷ [] → chain_of N (edge_at N f) ≡ before ++ (w ∷ [])
      whole-end q = g.whole ∙ ap (λ l. g.met ++ (v ∷ l)) q ∙ sym (append_assoc g.met (v ∷ []) (w ∷ []))

      -- on through a compressed node: there are steps left
      module _ (z : get_or N.marks w 0 ≡ 0) where
        goes : T (through N.marks w)
        goes = passes w (sink-in e g.edge) z

        more_left : (k : ℕ) → g.left ≡ k → Going N f start old (set new end (id_at N.ids v)) w (get_or head w 0) (end + 1) delay-more (flipped_by inverted (key_at N.inverts v))
        more_left zero q =
            absurd (ends-kept (subst (λ x. T (through N.marks x)) (sym (ap last_of (whole-end (ap (λ k. chain k es th w) q ∙ chain-spent es th w)) ∙ last-appended before w)) goes))
        more_left (suc k) q = record {
          met = before;
          left = k;
          whole = g.whole
              ∙ ap (λ l. g.met ++ (v ∷ l)) (ap (λ k. chain k es th w) q ∙ chain-goes es th k w goes ∙ ap (λ x. w ∷ chain k es th x) (sym (W.onward w goes).1))
              ∙ sym (append_assoc g.met (v ∷ []) (w ∷ chain k es th (get_or N.sinks (get_or head w 0) 0)));
          steps = omega (arith, q, g.steps, length-append g.met (v ∷ []));
          node = sink-in e g.edge;
          edge = (W.onward w goes).0;
          names = names_more;
          place = place-more;
          least = least_more;
          greatest = greatest-more;
          flipped = flipped-more;
        }

        pub going_more : Going N f start old (set new end (id_at N.ids v)) w (get_or head w 0) (end + 1) delay-more (flipped_by inverted (key_at N.inverts v))
        going_more = more_left g.left refl

      -- the end, at a retained one
      module _ (z : get_or N.marks w 0 ≡ 0 → ⊥) where
        ended : chain_of N (edge_at N f) ≡ before ++ (w ∷ [])
        ended = whole-end (chain-stops es th g.left w (stops w (sink-in e g.edge) z))

        pub last-place : end + 1 < length old
        last-place = omega (arith, place-more, ap length ended, length-append before (w ∷ []), path-length)

        pub last-in : end + 1 < length (set new end (id_at N.ids v))
        last-in = omega (arith, length-set new end (id_at N.ids v), kept-length, last-place)

        pub going_end : Walking N f start old (set (set new end (id_at N.ids v)) (end + 1) (id_at N.ids w)) (record { sink = w; end = end + 1 + 1; delay = delay-more; inverted = flipped_by inverted (key_at N.inverts v) })
        unfolding entry_of projected_by
        going_end = record {
          names = rw (ended, map-append (id_at N.ids) before (w ∷ []), names_more)
              (from_at old (map (id_at N.ids) before) start (end + 1) (id_at N.ids w) (omega (arith, length-map before (id_at N.ids), place-more)) last-place);
          place = omega (arith, path-length, place-more, ap length ended, length-append before (w ∷ []));
          inside = sink-in e g.edge;
          last = ap (id_at N.ids) (sym (ap last_of ended ∙ last-appended before w));
          least = least_more ∙ ap (delay_sum (key_at N.low)) (sym (ap before_last ended ∙ before-appended before w));
          greatest = greatest-more ∙ ap (delay_sum (key_at N.high)) (sym (ap before_last ended ∙ before-appended before w));
          flipped = ap (λ b. cond b 1 0) (flipped-more ∙ ap (flips (inverts_from N.inverts)) (sym (ap before_last ended ∙ before-appended before w)));
        }
