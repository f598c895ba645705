-- The lists fit: what is lent on to the passes, and what they leave. Assumes nothing.
use mathlib.Core.Bool.{Bool, not}
use mathlib.Core.List.{List, [], ◌∷◌, ◌++◌, map, map-map, flat_map, Memᴰ}
use mathlib.Core.Path.{◌≡◌, refl, sym, ap, subst, ◌∙◌}
use Prim.Native.Nat.{ℕ, ◌*◌, ◌≤◌}
use native.Mathlib.Omega.{arith}
use lib.Dec.{T, T_not}
use lib.ListN.{length, take, drop, length-append, length-map}
use lib.Seq.{length-take-le}
use Rattle.rules.specs.Lists.{keep, written, Distinct}
use Rattle.rules.specs.Ordered.{key_at}
use Rattle.rules.specs.Positions.{named_entry, id_at}
use Rattle.rules.specs.Graph.{Edge, source_of, sink_of, starts_at, in_count, out_count}
use Rattle.rules.specs.Projection.{ProjectedEdge, chain, projected_by, path_ids}
use Rattle.rules.proofs.Lists.{keep_out, flat_out}
use Rattle.rules.proofs.Written.{written-parts, written-front, from-length}
use Rattle.graph.specs.Adjacency.{leaving}
use Rattle.projection.specs.Entries.{node_marks, inverts_from, projected_entries}
use Rattle.projection.specs.Projecting.{NodeLists, ProjectedLists, WorkLists, edges_of, entries_of, Fitted, Projecting}
use Rattle.projection.specs.Marking.{through, firsts_by, Retainable, Retaining}
use Rattle.projection.specs.Walking.{Net, net, net_edges, edge_at, chain_of, entry_of, entries_from, Walkable, FirstEdge, Fillable, Filled}
use Rattle.projection.proofs.NodeScenes.{firsts-few, paths-short}
use Rattle.projection.proofs.FitSteps.{distinct-rising}
use Rattle.projection.proofs.WalkSteps.{edge_count, edges-inside}
use Rattle.projection.proofs.EdgeLists.{leaving-rows, leaving-out, next-linked}
use Rattle.projection.proofs.RetainSteps.{marks-length, through_same, through-inside, through-in, through-out}

-- how many ids the paths of some first edges have
ids-length : (N : Net) (fs : List ℕ) → length (path_ids (entries_from N fs))
    ≡ length (flat_map (λ e. source_of e ∷ chain (length (net_edges N)) (net_edges N) (through N.marks) (sink_of e)) (map (edge_at N) fs))
unfolding path_ids flat_map entry_of projected_by chain_of
ids-length N [] = refl
ids-length N (f ∷ fs) = omega (
  arith,
  length-append (map (id_at N.ids) path) (path_ids (entries_from N fs)),
  length-map path (id_at N.ids),
  length-append path (flat_map (λ e. source_of e ∷ chain (length (net_edges N)) (net_edges N) (through N.marks) (sink_of e)) (map (edge_at N) fs)),
  ids-length N fs,
)
  where
    path : List ℕ
    path = source_of (edge_at N f) ∷ chain (length (net_edges N)) (net_edges N) (through N.marks) (sink_of (edge_at N f))

module _ {l : NodeLists} {marks : List ℕ} {c : ProjectedLists} {w : WorkLists} (f : Fitted l marks c w) where
  abbrev n : ℕ
  n = length l.ids

  abbrev es : List Edge
  es = edges_of l

  marks-lent : length (take (length l.ids) marks) ≡ length l.ids
  marks-lent = length-take-le n marks f.marked

  once : Distinct l.order
  once = distinct-rising (id_at l.ids) l.order f.rising

  pub retainable : Retainable l.sources l.sinks l.compressible l.order (take (length l.ids) marks) w.head w.next w.incoming w.firsts
  retainable = record {
    pairs = f.pairs;
    nodes = marks-lent ∙ sym f.kinds;
    heads = omega (arith, f.kinds, f.heads);
    links = f.links;
    counts = omega (arith, f.kinds, f.counts);
    room = f.firsts;
    sources_below = λ k h. omega (arith, f.kinds, f.sources_below k h);
    sinks_below = λ k h. omega (arith, f.kinds, f.sinks_below k h);
    order_below = λ k h. omega (arith, f.kinds, f.order_below k h);
    once = once;
  }

  -- the nodes are marked, and the first edges listed
  module _ {marks' head firsts : List ℕ} {nodes edges : ℕ} (R : Retaining l.sources l.sinks l.compressible l.order w.firsts marks' head firsts nodes edges) where
    size : length marks' ≡ n
    size = marks-length l.sources l.sinks l.compressible marks' R.marked ∙ f.kinds

    abbrev N : Net
    N = net l.sources l.sinks marks' l.ids l.low l.high l.inverts

    one_in : (v : ℕ) → T (through marks' v) → in_count es v ≡ 1
    one_in = through-in l.sources l.sinks l.compressible marks' R.marked

    one_out : (v : ℕ) → T (through marks' v) → out_count es v ≡ 1
    one_out = through-out l.sources l.sinks l.compressible marks' R.marked

    pub walkable : Walkable (net l.sources l.sinks marks' l.ids l.low l.high l.inverts) head
    walkable = record {
      pairs = f.pairs;
      marked = size;
      lows = f.lows;
      highs = f.highs;
      flags = f.flags;
      heads = omega (arith, R.heads, f.kinds);
      starts = f.sources_below;
      ends = f.sinks_below;
      one_in = one_in;
      one_out = one_out;
      onward = λ v t. next-linked l.sources l.sinks f.pairs head R.links R.linked v
          (omega (arith, through-inside l.sources l.sinks l.compressible marks' R.marked v t, R.heads)) (one_out v t);
    }

    abbrev kept : List ℕ
    kept = keep (λ v. not (through marks' v)) l.order

    abbrev first-edges : List ℕ
    first-edges = firsts_by (leaving l.sources) marks' l.order

    edges_are : map (edge_at N) first-edges ≡ flat_map (λ v. keep (starts_at v) es) kept
    unfolding firsts_by
    edges_are = leaving-rows l.sources l.sinks f.pairs kept

    few : length first-edges ≤ length l.sources
    few = omega (
      arith,
      length-map first-edges (edge_at N),
      ap length edges_are,
      firsts-few es n (edges-inside walkable) (through marks') one_in one_out l.order once,
      edge_count walkable,
    )

    short : length (path_ids (entries_from N first-edges)) ≤ 2 * length l.sources
    short = omega (
      arith,
      ids-length N first-edges,
      ap (λ k. length (flat_map (λ e. source_of e ∷ chain (length es) es (through marks') (sink_of e)) k)) edges_are,
      paths-short es n (edges-inside walkable) (through marks') one_in one_out l.order once,
      edge_count walkable,
    )

    first-is : (e : ℕ) → Memᴰ e first-edges → FirstEdge N e
    unfolding firsts_by
    first-is e m =
        let r = flat_out (leaving l.sources) kept m in
        let o = leaving-out l.sources l.sinks f.pairs r.0 e r.2 in
        record { listed = o.0; kept = λ t. T_not (through marks' r.0) (keep_out (λ v. not (through marks' v)) l.order r.1).1 (subst (λ v. T (through marks' v)) o.1 t) }

    number_is : edges ≡ length first-edges
    number_is = let q = R.listed.place in omega arith

    number_in : edges ≤ length firsts
    number_in = omega (arith, number_is, few, f.firsts, ap length R.listed.list, from-length w.firsts first-edges 0 (omega (arith, few, f.firsts)))

    pub number-lent : edges ≡ length (take edges firsts)
    number-lent = sym (length-take-le edges firsts number_in)

    listed : take edges firsts ≡ first-edges
    listed = rw R.listed.list (written-front w.firsts first-edges edges (sym number_is))

    pub fillable : Fillable (net l.sources l.sinks marks' l.ids l.low l.high l.inverts) (take edges firsts) c
    fillable = rw listed (record {
      each = first-is;
      sources = omega (arith, few, f.sources);
      sinks = omega (arith, few, f.sinks);
      inverted = omega (arith, few, f.inverted);
      minimums = omega (arith, few, f.minimums);
      maximums = omega (arith, few, f.maximums);
      starts = omega (arith, few, f.starts);
      lengths = omega (arith, few, f.lengths);
      ids = omega (arith, short, f.paths);
    })

    -- the entries are those of the definition
    entries-are : entries_from N first-edges ≡ entries_of l
    unfolding projected_entries entry_of chain_of
    entries-are = sym (ap by (sym (through_same l.sources l.sinks l.compressible marks' R.marked))
        ∙ map-map (named_entry (id_at l.ids)) (along (through marks')) (flat_map (λ v. keep (starts_at v) es) kept)
        ∙ ap (map (λ e. named_entry (id_at l.ids) (along (through marks') e))) (sym edges_are)
        ∙ map-map (λ e. named_entry (id_at l.ids) (along (through marks') e)) (edge_at N) first-edges)
      where
        along : (ℕ → Bool) → Edge → ProjectedEdge
        along t e = projected_by (key_at l.low) (key_at l.high) (inverts_from l.inverts) e (source_of e ∷ chain (length es) es t (sink_of e))

        by : (ℕ → Bool) → List ProjectedEdge
        by t = map (named_entry (id_at l.ids)) (map (along t) (flat_map (λ v. keep (starts_at v) es) (keep (λ v. not (t v)) l.order)))

    all-marks : marks' ++ drop n marks ≡ written marks (node_marks es l.compressible n)
    all-marks =
        let q : marks' ≡ node_marks es l.compressible n = R.marked ∙ ap (node_marks es l.compressible) f.kinds in
        ap (λ k. marks' ++ drop k marks) (sym size) ∙ ap (λ m. m ++ drop (length m) marks) q ∙ sym (written-parts marks (node_marks es l.compressible n))

    pub projecting : (c' : ProjectedLists) (used : ℕ) → Filled (net l.sources l.sinks marks' l.ids l.low l.high l.inverts) (take edges firsts) c c' used
        → Projecting l marks (marks' ++ drop (length l.ids) marks) c c' (record { retained = nodes; projected = edges; path_ids = used })
    projecting c' used F =
        let G : Filled N first-edges c c' used = rw listed at F in
        record {
          marked = all-marks;
          listed = rw entries-are at G.written;
          retained = R.retained ∙ rw f.kinds refl;
          projected = number_is ∙ sym (length-map first-edges (λ e. entry_of N (edge_at N e))) ∙ ap length entries-are;
          path_ids = G.place ∙ ap (λ ps. length (path_ids ps)) entries-are;
        }
