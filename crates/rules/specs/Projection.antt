-- Projection: marks, projected edges and their paths. Assumes nothing: these are definitions.
use Rattle.std.specs.Prelude.{Bool, true, false, not, cond, ◌&&◌, ℕ, zero, suc, ◌+◌, eqb, leb, ltb, length, get_or, take, drop}
use mathlib.Core.List.{List, [], ◌∷◌, map, flat_map}
use Rattle.rules.specs.Lists.{keep}
use Rattle.rules.specs.Scene.{Component, rising_ids, row_at, delay_at}
use Rattle.rules.specs.Graph.{Edge, source_of, sink_of, starts_at, in_count, out_count}
use Rattle.rules.specs.Paths.{delay_sum}
use Rattle.rules.specs.declared.kinds.TemporalNodeKind.{TemporalNodeKind}
use Rattle.rules.specs.declared.kinds.TemporalNodeKind.TheVariants.{Source, Wire, Inverter, Delay, Comparator, Actuator, Conductor}
use Rattle.rules.specs.declared.kinds.EdgeBehavior.{EdgeBehavior}
use Rattle.rules.specs.declared.kinds.EdgeBehavior.TheVariants.{Immediate, DelayedForward, DelayedInvert, Analog, Mechanical, OrderSensitive}

-- Wire, Conductor or Delay
abbrev pub compressible_kind : TemporalNodeKind → Bool
compressible_kind Source = false
compressible_kind Wire = true
compressible_kind Inverter = false
compressible_kind Delay = true
compressible_kind Comparator = false
compressible_kind Actuator = false
compressible_kind Conductor = true

-- "A Wire, Conductor or Delay with exactly one incoming and one outgoing edge is compressed; all others are retained."
unfoldable pub compressed : List Component → List Edge → ℕ → Bool
compressed cs es v = compressible_kind (row_at cs v).node && (eqb (in_count es v) 1 && eqb (out_count es v) 1)

-- list 5, "1 for retained and 0 for compressed", in component order
unfoldable pub marks : List Component → List Edge → List ℕ
marks cs es = map (λ c. cond (compressed cs es c.id) 0 1) cs

-- the retained components by rising id
unfoldable pub retained : List Component → List Edge → List ℕ
retained cs es = keep (λ v. not (compressed cs es v)) (rising_ids cs)

-- "From each retained component by rising id, along each outgoing edge in list order": the edges that the chains begin with
unfoldable pub first_edges : List Component → List Edge → List Edge
first_edges cs es = flat_map (λ v. keep (starts_at v) es) (retained cs es)

-- where the first edge out of v leads; a compressed component has no other
unfoldable pub next : List Edge → ℕ → ℕ
next es v = get_or (map sink_of (keep (starts_at v) es)) 0 v

-- "the chain is walked through compressed components": the ids met from v on, in at most k steps
unfoldable pub chain : ℕ → List Edge → (ℕ → Bool) → ℕ → List ℕ
chain zero es through v = v ∷ []
chain (suc k) es through v =
    let r = chain k es through (next es v) in
    cond (through v) (v ∷ r) (v ∷ [])

-- "the ids met, ends included, are the path". A chain from a retained component meets no compressed one twice, so as many steps as there
-- are edges are enough (crate laws, Chains, chain-ends)
unfoldable pub chain_from : List Component → List Edge → Edge → List ℕ
chain_from cs es e = source_of e ∷ chain (length es) es (compressed cs es) (sink_of e)

-- all of a row but its last, and its last
unfoldable pub before_last : List ℕ → List ℕ
before_last [] = []
before_last (x ∷ []) = []
before_last (x ∷ y ∷ l) = x ∷ before_last (y ∷ l)

unfoldable pub last_of : List ℕ → ℕ
last_of [] = 0
last_of (x ∷ []) = x
last_of (x ∷ y ∷ l) = last_of (y ∷ l)

abbrev pub is_delayed_invert : EdgeBehavior → Bool
is_delayed_invert Immediate = false
is_delayed_invert DelayedForward = false
is_delayed_invert DelayedInvert = true
is_delayed_invert Analog = false
is_delayed_invert Mechanical = false
is_delayed_invert OrderSensitive = false

-- "inversion flips at DelayedInvert": whether it flips an odd number of times on the edges out of these components
unfoldable pub flips : (ℕ → Bool) → List ℕ → Bool
flips f [] = false
flips f (v ∷ l) =
    let r = flips f l in
    cond (f v) (not r) r

unfoldable pub inverts_at : List Component → ℕ → Bool
inverts_at cs v = is_delayed_invert (row_at cs v).behavior

-- a projected edge with its path
pub record ProjectedEdge : Type 0 where
  pub source : ℕ
  pub sink : ℕ
  pub inverted : ℕ
  pub minimum : ℕ
  pub maximum : ℕ
  pub path : List ℕ

-- "Delays add, inversion flips at DelayedInvert": each edge of the path takes them from its source
unfoldable pub projected_by : (ℕ → ℕ) → (ℕ → ℕ) → (ℕ → Bool) → Edge → List ℕ → ProjectedEdge
projected_by low high inverts e p =
    record {
      source = source_of e;
      sink = last_of p;
      inverted = cond (flips inverts (before_last p)) 1 0;
      minimum = delay_sum low (before_last p);
      maximum = delay_sum high (before_last p);
      path = p;
    }

unfoldable pub projected_along : List Component → List Edge → Edge → ProjectedEdge
projected_along cs es e = projected_by (delay_at cs) (delay_at cs) (inverts_at cs) e (chain_from cs es e)

-- the projected edges, in the order of list 6
unfoldable pub projected : List Component → List Edge → List ProjectedEdge
projected cs es = map (projected_along cs es) (first_edges cs es)

-- where paths start that stand one after the other, the first at the given place
unfoldable pub starts_from : ℕ → List ProjectedEdge → List ℕ
starts_from at [] = []
starts_from at (p ∷ ps) = at ∷ starts_from (at + length p.path) ps

-- "An entry of list 6 carries its path's start and length." List 7 is packed from 0 on, in the order of list 6
abbrev pub path_starts : List ProjectedEdge → List ℕ
path_starts ps = starts_from 0 ps

abbrev pub path_length : ProjectedEdge → ℕ
path_length p = length p.path

-- list 7
unfoldable pub path_ids : List ProjectedEdge → List ℕ
path_ids ps = flat_map (λ p. p.path) ps

-- "For one edge, the path is handed back as the part of list 7 that holds it. An edge number past the end of list 6, or a stored start
-- and length that don't lie within list 7, gives the empty part." The starts and lengths are two of list 6's fields; its end is that of the
-- shorter of the two, and an entry past those used is read as it stands
unfoldable pub projected_path : (paths starts lengths : List ℕ) → ℕ → List ℕ
projected_path paths starts lengths k =
    let start = get_or starts k 0 in
    let size = get_or lengths k 0 in
    let stored = ltb k (length starts) && ltb k (length lengths) in
    let part = take size (drop start paths) in
    cond (stored && leb (start + size) (length paths)) part []
