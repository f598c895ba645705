-- The pulses of a trace are the windows of its events, ordered by component, that lie in one component and make a pulse. Assumes nothing.
use mathlib.Core.Bool.{Bool, true, false, not, cond, ◌&&◌}
use mathlib.Core.List.Memᴰ
use mathlib.Core.List.{List, [], ◌∷◌, ◌++◌, map, map-map, flat_map, append_assoc, Memᴰ}
use mathlib.Core.Path.{◌≡◌, refl, sym, ap, ap₂, subst, ◌∙◌}
use mathlib.Core.Logic.{◌⊎◌, inl, inr, ⊎_elim}
use Prim.Native.Nat.{ℕ, zero, suc, ◌+◌, ◌-◌, ◌≤◌, ◌<◌}
use native.Mathlib.Omega.{arith}
use native.Mathlib.Numerals.{unary_clauses}
use lib.Dec.{T, T_not, not_T, eqb, eqb→eq, eqb_refl}
use lib.ListN.{length, get_or, drop, drop_of_length-le}
use lib.Seq.{drop-cons}
use Rattle.rules.specs.Lists.{keep, from, indices, rising, once}
use Rattle.rules.specs.Ordered.{key_at, insert_by_key, by_key, ordered}
use Rattle.rules.specs.Pulses.{Event, EventLists, event_at, events_of, is_pulse, Pulse, pulse_of, pulses_in, of_component, event_components, pulses}
use Rattle.rules.specs.Windows.{window_pulse, window_places, pulse_at}
use Rattle.rules.specs.declared.transient.TraceTimeUnit.{TraceTimeUnit}
use Rattle.rules.proofs.Lists.{chosen, not_chosen, eq_test, and_left, keep_out, keep-map}
use Rattle.rules.proofs.Sums.{order}
use Rattle.rules.proofs.Permutations.{keep-length}
use Rattle.rules.proofs.Counts.{count_under, count-every}
use Rattle.rules.proofs.Indices.{at_mem, column, indices-length, indices-below}
use Rattle.rules.proofs.Sorting.{Rising, rising-rises}
use Rattle.rules.proofs.Ordering.{insert-alone, insert-first, insert-later, ordered-length, ordered-rising}

module _ {A : Type 0} (f : A → Bool) where
  -- the first entry is kept if it passes, and else not
  keep-yes : (x : A) (l : List A) → T (f x) → keep f (x ∷ l) ≡ x ∷ keep f l
  unfolding keep
  keep-yes x l t = chosen (x ∷ keep f l) (keep f l) (f x) t

  keep-no : (x : A) (l : List A) → (T (f x) → ⊥) → keep f (x ∷ l) ≡ keep f l
  unfolding keep
  keep-no x l n = not_chosen (x ∷ keep f l) (keep f l) (f x) n

  -- all entries pass, or none
  keep_all : (l : List A) → ((x : A) → Memᴰ x l → T (f x)) → keep f l ≡ l
  unfolding keep
  keep_all [] h = refl
  keep_all (x ∷ l) h = keep-yes x l (h x (Memᴰ.head refl)) ∙ ap (λ r. x ∷ r) (keep_all l (λ y m. h y (Memᴰ.tail m)))

  keep-none : (l : List A) → ((x : A) → Memᴰ x l → T (f x) → ⊥) → keep f l ≡ []
  unfolding keep
  keep-none [] h = refl
  keep-none (x ∷ l) h = keep-no x l (h x (Memᴰ.head refl)) ∙ keep-none l (λ y m. h y (Memᴰ.tail m))

-- rows that are equal for each entry
flat-same : {A B : Type 0} (f g : A → List B) (l : List A) → ((x : A) → Memᴰ x l → f x ≡ g x) → flat_map f l ≡ flat_map g l
unfolding flat_map
flat-same f g [] h = refl
flat-same f g (x ∷ l) h = ap₂ ◌++◌ (h x (Memᴰ.head refl)) (flat-same f g l (λ y m. h y (Memᴰ.tail m)))

module _ (keys : List ℕ) (v : ℕ) where
  abbrev has_key : ℕ → Bool
  has_key i = eqb (key_at keys i) v

  -- a position put in stands before those of its key
  insert-keeps : (i : ℕ) (js : List ℕ) → keep has_key (insert_by_key keys i js) ≡ keep has_key (i ∷ js)
  unfolding keep
  insert-keeps i [] = rw (insert-alone keys i)
  insert-keeps i (j ∷ js) = go (insert-keeps i js) (order (key_at keys i) (key_at keys j))
    where
      swap : (a b : Bool) (k : List ℕ) → (T a → T b → ⊥) → cond b (j ∷ cond a (i ∷ k) k) (cond a (i ∷ k) k) ≡ cond a (i ∷ cond b (j ∷ k) k) (cond b (j ∷ k) k)
      swap true true k n = absurd (n tt tt)
      swap true false k n = refl
      swap false b k n = refl

      go : keep has_key (insert_by_key keys i js) ≡ keep has_key (i ∷ js) → (key_at keys i ≤ key_at keys j) ⊎ (key_at keys j < key_at keys i) → keep has_key (insert_by_key keys i (j ∷ js)) ≡ keep has_key (i ∷ j ∷ js)
      go ih (inl h) = rw (insert-first keys i j js h)
      go ih (inr h) = rw (insert-later keys i j js h, ih) (swap (has_key i) (has_key j) (keep has_key js) (λ s t. omega (arith, eqb→eq (key_at keys i) v s, eqb→eq (key_at keys j) v t)))

  -- ordering by key keeps the order of the positions of one key
  by_key-keeps : (l : List ℕ) → keep has_key (by_key keys l) ≡ keep has_key l
  unfolding by_key keep
  by_key-keeps [] = refl
  by_key-keeps (i ∷ l) = insert-keeps i (by_key keys l) ∙ ap (λ r. cond (has_key i) (i ∷ r) r) (by_key-keeps l)

abbrev is_not : ℕ → ℕ → Bool
is_not v w = not (eqb w v)

-- a number that is kept once stands in the list
once-mem : {x : ℕ} (l : List ℕ) → Memᴰ x (once l) → Memᴰ x l
unfolding once
once-mem [] m = m
once-mem (y ∷ l) m = let r = once-mem l in ⊎_elim Memᴰ.head (λ n. Memᴰ.tail (r (keep_out (is_not y) (once l) n).0)) (Memᴰ.cases_cons m)

-- rows for numbers that rise from v on, each once: the row for v, and then those for the others
once-split : {B : Type 0} (f : ℕ → List B) (v : ℕ) (l : List ℕ) → Rising (v ∷ l) → ((Memᴰ v l → ⊥) → f v ≡ []) → flat_map f (once l) ≡ f v ++ flat_map f (keep (is_not v) (once l))
unfolding flat_map once keep
once-split f v [] r h = rw (h Memᴰ.not-nil)
once-split f v (w ∷ l) r h = go (order w v)
  where
    go : (w ≤ v) ⊎ (v < w) → flat_map f (once (w ∷ l)) ≡ f v ++ flat_map f (keep (is_not v) (once (w ∷ l)))
    go (inl g) =
        let e : v ≡ w = omega (arith, r.0 w (Memᴰ.head refl)) in
        let n = keep (is_not w) (once l) in
        let q : keep (is_not w) (w ∷ n) ≡ n = keep-no (is_not w) w n (λ t. T_not (eqb w w) t (eqb_refl w)) ∙ keep_all (is_not w) n (λ y m. (keep_out (is_not w) (once l) m).1) in
        subst (λ u. flat_map f (once (w ∷ l)) ≡ f u ++ flat_map f (keep (is_not u) (once (w ∷ l)))) (sym e) (ap (λ r. f w ++ flat_map f r) (sym q))
    go (inr g) = rw (h absent, keep_all (is_not v) (once (w ∷ l)) (λ y m. not_T (eqb y v) (λ t. absent (Memᴰ.cast (sym (eqb→eq y v t)) (once-mem (w ∷ l) m)))))
      where
        absent : Memᴰ v (w ∷ l) → ⊥
        absent m = ⊎_elim (λ e. omega arith) (λ n. omega (arith, r.1.0 v n)) (Memᴰ.cases_cons m)

abbrev components_of : List Event → List ℕ
components_of es = map (λ e. e.component) es

module _ (unit : TraceTimeUnit) where
  -- the pulse of the window of an event and the two after it, if it lies in one component and makes one
  abbrev window : Event → List Event → List Pulse
  window a [] = []
  window a (b ∷ []) = []
  window a (b ∷ c ∷ es) = cond (eqb a.component c.component && is_pulse a b c) (pulse_of unit a b c ∷ []) []

  -- the pulses of all windows of a row
  abbrev windows : List Event → List Pulse
  windows [] = []
  windows (a ∷ es) = window a es ++ windows es

  -- the pulses of one component
  abbrev pulses_of : List Event → ℕ → List Pulse
  pulses_of es v = pulses_in unit (keep (of_component v) es)

  -- an event before one other at most makes no pulse, and one before two others makes its window's
  two : (a b : Event) (t : Bool) → pulses_in unit (a ∷ cond t (b ∷ []) []) ≡ pulses_in unit (cond t (b ∷ []) [])
  unfolding pulses_in
  two a b true = refl
  two a b false = refl

  three : (a b c : Event) (es : List Event) (t : Bool) → T t → pulses_in unit (a ∷ b ∷ c ∷ es) ≡ cond (t && is_pulse a b c) (pulse_of unit a b c ∷ []) [] ++ pulses_in unit (b ∷ c ∷ es)
  unfolding pulses_in
  three a b c es true t = go (is_pulse a b c) (pulses_in unit (b ∷ c ∷ es))
    where
      go : (p : Bool) (ps : List Pulse) → cond p (pulse_of unit a b c ∷ ps) ps ≡ cond p (pulse_of unit a b c ∷ []) [] ++ ps
      go true ps = refl
      go false ps = refl
  three a b c es false t = elim t [ ]

  -- the pulses of the first event's component: its window's, and those without it
  pulses-first : (a : Event) (es : List Event) → Rising (components_of (a ∷ es)) → pulses_in unit (a ∷ keep (of_component a.component) es) ≡ window a es ++ pulses_of es a.component
  unfolding keep
  pulses-first a [] r = two a a false
  pulses-first a (b ∷ []) r = two a b (of_component a.component b)
  pulses-first a (b ∷ c ∷ es) r = go (order c.component a.component)
    where
      f : Event → Bool
      f = of_component a.component

      one : Bool
      one = eqb a.component c.component

      go : (c.component ≤ a.component) ⊎ (a.component < c.component) → pulses_in unit (a ∷ keep f (b ∷ c ∷ es)) ≡ window a (b ∷ c ∷ es) ++ pulses_in unit (keep f (b ∷ c ∷ es))
      go (inl h) =
          let g = r.0 b.component (Memᴰ.head refl) in
          let k = r.1.0 c.component (Memᴰ.head refl) in
          let second : b.component ≡ a.component = omega arith in
          let third : c.component ≡ a.component = omega arith in
          rw (keep-yes f b (c ∷ es) (eq_test second), keep-yes f c es (eq_test third)) (three a b c (keep f es) one (eq_test (sym third)))
      go (inr h) = rw (none, rest) (two a b (f b))
        where
          none : window a (b ∷ c ∷ es) ≡ []
          none = not_chosen (pulse_of unit a b c ∷ []) [] (one && is_pulse a b c) (λ t. omega (arith, eqb→eq a.component c.component (and_left one (is_pulse a b c) t)))

          rest : keep f (c ∷ es) ≡ []
          rest =
              keep-no f c es (λ t. omega (arith, eqb→eq c.component a.component t))
              ∙ keep-none f es (λ e m t. omega (arith, r.1.1.0 e.component (Memᴰ.map (λ e. e.component) m), eqb→eq e.component a.component t))

  -- where components rise along the row, the pulses by component are those of the windows
  windows-all : (es : List Event) → Rising (components_of es) → flat_map (pulses_of es) (once (components_of es)) ≡ windows es
  unfolding flat_map once pulses_in
  windows-all [] r = refl
  windows-all (a ∷ es) r =
      ap₂ ◌++◌ (ap (pulses_in unit) (keep-yes (of_component v) a es (eqb_refl v)) ∙ pulses-first a es r) (flat-same (pulses_of (a ∷ es)) (pulses_of es) (keep (is_not v) (once (components_of es))) others)
      ∙ append_assoc (window a es) (pulses_of es v) _
      ∙ ap (λ ps. window a es ++ ps) (sym (once-split (pulses_of es) v (components_of es) r absent) ∙ windows-all es r.1)
    where
      v : ℕ
      v = a.component

      others : (w : ℕ) → Memᴰ w (keep (is_not v) (once (components_of es))) → pulses_of (a ∷ es) w ≡ pulses_of es w
      others w m = ap (pulses_in unit) (keep-no (of_component w) a es (λ t. T_not (eqb w v) (keep_out (is_not v) (once (components_of es)) m).1 (eq_test (sym (eqb→eq v w t)))))

      absent : (Memᴰ v (components_of es) → ⊥) → pulses_of es v ≡ []
      absent n = ap (pulses_in unit) (keep-none (of_component v) es (λ e m t. n (Memᴰ.cast (sym (eqb→eq e.component v t)) (Memᴰ.map (λ e. e.component) m))))

module _ (unit : TraceTimeUnit) (l : EventLists) where
  -- the windows from place i of a row of positions on, if m begin there
  windows-from : (row : List ℕ) (m i : ℕ) → i + 2 + m ≡ length row → windows unit (map (event_at l) (drop i row)) ≡ map (pulse_at unit l row) (keep (window_pulse l row) (from i m))
  unfolding window_pulse pulse_at from keep
  windows-from row zero i h = rw (drop-cons row i 0 (omega arith), drop-cons row (suc i) 0 (omega arith), drop_of_length-le row {i = suc (suc i)} (omega arith))
  windows-from row (suc m) i h = rw (drop-cons row i 0 (omega arith)) (ap₂ ◌++◌ here (windows-from row m (suc i) (omega arith)) ∙ go (window_pulse l row i) (keep (window_pulse l row) (from (suc i) m)))
    where
      here : window unit (event_at l (get_or row i 0)) (map (event_at l) (drop (suc i) row)) ≡ cond (window_pulse l row i) (pulse_at unit l row i ∷ []) []
      here = rw (drop-cons row (suc i) 0 (omega arith), drop-cons row (suc (suc i)) 0 (omega arith)) (simp unary_clauses)

      go : (t : Bool) (ks : List ℕ) → cond t (pulse_at unit l row i ∷ []) [] ++ map (pulse_at unit l row) ks ≡ map (pulse_at unit l row) (cond t (i ∷ ks) ks)
      go true ks = refl
      go false ks = refl

  -- the windows of a row are those at its places
  windows-places : (row : List ℕ) → windows unit (map (event_at l) row) ≡ map (pulse_at unit l row) (window_places l row (length row))
  unfolding window_places indices from keep
  windows-places [] = refl
  windows-places (i ∷ []) = refl
  windows-places (i ∷ j ∷ row) = windows-from (i ∷ j ∷ row) (suc (suc (length row)) - 2) 0 (omega arith)

module _ (l : EventLists) where
  -- the events ordered by component
  abbrev in_order : List Event
  in_order = map (event_at l) (ordered l.components)

  -- each component keeps its events in their order
  order-keeps : length l.components ≡ length l.ticks → (v : ℕ) → keep (of_component v) (events_of l) ≡ keep (of_component v) in_order
  unfolding events_of event_at ordered
  order-keeps e v =
      rw (← e)
      (keep-map (of_component v) (event_at l) (indices (length l.components))
      ∙ ap (map (event_at l)) (sym (by_key-keeps l.components v (indices (length l.components))))
      ∙ sym (keep-map (of_component v) (event_at l) (ordered l.components)))

  -- and the components rise
  order-rises : length l.components ≡ length l.ticks → rising (components_of (events_of l)) ≡ components_of in_order
  unfolding events_of event_at
  order-rises e = ap rising (column (λ e. e.component) (event_at l) (length l.ticks) l.components 0 e (λ i. refl)) ∙ sym (map-map (λ e. e.component) (event_at l) (ordered l.components) ∙ ordered-rising l.components)

-- the pulses of a trace are those that begin at the places of its positions ordered by component
pub pulses-windows : (unit : TraceTimeUnit) (l : EventLists) → length l.components ≡ length l.ticks
    → pulses unit (events_of l) ≡ map (pulse_at unit l (ordered l.components)) (window_places l (ordered l.components) (length l.ticks))
unfolding pulses event_components
pulses-windows unit l e =
    flat-same (pulses_of unit (events_of l)) (pulses_of unit (in_order l)) (event_components (events_of l)) (λ v m. ap (pulses_in unit) (order-keeps l e v))
    ∙ ap (λ vs. flat_map (pulses_of unit (in_order l)) (once vs)) (order-rises l e)
    ∙ windows-all unit (in_order l) (subst Rising (order-rises l e) (rising-rises (components_of (events_of l))))
    ∙ windows-places unit l (ordered l.components)
    ∙ ap (λ n. map (pulse_at unit l (ordered l.components)) (window_places l (ordered l.components) n)) (ordered-length l.components ∙ e)

-- a pulse that begins at a place has its three places in the row
pub places_inside : (l : EventLists) (row : List ℕ) (n k : ℕ) → k < length (window_places l row n) → get_or (window_places l row n) k 0 + 2 < n
unfolding window_places
places_inside l row n k h = omega (arith, indices-below (n - 2) (keep_out (window_pulse l row) (indices (n - 2)) (at_mem 0 (window_places l row n) k h)).0)

-- there are no more of them than positions
pub places-few : (l : EventLists) (row : List ℕ) (n : ℕ) → length (window_places l row n) ≤ n
unfolding window_places
places-few l row n = omega (
  arith,
  keep-length (window_pulse l row) (indices (n - 2)),
  count_under (window_pulse l row) (λ k. true) (indices (n - 2)) (λ k m t. tt),
  count-every (indices (n - 2)),
  indices-length (n - 2),
)
