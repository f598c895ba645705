-- What the contract gives a caller: a call that refuses changes nothing, one whose lists fit writes the answers, and the answers for two paths of
-- unequal delay. Assumes nothing.
use mathlib.Core.Bool.{Bool, true, false}
use mathlib.Core.List.{List, [], ◌∷◌, map, flat_map}
use mathlib.Core.Path.{◌≡◌, refl, sym, ap, ◌∙◌}
use Prim.Native.Nat.{ℕ}
use lib.ListN.{length}
use Rattle.std.specs.Prelude.{Option, Some, None, is_some, IfSome}
use Rattle.rules.specs.Lists.{any, keep, from, indices, count, written}
use Rattle.rules.specs.Ordered.{key_at}
use Rattle.rules.specs.Delay.{saturating_add}
use Rattle.rules.specs.Graph.{edges_between, in_count, reach, settled}
use Rattle.rules.specs.Paths.{no_incoming, settled_sources, paths_within, paths_to, delay_sum, extreme, extreme_sum, smallest_sum, largest_sum}
use Rattle.rules.specs.Reasons.{unequal_at}
use Rattle.reconvergence.specs.Fits.{reconvergence_fits, settled_marks, ReconvergentDelays}

module _ {sources sinks low high order marks smallest largest unequal head next incoming left queue marks' smallest' largest' unequal' head' next' incoming' left' queue' : List ℕ} {r : Option ℕ}
    (s : ReconvergentDelays sources sinks low high order marks smallest largest unequal head next incoming left queue marks' smallest' largest' unequal' head' next' incoming' left' queue' r) where
  abbrev fits : Bool
  fits = reconvergence_fits sources sinks order (length low) (length high) (length marks) (length smallest) (length largest) (length unequal) (length head) (length next) (length incoming) (length left) (length queue)

  pub refused-keeps : fits ≡ false
      → (r ≡ None) × ((marks' ≡ marks) × (smallest' ≡ smallest) × (largest' ≡ largest) × (unequal' ≡ unequal))
      × ((head' ≡ head) × (next' ≡ next) × (incoming' ≡ incoming) × (left' ≡ left) × (queue' ≡ queue))
  refused-keeps e =
      let no : is_some r ≡ false = s.answer ∙ e in (
        none r no,
        (s.settles ∙ rw no, s.smallests ∙ rw no, s.largests ∙ rw no, s.lists ∙ rw no),
        s.refused no,
      )
    where
      none : (r : Option ℕ) → is_some r ≡ false → r ≡ None
      none None e = refl
      none (Some c) e = cc

  -- where the lists fit: the marks, the sums, the listed nodes and how many these are
  pub record Written : Type 0 where
    pub taken : is_some r ≡ true
    pub settles : marks' ≡ written marks (settled_marks (edges_between sources sinks) (length low))
    pub smallests : smallest' ≡ written smallest (map (smallest_sum (edges_between sources sinks) (key_at low)) (indices (length low)))
    pub largests : largest' ≡ written largest (map (largest_sum (edges_between sources sinks) (key_at high)) (indices (length low)))
    pub lists : unequal' ≡ written unequal (keep (unequal_at (edges_between sources sinks) (key_at low) (key_at high)) order)
    pub counts : r ≡ Some (length (keep (unequal_at (edges_between sources sinks) (key_at low) (key_at high)) order))

  pub fitting-writes : fits ≡ true → Written
  fitting-writes e =
      let yes : is_some r ≡ true = s.answer ∙ e in record {
        taken = yes;
        settles = s.settles ∙ rw yes;
        smallests = s.smallests ∙ rw yes;
        largests = s.largests ∙ rw yes;
        lists = s.lists ∙ rw yes;
        counts = some r yes s.counts;
      }
    where
      some : {n : ℕ} (r : Option ℕ) → is_some r ≡ true → IfSome r (λ c. c ≡ n) → r ≡ Some n
      some None e h = cc
      some (Some c) e h = ap Some h

-- two paths from node 0 to node 3, by a node of delay 1 and by one of delay 2: every node is settled, and node 3 is listed
pub diamond : {marks smallest largest unequal head next incoming left queue marks' smallest' largest' unequal' head' next' incoming' left' queue' : List ℕ} {r : Option ℕ}
    → ReconvergentDelays (0 ∷ 0 ∷ 1 ∷ 2 ∷ []) (1 ∷ 2 ∷ 3 ∷ 3 ∷ []) (0 ∷ 1 ∷ 2 ∷ 0 ∷ []) (0 ∷ 1 ∷ 2 ∷ 0 ∷ []) (0 ∷ 1 ∷ 2 ∷ 3 ∷ []) marks smallest largest unequal head next incoming left queue marks' smallest' largest' unequal' head' next' incoming' left' queue' r
    → is_some r ≡ true → (marks' ≡ written marks (1 ∷ 1 ∷ 1 ∷ 1 ∷ [])) × (smallest' ≡ written smallest (0 ∷ 0 ∷ 0 ∷ 1 ∷ [])) × (largest' ≡ written largest (0 ∷ 0 ∷ 0 ∷ 2 ∷ [])) × (unequal' ≡ written unequal (3 ∷ [])) × (r ≡ Some 1)
unfolding settled_marks settled any reach indices from edges_between extreme_sum extreme paths_to paths_within no_incoming settled_sources keep delay_sum saturating_add unequal_at in_count count flat_map
diamond s e =
    let w = fitting-writes s (sym s.answer ∙ e) in (w.settles, w.smallests, w.largests, w.lists, w.counts)
