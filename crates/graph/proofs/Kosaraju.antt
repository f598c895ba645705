-- The second pass: taken from the last listed node to the first, each gathering along the edges backwards is one strongly connected component. Assumes nothing.
use mathlib.Core.List.Memᴰ
use mathlib.Core.List.{List, [], ◌∷◌, ◌++◌, Memᴰ}
use mathlib.Core.Logic.{⊎_elim, dite}
use mathlib.Core.Path.{◌≡◌, refl, sym, ap, subst, ◌∙◌}
use Prim.Native.Nat.{ℕ, ◌<◌}
use native.Mathlib.Decide.{ℕ_discrete}
use lib.ListN.{length, get_or, set, length-set}
use lib.Seq.{get_or-set_same, get_or-set_other}
use Rattle.rules.specs.Graph.{Edge, ◌⟶◌, Walk, stop, step}
use Rattle.rules.proofs.Reach.{join}
use Rattle.graph.specs.Visits.{Dfs, paint}
use Rattle.graph.proofs.Seen.{Unseen, Seen, PathIn, last, on, Next, grows, us-seen, out-was, out-is, out-all, sound, complete}
use Rattle.graph.proofs.LeavingOrder.{NoLater, here, no-later-front, no-later-append, leads-back}
use Rattle.graph.proofs.Neighbours.{Leads}

-- what a node's group is after painting
paint-stays : (root : ℕ) (ws g : List ℕ) (v : ℕ) → v < length g → get_or g v 0 ≡ root → get_or (paint root ws g) v 0 ≡ root
unfolding paint
paint-stays root [] g v l e = e
paint-stays root (w ∷ ws) g v l e = paint-stays root ws (set g w root) v (rw length-set l) (dite (ℕ_discrete v w) (λ q. rw q (get_or-set_same g w root 0 (rw q at l))) (λ ne. get_or-set_other g w v root 0 ne ∙ e))

paint-in : (root : ℕ) (ws g : List ℕ) (v : ℕ) → v < length g → Memᴰ v ws → get_or (paint root ws g) v 0 ≡ root
unfolding paint
paint-in root [] g v l m = absurd (Memᴰ.not-nil m)
paint-in root (w ∷ ws) g v l m =
    ⊎_elim
    (λ q. paint-stays root ws (set g w root) v (rw length-set l) (rw q (get_or-set_same g w root 0 (rw q at l))))
    (λ m'. paint-in root ws (set g w root) v (rw length-set l) m')
    (Memᴰ.cases_cons m)

paint-out : (root : ℕ) (ws g : List ℕ) (v : ℕ) → (Memᴰ v ws → ⊥) → get_or (paint root ws g) v 0 ≡ get_or g v 0
unfolding paint
paint-out root [] g v n = refl
paint-out root (w ∷ ws) g v n = paint-out root ws (set g w root) v (λ m. n (Memᴰ.tail m)) ∙ get_or-set_other g w v root 0 (λ q. n (Memᴰ.head q))

-- an edge is listed from u to v
abbrev Joined : List Edge → ℕ → ℕ → Type 0
Joined es u v = Memᴰ (u ⟶ v) es

-- a walk each way
abbrev pub Mutual : List Edge → ℕ → ℕ → Type 0
Mutual es x y = Walk es x y × Walk es y x

pub mutual-sym : {es : List Edge} {x y : ℕ} → Mutual es x y → Mutual es y x
mutual-sym m = (m.1, m.0)

pub mutual-trans : {es : List Edge} {x y z : ℕ} → Mutual es x y → Mutual es y z → Mutual es x z
mutual-trans m k = (join m.0 k.0, join k.1 m.1)

module _ {es : List Edge} where
  path-walk : {P : ℕ → Type 0} {u w : ℕ} → PathIn (Joined es) P u w → Walk es u w
  path-walk (last p) = stop refl
  path-walk (on p e r) = step e (path-walk r)

  -- a path whose nodes are P, since they are Q and lead to its end
  along : {P Q : ℕ → Type 0} {z w : ℕ} → ((y v : ℕ) → Q y → Joined es y v → Q v) → ((y : ℕ) → Q y → Walk es y w → P y) → Q z → Walk es z w → PathIn (Joined es) P z w
  along {P} {z = z} f h q (stop e) = subst (λ w. PathIn (Joined es) P z w) e (last (h z q (stop e)))
  along f h q (step {u} {w = v} e p) = on (h u q (step e p)) e (along f h (f u v q e) p)

snoc : {E : ℕ → ℕ → Type 0} {P : ℕ → Type 0} {a b c : ℕ} → PathIn E P a b → E b c → P c → PathIn E P a c
snoc (last p) f q = on p f (last q)
snoc (on p e r) f q = on p e (snoc r f q)

-- the edges es between n nodes, and the same edges backwards, each listed by the node that it leaves
pub record BothWays (es back : List Edge) (n : ℕ) (next prev : ℕ → List ℕ) : Type 0 where
  pub forward : Leads es n next
  pub backward : Leads back n prev
  pub turned : (u v : ℕ) → Memᴰ (u ⟶ v) es → Memᴰ (v ⟶ u) back
  pub returned : (u v : ℕ) → Memᴰ (v ⟶ u) back → Memᴰ (u ⟶ v) es
  pub low : (u v : ℕ) → Memᴰ (u ⟶ v) es → u < n
  pub high : (u v : ℕ) → Memᴰ (u ⟶ v) es → v < n

-- the nodes k have been taken, with the marks s and the groups g
pub record Halfway (es : List Edge) (n : ℕ) (k s g : List ℕ) : Type 0 where
  pub listed : (x : ℕ) → Memᴰ x k → Seen s x
  pub own : (x : ℕ) → x < n → Seen s x → Mutual es x (get_or g x 0)
  pub whole : (x y : ℕ) → x < n → y < n → Seen s x → Mutual es x y → Seen s y × (get_or g y 0 ≡ get_or g x 0)

pub halfway-none : (es : List Edge) (n : ℕ) (s g : List ℕ) → ((v : ℕ) → Unseen s v) → Halfway es n [] s g
halfway-none es n s g blank = record { listed = λ x m. absurd (Memᴰ.not-nil m); own = λ x l h. absurd (h (blank x)); whole = λ x y l m h. absurd (h (blank x)) }

pub halfway-old : (es : List Edge) (n r : ℕ) (k s g : List ℕ) → Seen s r → Halfway es n k s g → Halfway es n (r ∷ k) s g
halfway-old es n r k s g h was = record {
  listed = λ x m. ⊎_elim (λ e z. h (ap (λ j. get_or s j 0) (sym e) ∙ z)) (λ m'. was.listed x m') (Memᴰ.cases_cons m);
  own = was.own;
  whole = was.whole;
}

-- the first pass listed all n nodes in the order out
pub all-out : (next : ℕ → List ℕ) (n : ℕ) (nodes s₀ s₁ out : List ℕ) → Dfs next nodes s₀ s₁ out → ((v : ℕ) → Unseen s₀ v) → ((v : ℕ) → v < n → Memᴰ v nodes) → (v : ℕ) → v < n → Memᴰ v out
all-out next n nodes s₀ s₁ out first blank every v l = out-all first v (blank v) (us-seen first v (every v l))

module _ (es back : List Edge) (n : ℕ) (next prev : ℕ → List ℕ) (two : BothWays es back n next prev) where
  next-walk : {P : ℕ → Type 0} {u w : ℕ} → PathIn (Next next) P u w → u < n → Walk es u w
  next-walk (last p) l = stop refl
  next-walk (on {u} {v} p e q) l = let f = two.forward.only u v l e in step f (next-walk q (two.high u v f))

  turned-path : {P : ℕ → Type 0} {r x : ℕ} → PathIn (Next prev) P r x → r < n → PathIn (Joined es) P x r
  turned-path (last p) l = last p
  turned-path (on {u} {v} p e q) l = let f = two.returned v u (two.backward.only u v l e) in snoc (turned-path q (two.low v u f)) f p

  returned-path : {P : ℕ → Type 0} {x r : ℕ} → PathIn (Joined es) P x r → PathIn (Next prev) P r x
  returned-path (last p) = last p
  returned-path (on {u} {v} p e q) = snoc (returned-path q) (two.backward.every v u (two.high u v e) (two.turned u v e)) p

  -- r is the last node of the order that is not taken yet, and second what is gathered from it
  module _ (s₀ nodes s₁ out : List ℕ) (first : Dfs next nodes s₀ s₁ out) (all : (v : ℕ) → v < n → Memᴰ v out) (l k : List ℕ) (r : ℕ) (split : out ≡ l ++ (r ∷ k)) (rn : r < n) (s g s' o : List ℕ) (was : Halfway es n k s g) (new : Unseen s r) (second : Dfs prev (r ∷ []) s s' o) where
    before : (y : ℕ) → y < n → Unseen s y → NoLater y r out
    before y yn z = rw split (⊎_elim
        (λ m. no-later-front l m (Memᴰ.head refl))
        (λ t. ⊎_elim (λ e. no-later-append l (here e (Memᴰ.head refl))) (λ m. absurd (was.listed y m z)) (Memᴰ.cases_cons t))
        (Memᴰ.append_cases l (subst (λ j. Memᴰ y j) split (all y yn))))

    path-before : {x w : ℕ} → w ≡ r → PathIn (Joined es) (Unseen s) x w → PathIn (Next next) (λ y. NoLater y r out) x w
    path-before e (last {u} p) = last (before u (rw e rn) p)
    path-before e (on {u} {v} p f q) = on (before u (two.low u v f) p) (two.forward.every u v (two.low u v f) f) (path-before e q)

    in_group : (x : ℕ) → Memᴰ x o → Mutual es x r
    in_group x m =
        let t = sound second x m in
        let p = turned-path (subst (λ j. PathIn (Next prev) (Unseen s) j x) (Memᴰ.eq_of_singleton t.1) t.2) rn in
        (path-walk p, next-walk (leads-back first r x (all r rn) (path-before refl p)) rn)

    white : (z : ℕ) → (z < n) × Walk es r z → Walk es z r → Unseen s z
    white z q p = dite (ℕ_discrete (get_or s z 0) 0) (λ e. e) (λ h. absurd ((was.whole z r q.0 rn h (p, q.1)).0 new))

    whole-group : (y : ℕ) → y < n → Mutual es y r → Memᴰ y o
    whole-group y yn m = complete second (Memᴰ.head refl) (returned-path (along {Q = λ z. (z < n) × Walk es r z} (λ a b q e. (two.high a b e, join q.1 (step e (stop refl)))) white (yn, m.1) m.0))

    kept : (x : ℕ) → Seen s x → get_or (paint r o g) x 0 ≡ get_or g x 0
    kept x h = paint-out r o g x (λ m. h (out-was second x m))

    module _ (room : length g ≡ n) where
      given : (x : ℕ) → x < n → Memᴰ x o → get_or (paint r o g) x 0 ≡ r
      given x xn m = paint-in r o g x (rw room xn) m

      pub halfway-new : Halfway es n (r ∷ k) s' (paint r o g)
      halfway-new = record {
        listed = λ x m. ⊎_elim (λ e. us-seen second x (Memᴰ.head e)) (λ m'. grows second x (was.listed x m')) (Memᴰ.cases_cons m);
        own = λ x xn h. dite (ℕ_discrete (get_or s x 0) 0)
            (λ z. let m = out-all second x z h in rw (given x xn m) (in_group x m))
            (λ h'. rw (kept x h') (was.own x xn h'));
        whole = λ x y xn yn h m. dite (ℕ_discrete (get_or s x 0) 0)
            (λ z. let i = out-all second x z h in
            let j = whole-group y yn (mutual-trans (mutual-sym m) (in_group x i)) in
            (out-is second y j, given y yn j ∙ sym (given x xn i)))
            (λ h'. let w = was.whole x y xn yn h' m in (grows second y w.0, kept y w.0 ∙ w.1 ∙ sym (kept x h')));
      }
