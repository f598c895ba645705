-- Strong connection is to be in one strongly connected component, and a mark is set exactly where a different node is in it. Assumes nothing.
use mathlib.Core.Bool.{Bool, not, cond, ◌&&◌}
use mathlib.Core.List.{List}
use mathlib.Core.Path.{◌≡◌, refl}
use Prim.Native.Nat.{ℕ, ◌<◌}
use lib.Dec.{T, T_not, not_T, eqb, eqb→eq}
use lib.ListN.{length, get_or}
use Rattle.rules.specs.Lists.{indices}
use Rattle.rules.specs.Graph.{Edge, strongly_connected, shares_component, shared_marks, stop, StrongComponent, OtherInComponent}
use Rattle.rules.proofs.Lists.{any-in, any_out, and_left, and_right, and_both, eq_test}
use Rattle.rules.proofs.Indices.{indices-below, below-indices, made-length, made_at}
use Rattle.rules.proofs.Reach.{join, connected→, →connected}

-- two nodes are strongly connected exactly if one strongly connected component has both
pub connected→component : (es : List Edge) (u v : ℕ) → T (strongly_connected es u v) → (member : ℕ → Bool) × StrongComponent es member × T (member u) × T (member v)
connected→component es u v t = (strongly_connected es u, component, →connected es u u (stop refl) (stop refl), t)
  where
    component : StrongComponent es (strongly_connected es u)
    component = record {
      joined = λ a b p q. join (connected→ es u a p).1 (connected→ es u b q).0;
      maximal = λ a b p there back. →connected es u b (join (connected→ es u a p).0 there) (join back (connected→ es u a p).1);
    }

pub component→connected : (es : List Edge) (u v : ℕ) (member : ℕ → Bool) → StrongComponent es member → T (member u) → T (member v) → T (strongly_connected es u v)
component→connected es u v member c p q = →connected es u v (c.joined u v p q) (c.joined v u q p)

module _ (es : List Edge) (n v : ℕ) where
  pub shares→ : T (shares_component es n v) → OtherInComponent es n v
  unfolding shares_component
  shares→ t =
      let r = any_out (λ w. not (eqb w v) && strongly_connected es v w) (indices n) t in
      let w = r.0 in
      let s = connected→ es v w (and_right (not (eqb w v)) (strongly_connected es v w) r.2) in
      record {
        other = w;
        node = indices-below n r.1;
        different = λ e. T_not (eqb w v) (and_left (not (eqb w v)) (strongly_connected es v w) r.2) (eq_test e);
        there = s.0;
        back = s.1;
      }

  pub →shares : OtherInComponent es n v → T (shares_component es n v)
  unfolding shares_component
  →shares o =
      let w = o.other in
      any-in (λ w. not (eqb w v) && strongly_connected es v w) (below-indices n o.node)
      (and_both (not (eqb w v)) _ (not_T (eqb w v) (λ t. o.different (eqb→eq w v t))) (→connected es v w o.there o.back))

-- a node's mark is 1 where it is shared, and 0 where not
-- there is a mark for each node: 1 where it is shared, and 0 where not
pub marks-length : (es : List Edge) (n : ℕ) → length (shared_marks es n) ≡ n
unfolding shared_marks
marks-length es n = made-length (λ v. cond (shares_component es n v) 1 0) n

pub marks-at : (es : List Edge) (n v : ℕ) → v < n → get_or (shared_marks es n) v 0 ≡ cond (shares_component es n v) 1 0
unfolding shared_marks
marks-at es n v h = made_at (λ v. cond (shares_component es n v) 1 0) n v 0 h
