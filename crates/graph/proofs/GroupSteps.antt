-- What `collect` makes of the groups given so far. Assumes nothing.
use mathlib.Core.List.{List, [], ◌∷◌, ◌++◌, append-nil}
use mathlib.Core.Path.{◌≡◌, refl, sym, ap, subst, ◌∙◌}
use Prim.Native.Nat.{ℕ, ◌<◌, ◌≤◌}
use native.Mathlib.Omega.{arith}
use lib.ListN.{length, get_or, set, length-set}
use Rattle.graph.specs.Adjacency.{neighbours}
use Rattle.graph.specs.Visits.{unseen, Dfs, done, skip, enter, Open, Collected, paint}
use Rattle.graph.proofs.Chains.{Passed, passed-more, passed-all}
use Rattle.graph.proofs.Visits.{unseen-mark, dfs-length, dfs-count, dfs-append}

paint-append : (root : ℕ) (vs ws group : List ℕ) → paint root (vs ++ ws) group ≡ paint root ws (paint root vs group)
unfolding paint
paint-append root [] ws group = refl
paint-append root (v ∷ vs) ws group = paint-append root vs ws (set group v root)

pub length-paint : (root : ℕ) (vs group : List ℕ) → length (paint root vs group) ≡ length group
unfolding paint
length-paint root [] group = refl
length-paint root (v ∷ vs) group = length-paint root vs (set group v root) ∙ length-set group v root

paint-last : (root : ℕ) (vs group : List ℕ) (u : ℕ) → set (paint root vs group) u root ≡ paint root (vs ++ (u ∷ [])) group
unfolding paint
paint-last root vs group u = sym (paint-append root vs (u ∷ []) group)

-- a gathering along the chain from f on, which is now at e
pub record Gathering (head next sinks s group : List ℕ) (root f : ℕ) (s' group' : List ℕ) (e : ℕ) : Type 0 where
  pub us : List ℕ
  pub passed : Passed next sinks us f e
  pub got : Collected head next sinks us s group root s' group'

pub gather_none : (head next sinks s group : List ℕ) (root f : ℕ) → Gathering head next sinks s group root f s group f
unfolding paint
gather_none head next sinks s group root f = record { us = []; passed = refl; got = record { out = []; dfs = done; painted = refl } }

-- collect at u, which was not seen
module _ {head next sinks s group : List ℕ} (now : Open head next sinks s group) (root u : ℕ) (l : u < length head) (new : get_or s u 0 ≡ 0) where
  in-marks : u < length s
  in-marks = omega (arith, now.linked.nodes)

  module _ (f : ℕ) {s' group' : List ℕ} (e : ℕ) (g : Gathering head next sinks (set s u 1) group root f s' group' e) where
    pub kept-marks : length s' ≡ length s
    kept-marks = dfs-length g.got.dfs ∙ length-set s u 1

    pub kept-groups : length group' ≡ length group
    kept-groups = ap length g.got.painted ∙ length-paint root g.got.out group

    pub fewer : unseen s' < unseen s
    fewer = omega (arith, dfs-count g.got.dfs, unseen-mark s u in-marks new)

    pub open-again : Open head next sinks s' group'
    open-again = record {
      linked = record { nodes = kept-marks ∙ now.linked.nodes; pairs = now.linked.pairs; rises = now.linked.rises; inside = now.linked.inside };
      room = kept-groups ∙ now.room;
    }

    pub gather-old : e < length next → (get_or s' (get_or sinks e 0) 0 ≡ 0 → ⊥) → Gathering head next sinks (set s u 1) group root f s' group' (get_or next e 0)
    gather-old lt n = record {
      us = g.us ++ (get_or sinks e 0 ∷ []);
      passed = passed-more next sinks g.us f e g.passed now.linked.rises lt;
      got = record { out = g.got.out; dfs = rw (← append-nil g.got.out) (dfs-append g.got.dfs (skip n done)); painted = g.got.painted };
    }

    pub gather-new : e < length next → {s'' group'' : List ℕ} → Collected head next sinks (get_or sinks e 0 ∷ []) s' group' root s'' group'' → Gathering head next sinks (set s u 1) group root f s'' group'' (get_or next e 0)
    gather-new lt d = record {
      us = g.us ++ (get_or sinks e 0 ∷ []);
      passed = passed-more next sinks g.us f e g.passed now.linked.rises lt;
      got = record {
        out = g.got.out ++ d.out;
        dfs = dfs-append g.got.dfs d.dfs;
        painted = d.painted ∙ ap (paint root d.out) g.got.painted ∙ sym (paint-append root g.got.out d.out group);
      };
    }

  pub gathered : {s' group' : List ℕ} (e : ℕ) → Gathering head next sinks (set s u 1) group root (get_or head u 0) s' group' e → length next ≤ e → Collected head next sinks (u ∷ []) s group root s' (set group' u root)
  gathered {s'} e g over = record {
    out = g.got.out ++ (u ∷ []);
    dfs = enter in-marks new (subst (λ us. Dfs (neighbours head next sinks) us (set s u 1) s' g.got.out) (passed-all next sinks g.us (get_or head u 0) e g.passed over) g.got.dfs) done;
    painted = ap (λ r. set r u root) g.got.painted ∙ paint-last root g.got.out group u;
  }
