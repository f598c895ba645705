-- Within the limits no sum meets the cap: path sums are plain sums. Assumes nothing.
use mathlib.Core.Bool.{Bool, true, false, not, cond}
use mathlib.Core.List.Memᴰ
use mathlib.Core.List.{List, [], ◌∷◌, map, Memᴰ}
use mathlib.Core.Path.{◌≡◌, refl, subst}
use mathlib.Core.Logic.{◌⊎◌, inl, inr, ⊎_elim}
use Prim.Native.Nat.{ℕ, zero, suc, ◌-◌, ◌*◌, ◌≤◌, ◌<◌, min}
use native.Mathlib.Nat.{suc-mul}
use native.Mathlib.Omega.{arith}
use lib.Dec.{T, leb, ltb, leb→le, ltb→lt}
use lib.ListN.{length, get_or, length-map}
use Rattle.rules.specs.Lists.{any, keep}
use Rattle.rules.specs.Delay.{cap, saturating_add}
use Rattle.rules.specs.Kinds.{kind_table, kind_row, conductor, delay_by, component_delay}
use Rattle.rules.specs.Scene.{Component, id_of, has_id, by_id, delay_of, delay_at}
use Rattle.rules.specs.Graph.{Edge, ◌⟶◌}
use Rattle.rules.specs.Paths.{delay_sum, total, PathTo, only, then}
use Rattle.rules.specs.declared.kinds.KindDelay.{KindDelay}
use Rattle.rules.specs.declared.kinds.KindDelay.TheVariants.{Fixed, Own}
use Rattle.rules.specs.declared.kinds.KindRow.{KindRow}
use Rattle.rules.proofs.Lists.{passes, any-in}
use Rattle.rules.proofs.Distinct.{pigeon}
use Rattle.rules.proofs.Paths.{before, path-distinct}
use Rattle.rules.proofs.Scenes.{EndsListed}

-- a sum stops where the plain sum is above the cap, and nowhere else
pub capped-total : (d : ℕ → ℕ) (p : List ℕ) → delay_sum d p ≡ min cap (total d p)
unfolding delay_sum total saturating_add
capped-total d [] = omega arith
capped-total d (u ∷ p) = let ih = capped-total d p in omega arith

module _ (d : ℕ → ℕ) (k : ℕ) (each : (v : ℕ) → d v ≤ k) where
  pub total-bound : (p : List ℕ) → total d p ≤ length p * k
  unfolding total
  total-bound [] = omega arith
  total-bound (u ∷ p) = let ih = total-bound p in let h = each u in omega (arith, suc-mul (length p) k)

get_d-in : {A : Type 0} (l : List A) (i : ℕ) (d : A) → Memᴰ (get_or l i d) (d ∷ l)
get_d-in [] i d = Memᴰ.head refl
get_d-in (x ∷ l) zero d = Memᴰ.tail (Memᴰ.head refl)
get_d-in (x ∷ l) (suc i) d = ⊎_elim Memᴰ.head (λ m. Memᴰ.tail (Memᴰ.tail m)) (Memᴰ.cases_cons (get_d-in l i d))

-- the row's own number is no more than a delay word can say
abbrev fits : KindDelay → Bool
fits (Fixed n) = leb n 255
fits (Own n) = leb n 255

abbrev unfit : KindRow → Bool
unfit r = not (fits r.delay)

every-row-fits : (code : ℕ) → T (fits (kind_row code).delay)
unfolding kind_row any
every-row-fits code = passes (fits (get_or kind_table code conductor).delay) (λ t. any-in unfit (get_d-in kind_table code conductor) t)

by_row : (k : KindDelay) (word : ℕ) → T (fits k) → delay_by k word ≤ 255
unfolding delay_by
by_row (Fixed n) word t = leb→le n 255 t
by_row (Own n) word t = go (ltb word 256) (ltb→lt word 256)
  where
    go : (b : Bool) → (T b → word < 256) → cond b word n ≤ 255
    go true h = omega (arith, h tt)
    go false h = leb→le n 255 t

-- no component delays longer than 255
pub delay-bound : (cs : List Component) (v : ℕ) → delay_at cs v ≤ 255
unfolding delay_at by_id delay_of component_delay
delay-bound cs v = go (Memᴰ.cases_cons (get_d-in (map delay_of (keep (has_id v) cs)) 0 0))
  where
    found : ℕ
    found = get_or (map delay_of (keep (has_id v) cs)) 0 0

    go : (found ≡ 0) ⊎ Memᴰ found (map delay_of (keep (has_id v) cs)) → found ≤ 255
    go (inl e) = omega arith
    go (inr m) =
        let r = Memᴰ.of_map delay_of (keep (has_id v) cs) m in
        subst (λ n. n ≤ 255) r.2 (by_row (kind_row r.0.kind).delay r.0.delay (every-row-fits r.0.kind))

module _ (cs : List Component) (es : List Edge) (ends : EndsListed cs es) where
  listed : {v : ℕ} {p : List ℕ} → PathTo es v p → (x : ℕ) → Memᴰ x p → Memᴰ x (map id_of cs)
  listed P x m = let b = before es P x m in (ends (x ⟶ b.0) b.1).0

  -- before its last component a path has fewer components than the scene
  path-length : {v : ℕ} {p : List ℕ} → PathTo es v p → length p ≤ length cs - 1
  path-length (only h) = omega arith
  path-length (then {v} {u} {p} m s P) = omega (arith, pigeon (v ∷ u ∷ p) (map id_of cs) (path-distinct es (then m s P)) inside, length-map cs id_of)
    where
      inside : (x : ℕ) → Memᴰ x (v ∷ u ∷ p) → Memᴰ x (map id_of cs)
      inside x n = ⊎_elim (λ e. Memᴰ.cast e (ends (u ⟶ v) m).1) (listed (then m s P) x) (Memᴰ.cases_cons n)

  -- the largest path sum is that of all other components at 255 each
  pub path-total : {v : ℕ} {p : List ℕ} → PathTo es v p → total (delay_at cs) p ≤ (length cs - 1) * 255
  path-total {p = p} P = let h = path-length P in omega (arith, total-bound (delay_at cs) 255 (delay-bound cs) p)

  -- so for scenes of at most n components, with n - 1 times 255 within the cap, path sums are plain sums
  pub path-plain : (n : ℕ) → length cs ≤ n → (n - 1) * 255 ≤ cap → {v : ℕ} {p : List ℕ} → PathTo es v p → delay_sum (delay_at cs) p ≡ total (delay_at cs) p
  path-plain n h k {p = p} P = omega (arith, path-total P, capped-total (delay_at cs) p)
