-- The texts of reasons and labels in the parts in which they are put. Assumes nothing.
use Rattle.std.proofs.Common.{◌≡◌, ℕ, zero, suc, ◌<◌, List, ◌++◌, Result, Ok, Err, get_or, refl, sym, ap, subst, arith}
use Rattle.std.specs.Result.{result_unwrap_or}
use Rattle.std.proofs.lemmas.List.{append_assoc}
use Rattle.std.proofs.lemmas.Bool.{eq-eqb, ne_eqb}
use Rattle.rules.specs.Bytes.{bytes, decimal}
use Rattle.rules.specs.Text.{field_line}
use Rattle.rules.specs.Report.{number_line, ids_text, reason_line, label_lines}
use Rattle.rules.specs.Decoded.{ReadsReasonKind}
use Rattle.rules.specs.declared.kinds.UnknownCode.{UnknownCode}
use Rattle.rules.specs.declared.answers.ReasonKind.{ReasonKind}
use Rattle.rules.specs.declared.answers.ReasonKind.TheVariants.{UnequalReconvergentDelay, FeedbackLoop, StatefulOrMechanicalDevice, LockedRepeater}
use Rattle.text.specs.ReportLists.{reason_of, reason_row, label_of, label_row}

-- the kind that a code is read as, and is printed as: the last, where it is none of theirs
abbrev pub Numbered : ReasonKind → ℕ → Type 0
Numbered UnequalReconvergentDelay n = n ≡ 0
Numbered FeedbackLoop n = n ≡ 1
Numbered StatefulOrMechanicalDevice n = n ≡ 2
Numbered LockedRepeater n = 2 < n

known : (n : ℕ) (kind : ReasonKind) → ReadsReasonKind n (Ok kind) → Numbered kind n
known zero kind e = let same : UnequalReconvergentDelay ≡ kind = cc in subst (λ k. Numbered k 0) same refl
known (suc zero) kind e = let same : FeedbackLoop ≡ kind = cc in subst (λ k. Numbered k 1) same refl
known (suc (suc zero)) kind e = let same : StatefulOrMechanicalDevice ≡ kind = cc in subst (λ k. Numbered k 2) same refl
known (suc (suc (suc zero))) kind e = let same : LockedRepeater ≡ kind = cc in subst (λ k. Numbered k 3) same (omega arith)
known (suc (suc (suc (suc n)))) kind e = cc

unknown : (n : ℕ) (u : UnknownCode) → ReadsReasonKind n (Err u) → 2 < n
unknown zero u e = cc
unknown (suc zero) u e = cc
unknown (suc (suc zero)) u e = cc
unknown (suc (suc (suc n))) u e = omega arith

kind_read : (n : ℕ) (r : Result ReasonKind UnknownCode) (kind : ReasonKind) → ReadsReasonKind n r → kind ≡ result_unwrap_or r LockedRepeater → Numbered kind n
kind_read n (Ok k) kind h e = subst (λ k. Numbered k n) (sym e) (known n k h)
kind_read n (Err u) kind h e = subst (λ k. Numbered k n) (sym e) (unknown n u h)

-- a reason by its kind
module _ (ids kinds components minimums maximums : List ℕ) (k : ℕ) (r : Result ReasonKind UnknownCode) (h : ReadsReasonKind (get_or kinds k 0) r) where
  pub reason_unequal : UnequalReconvergentDelay ≡ result_unwrap_or r LockedRepeater
      → reason_row ids kinds components minimums maximums k ≡ (bytes "reason=unequal:" ++ decimal (get_or components k 0)) ++ ((bytes ":" ++ decimal (get_or minimums k 0)) ++ number_line (bytes ":") (get_or maximums k 0))
  unfolding reason_row reason_line reason_of
  reason_unequal e = rw (eq-eqb (get_or kinds k 0) 0 (kind_read _ r _ h e)) (simp append_assoc)

  pub reason_feedback : FeedbackLoop ≡ result_unwrap_or r LockedRepeater → reason_row ids kinds components minimums maximums k ≡ field_line (bytes "reason=feedback:") (ids_text ids)
  unfolding reason_row reason_line reason_of
  reason_feedback e = let code : get_or kinds k 0 ≡ 1 = kind_read _ r _ h e in rw code

  pub reason_stateful : StatefulOrMechanicalDevice ≡ result_unwrap_or r LockedRepeater → reason_row ids kinds components minimums maximums k ≡ number_line (bytes "reason=stateful:") (get_or components k 0)
  unfolding reason_row reason_line reason_of
  reason_stateful e = let code : get_or kinds k 0 ≡ 2 = kind_read _ r _ h e in rw code

  pub reason_locked : LockedRepeater ≡ result_unwrap_or r LockedRepeater → reason_row ids kinds components minimums maximums k ≡ number_line (bytes "reason=locked:") (get_or components k 0)
  unfolding reason_row reason_line reason_of
  reason_locked e =
      let past : 2 < get_or kinds k 0 = kind_read _ r _ h e in
      rw (ne_eqb (get_or kinds k 0) 0 (λ e. omega arith), ne_eqb (get_or kinds k 0) 1 (λ e. omega arith), ne_eqb (get_or kinds k 0) 2 (λ e. omega arith))

-- a label by its settled flag
module _ (ids settled lows highs : List ℕ) (k : ℕ) where
  pub label_unsettled : get_or settled k 0 ≡ 0 → label_row ids settled lows highs k ≡ number_line (bytes "component=") (get_or ids k 0) ++ bytes "label=unsettled\n"
  unfolding label_row label_lines label_of
  label_unsettled e = rw (eq-eqb (get_or settled k 0) 0 e)

  pub label_between : (get_or settled k 0 ≡ 0 → ⊥)
      → label_row ids settled lows highs k ≡ number_line (bytes "component=") (get_or ids k 0) ++ ((bytes "label=" ++ decimal (get_or lows k 0)) ++ number_line (bytes ",") (get_or highs k 0))
  unfolding label_row label_lines label_of
  label_between n =
      rw (ne_eqb (get_or settled k 0) 0 n)
      (ap (λ l. number_line (bytes "component=") (get_or ids k 0) ++ (bytes "label=" ++ l)) (append_assoc (decimal (get_or lows k 0)) (bytes "," ++ decimal (get_or highs k 0)) (bytes "\n")))
