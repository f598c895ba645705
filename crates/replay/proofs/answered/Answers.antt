-- The report stands at the front of `out`. Assumes nothing.
use Rattle.std.proofs.Common.{◌≡◌, Bool, true, false, take, refl, sym, ap, ◌∙◌}
use Rattle.std.specs.Bool.{IsTrue, MatchBool}
use Rattle.std.specs.Cmp.Lexicographic.{told_text}
use Rattle.rules.specs.Report.{report_of}
use Rattle.rules.proofs.Written.{written-front}
use Rattle.replay.proofs.answered.Goals as goal

told : {P : Type 0} (r : Bool) → MatchBool r P (P → ⊥) → (IsTrue r → P) × (P → IsTrue r)
told true h = (λ t. h, λ p. refl)
told false h = (λ t. cc, λ p. absurd (h p))

pub returns : goal.returns
returns c =
    let call = c.report_text-n.ensures in
    let n = c.report_text-n.result in
    let report = report_of c.args.text.now in
    let front : take n c.report_text-n.new.out ≡ report = ap (take n) call.content ∙ written-front c.args.out.now report n (sym call.counted) in
    told _ (told_text _ _ _ (rw front at c.eq.ensures))
