-- The report of an input of which only the front was read. Assumes nothing.
use Rattle.std.proofs.Common.{◌≡◌, ℕ, ◌<◌, ◌≤◌, List, ◌++◌, inl, inr, Some, None, Ok, Err, IfSome, OnOk, arith, length, take, length-append, length-take-le, append-nil, sym, ap, ◌∙◌, subst}
use Rattle.std.proofs.lemmas.Bool.{cases_lt, lt-ltb}
use Rattle.std.specs.Io.KnownBytes.{Consumes, IsAtEnd}
use Rattle.std.specs.declared.option.Option.{Option}
use Rattle.std.specs.declared.result.Result.{Result}
use Rattle.input.specs.Reading.{Filled}
use Rattle.rules.specs.Text.{max_text, read_scene}
use Rattle.rules.specs.declared.answers.RefusalKind.TheVariants.{TextNotInForm}
use Rattle.rules.specs.Report.{report_of, refusal_text, ReportCall}
use Rattle.rules.proofs.Written.{written-front}
use Rattle.report.specs.Run.{IsReport}

-- a text of more bytes than the limit is refused, whatever they are
report_of-long : (xs : List ℕ) → max_text < length xs → report_of xs ≡ refusal_text (record { kind = TextNotInForm; place = 0 })
unfolding report_of read_scene
report_of-long xs h = rw (lt-ltb max_text (length xs) h)

-- so that what stands behind so many changes nothing
report_of-longer : (xs ys : List ℕ) → max_text < length xs → report_of (xs ++ ys) ≡ report_of xs
report_of-longer xs ys h = report_of-long (xs ++ ys) (omega (arith, length-append xs ys)) ∙ sym (report_of-long xs h)

-- n bytes were read, and fewer than there is room for only where no more came: their report is that of the input
pub report_of-input : (before after : Option (List ℕ)) (space : List ℕ) (n : ℕ)
    → n ≤ length space → max_text < length space → Consumes before after (take n space) → (n < length space → IsAtEnd after)
    → IfSome before (λ xs. report_of (take n space) ≡ report_of xs)
report_of-input None after space n fits room read end = tt
report_of-input (Some xs) None space n fits room read end = absurd read
report_of-input (Some xs) (Some ys) space n fits room read end =
    let front = take n space in
    sym (elim (cases_lt n (length space)) [
      | inl more ↦ ap report_of (read ∙ ap (λ l. front ++ l) (end more) ∙ append-nil front)
      | inr full ↦ ap report_of read ∙ report_of-longer front ys (omega (arith, length-take-le n space fits))
    ])

-- what is made of what was read is the report of the input
pub is_report : {S : Type 0} (remaining : S → Option (List ℕ)) (input after : S) (held space out made : List ℕ) (n size : ℕ)
    → Filled (remaining input) (remaining after) held space n → max_text < length space → (n < length space → IsAtEnd (remaining after))
    → ReportCall (take n space) out made size → IsReport remaining input (take size made)
is_report remaining input after held space out made n size filled room end call =
    let text = take n space in
    let same : take size made ≡ report_of text = ap (take size) call.content ∙ written-front out (report_of text) size (sym call.counted) in
    (text, same, subst (λ l. IfSome (remaining input) (λ xs. l ≡ report_of xs)) (sym same) (report_of-input (remaining input) (remaining after) space n filled.fits room filled.bytes end))

pub on_ok_both : {A E P Q R : Type 0} (r : Result A E) → OnOk r P → OnOk r Q → (P → Q → R) → OnOk r R
on_ok_both (Ok x) p q f = f p q
on_ok_both (Err e) p q f = tt
