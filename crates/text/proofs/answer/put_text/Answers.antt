-- The text is refused, or its rows are lent. Assumes nothing.
use Rattle.std.proofs.Common.{refl}
use Rattle.std.proofs.lemmas.Result.{err_from_is_err_and}
use Rattle.text.proofs.AnswerSteps.{report_long, report_broken, fields_read, report_found}
use Rattle.text.proofs.answer.put_text.Goals as goal

pub returns-then-text-gt-MAX_TEXT : goal.returns-then-text-gt-MAX_TEXT
returns-then-text-gt-MAX_TEXT c = (refl, report_long _ c.if-text-gt-MAX_TEXT.true)

pub returns-in_err-read_scene : goal.returns-in_err-read_scene
returns-in_err-read_scene c =
    let p = err_from_is_err_and c.from_residual.result c.from_residual.ensures.1 in
    rw (p.1, p.2) (refl, report_broken _ c.if-text-gt-MAX_TEXT.false _ c.in_err-read_scene.ensures)

pub put_scene-requires-clause-fields_read : goal.put_scene-requires-clause-fields_read
put_scene-requires-clause-fields_read c =
    let h = c.in_ok-read_scene.ensures in rw (c.lent.ensures, c.lent-2.ensures) (fields_read _ c.if-text-gt-MAX_TEXT.false _ _ h.0 h.1)

pub returns : goal.returns
returns c =
    let h = c.in_ok-read_scene.ensures in
    rw (report_found _ c.if-text-gt-MAX_TEXT.false _ _ h.0 h.1) (rw (c.lent.ensures, c.lent-2.ensures) at c.put_scene.ensures)
