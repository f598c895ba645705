-- The lists of the call give the report, or the call is refused. Assumes nothing.
use Rattle.std.proofs.Common.{refl, sym}
use Rattle.std.proofs.lemmas.Result.{err_from_is_err_and}
use Rattle.text.proofs.SceneReport.{scene_refused, scene_reported, scene_within, scene_room, fresh_lists, fresh-sized}
use Rattle.text.proofs.answer.put_scene.Goals as goal

pub returns-in_err-assessment : goal.returns-in_err-assessment
returns-in_err-assessment c =
    let p = err_from_is_err_and c.from_residual.result c.from_residual.ensures.1 in
    rw (p.1, p.2) (refl, scene_refused _ _ c.requires.fields_read fresh_lists fresh-sized _ _ c.assess_scene.ensures.assessed _ c.in_err-assessment.was)

pub put_report-requires-clause-within : goal.put_report-requires-clause-within
put_report-requires-clause-within c = scene_within _ _ c.requires.fields_read fresh_lists fresh-sized _ _ c.assess_scene.ensures.assessed _ c.in_ok-assessment.was

pub put_report-requires-clause-room : goal.put_report-requires-clause-room
put_report-requires-clause-room c = scene_room _ _ c.requires.fields_read fresh_lists fresh-sized _ _ c.assess_scene.ensures.assessed _ c.in_ok-assessment.was _ c.requires.fresh

pub returns : goal.returns
returns c = rw (sym (scene_reported _ _ c.requires.fields_read fresh_lists fresh-sized _ _ c.assess_scene.ensures.assessed _ c.in_ok-assessment.was)) c.put_report.ensures
