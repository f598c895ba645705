-- The report stands at the front of `out`, and what was read of the input is enough for it. Assumes nothing.
use Rattle.std.proofs.Common.{inr, rules}
use Rattle.std.proofs.lemmas.Result.{IfErr-weaker}
use Rattle.report.proofs.Whole.{is_report, on_ok_both}
use Rattle.report.proofs.run.Goals as goal

pub returns-clause-written : goal.returns-clause-written
returns-clause-written g c =
    let printed = is_report g.S.Read.remaining _ _ _ _ _ _ _ _ c.in_ok-n.ensures.filled (search rules) c.in_ok-n.ensures.whole c.report_text-size.ensures in
    on_ok_both c.write_full.result c.write_full.ensures.took c.write_full.ensures.whole (λ took whole. (_, printed, took, whole))

pub returns-clause-failed : goal.returns-clause-failed
returns-clause-failed g c =
    let printed = is_report g.S.Read.remaining _ _ _ _ _ _ _ _ c.in_ok-n.ensures.filled (search rules) c.in_ok-n.ensures.whole c.report_text-size.ensures in
    IfErr-weaker c.write_full.result _ _ (λ e failed. inr (_, printed, failed.0, failed.1)) c.write_full.ensures.failed
