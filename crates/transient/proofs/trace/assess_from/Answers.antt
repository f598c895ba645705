-- The trace is tested; its pulses are found and judged. Assumes nothing.
use Rattle.std.proofs.Common.{rules, arith, ◌≡◌, Err, length, refl, sym}
use lib.Seq.{length-take-le}
use Rattle.transient.proofs.Whole.{refused-call, accepted-few, row-inside, row-room, accepted-call}
use Rattle.transient.proofs.trace.assess_from.Goals as goal

pub returns-in_err-accepted-clause-assessed : goal.returns-in_err-accepted-clause-assessed
returns-in_err-accepted-clause-assessed c =
    let e : c.from_residual.result ≡ Err c.in_err-accepted.field-0.0 = search rules in
    rw e (refused-call c.args.start c.args.trace.now c.args.findings.now c.findings_room.ensures c.in_err-accepted.ensures.checked)

pub slice_bounds-order-end : goal.slice_bounds-order-end
slice_bounds-order-end c = omega (arith, accepted-few c.args.start c.args.trace.now c.args.findings.now c.findings_room.ensures c.in_ok-accepted.ensures.checked, c.sort_repeated.auto.order)

pub slice_bounds-row-end : goal.slice_bounds-row-end
slice_bounds-row-end c =
    let few = accepted-few c.args.start c.args.trace.now c.args.findings.now c.findings_room.ensures c.in_ok-accepted.ensures.checked in
    sym (length-take-le (length c.args.trace.now.events.components.now) _ (omega (arith, few, c.sort_repeated.auto.order)))

pub invariant_of-row : goal.invariant_of-row
invariant_of-row c = record { inside = row-inside c.args.start c.args.trace.now c.args.findings.now c.findings_room.ensures c.in_ok-accepted.ensures.checked c.in_ok-accepted.ensures.trace c.sort_repeated.ensures refl refl }

pub write_findings-count-requires : goal.write_findings-count-requires
write_findings-count-requires c =
    row-room c.args.start c.args.trace.now c.args.findings.now c.findings_room.ensures c.in_ok-accepted.ensures.checked c.in_ok-accepted.ensures.trace c.sort_repeated.ensures refl refl

pub returns-clause-assessed : goal.returns-clause-assessed
returns-clause-assessed c =
    accepted-call c.args.start c.args.trace.now c.args.findings.now c.findings_room.ensures c.in_ok-accepted.ensures.checked c.in_ok-accepted.ensures.trace c.sort_repeated.ensures refl refl
    c.write_findings-count.ensures.listed c.write_findings-count.ensures.counted c.write_findings-count.ensures.tallied
