-- A connection is tested, then its ends are looked up. Assumes nothing.
use Rattle.std.proofs.Common.{rules}
use mathlib.Core.Path.{◌≡◌, sym, ◌∙◌}
use Rattle.std.specs.Prelude.{Some, None, Ok, Err, is_ok, false}
use Rattle.rules.specs.declared.answers.RefusalKind.TheVariants.{TransferOutOfRange, EndMissing}
use Rattle.rules.specs.Ordered.{position_of}
use Rattle.scene.proofs.ConnectionSteps.{no_transfer→out, refused-transfer, a-support, no_source, no-sink, both_ends}
use Rattle.scene.proofs.connections.look_up.Goals as goal

pub returns-in_err-transfer : goal.returns-in_err-transfer
returns-in_err-transfer c =
    let unread : is_ok c.try_from.result ≡ false = search rules in
    let answer : c.from_residual.result ≡ Err TransferOutOfRange = search rules in
    rw answer (refused-transfer _ _ _ _ (no_transfer→out _ _ c.try_from.ensures unread))

pub returns-then-eq : goal.returns-then-eq
returns-then-eq c =
    let read : c.try_from.result ≡ Ok c.in_ok-transfer.transfer = search rules in
    a-support _ _ _ _ _ (rw read at c.try_from.ensures) (sym c.eq.ensures ∙ c.if-eq.true)

pub returns-in_err-start : goal.returns-in_err-start
returns-in_err-start c =
    let read : c.try_from.result ≡ Ok c.in_ok-transfer.transfer = search rules in
    let missing : position_of c.args.index.now.ids.now c.args.source ≡ None = search rules in
    let answer : c.from_residual-in_err-start.result ≡ Err EndMissing = search rules in
    rw answer (no_source _ _ _ _ _ (rw read at c.try_from.ensures) (sym c.eq.ensures ∙ c.if-eq.false) missing)

pub returns-in_err-stop : goal.returns-in_err-stop
returns-in_err-stop c =
    let read : c.try_from.result ≡ Ok c.in_ok-transfer.transfer = search rules in
    let missing : position_of c.args.index.now.ids.now c.args.sink ≡ None = search rules in
    let answer : c.from_residual-in_err-stop.result ≡ Err EndMissing = search rules in
    rw answer (no-sink _ _ _ _ _ (rw read at c.try_from.ensures) (sym c.eq.ensures ∙ c.if-eq.false) missing)

pub returns : goal.returns
returns c =
    let read : c.try_from.result ≡ Ok c.in_ok-transfer.transfer = search rules in
    let source : position_of c.args.index.now.ids.now c.args.source ≡ Some c.in_ok-start.start = search rules in
    let sink : position_of c.args.index.now.ids.now c.args.sink ≡ Some c.in_ok-stop.stop = search rules in
    both_ends _ _ _ _ _ (rw read at c.try_from.ensures) (sym c.eq.ensures ∙ c.if-eq.false) _ _ source sink
