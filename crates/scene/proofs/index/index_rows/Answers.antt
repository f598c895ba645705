-- The components are tested, then the connections. Assumes nothing.
use Rattle.std.proofs.Common.{rules, arith}
use mathlib.Core.Path.{◌≡◌}
use Rattle.std.specs.Prelude.{Err}
use Rattle.rules.specs.Lent.{components_lent}
use Rattle.scene.proofs.IndexSteps.{components-refused, ends-indexed}
use Rattle.scene.proofs.LookupSteps.{accepted-different}
use Rattle.scene.proofs.index.index_rows.Goals as goal

pub returns-in_err-check_components : goal.returns-in_err-check_components
returns-in_err-check_components c =
    let answer : c.from_residual.result ≡ Err c.in_err-check_components.field-0.0 = search rules in
    rw answer (components-refused _ _ _ _ c.in_err-check_components.ensures)

pub look_up_ends-requires : goal.look_up_ends-requires
look_up_ends-requires c = record {
  sorted = c.order_ids.ensures;
  different = accepted-different (components_lent c.args.scene.now.components) c.in_ok-check_components.ensures;
  sinks_length = c.requires.0.sinks_length;
  transfers_length = c.requires.0.transfers_length;
  starts_room = omega (arith, c.requires.0.connections_few, c.requires.1.starts_room);
  stops_room = omega (arith, c.requires.0.connections_few, c.requires.1.stops_room);
}

pub returns : goal.returns
returns c = ends-indexed _ _ _ _ _ _ c.in_ok-check_components.ensures c.order_ids.ensures c.look_up_ends.ensures
