-- A connection goes behind the others. Assumes nothing.
use Rattle.std.proofs.Common.{◌<◌, [], ◌∷◌, ◌++◌, length, rules, arith, ap, ◌∙◌}
use Rattle.reader.specs.Readings.{connection_of}
use Rattle.text.proofs.RowSteps.{ConnectionsSized, connections_counted, connection_more}
use Rattle.text.proofs.rows.ConnectionRows.push.Goals as goal

pub returns : goal.returns
returns c =
    let s = c.self.inside in
    let z : ConnectionsSized s = record { sources = search rules; sinks = search rules; transfers = search rules; len = search rules } in
    let below : s.len < 2730 = omega (arith, connections_counted s z.sources z.len, ap length c.self.view_is) in
    connection_more s z (connection_of c.args.row) below ∙ ap (λ rs. rs ++ connection_of c.args.row ∷ []) c.self.view_is
