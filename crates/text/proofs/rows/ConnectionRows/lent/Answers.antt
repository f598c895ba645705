-- The lists are the fields of the rows. Assumes nothing.
use Rattle.std.proofs.Common.{rules, ap, ◌∙◌}
use Rattle.rules.specs.Report.{connection_fields}
use Rattle.text.proofs.RowSteps.{ConnectionsSized, connections_are}
use Rattle.text.proofs.rows.ConnectionRows.lent.Goals as goal

pub returns : goal.returns
returns c =
    let z : ConnectionsSized c.self.inside = record { sources = search rules; sinks = search rules; transfers = search rules; len = search rules } in
    connections_are c.self.inside z ∙ ap connection_fields c.self.view_is
