-- The lists are the fields of the rows. Assumes nothing.
use Rattle.std.proofs.Common.{rules, ap, ◌∙◌}
use Rattle.rules.specs.Report.{component_fields}
use Rattle.text.proofs.RowSteps.{ComponentsSized, components_are}
use Rattle.text.proofs.rows.ComponentRows.lent.Goals as goal

pub returns : goal.returns
returns c =
    let z : ComponentsSized c.self.inside = record { ids = search rules; kinds = search rules; delays = search rules; locked = search rules; xs = search rules; ys = search rules; zs = search rules; len = search rules } in
    components_are c.self.inside z ∙ ap component_fields c.self.view_is
