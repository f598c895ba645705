-- A component goes behind the others. Assumes nothing.
use Rattle.std.proofs.Common.{◌<◌, [], ◌∷◌, ◌++◌, length, rules, arith, ap, ◌∙◌, w32, FitsSigned}
use mir.ValLaws.{to_z-of_z}
use Rattle.reader.specs.Readings.{component_of}
use Rattle.text.proofs.RowSteps.{ComponentsSized, components_counted, component_more}
use Rattle.text.proofs.rows.ComponentRows.push.Goals as goal

pub returns : goal.returns
returns c =
    let s = c.self.inside in
    let z : ComponentsSized s = record { ids = search rules; kinds = search rules; delays = search rules; locked = search rules; xs = search rules; ys = search rules; zs = search rules; len = search rules } in
    let below : s.len < 1927 = omega (arith, components_counted s z.ids z.len, ap length c.self.view_is) in
    let fx : FitsSigned w32 c.args.row.x = search rules in
    let fy : FitsSigned w32 c.args.row.y = search rules in
    let fz : FitsSigned w32 c.args.row.z = search rules in
    component_more s z (component_of c.args.row) below _ _ _ (to_z-of_z w32 c.args.row.x fx) (to_z-of_z w32 c.args.row.y fy) (to_z-of_z w32 c.args.row.z fz) ∙ ap (λ rs. rs ++ component_of c.args.row ∷ []) c.self.view_is
