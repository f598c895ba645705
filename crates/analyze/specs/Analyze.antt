-- What the call asks of its two parts. Assumes nothing: these are definitions.
use Rattle.std.specs.Prelude.{List, ◌++◌, ℕ}
use Rattle.rules.specs.Analyze.{AnalyzeLists}
use Rattle.describe.specs.Rows.{description_room}
use Rattle.assess.specs.Ready.{assessment_room}

-- the shortest lengths of lists 0 to 8
abbrev pub analysis_room : AnalyzeLists → List ℕ
analysis_room o = description_room o.description ++ assessment_room o.assessment
