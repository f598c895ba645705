-- The columns of lists 3 and 8, as the definitions speak of them. Assumes nothing: these are definitions.
use Rattle.rules.specs.declared.lent.ReasonLists.{ReasonLists}
use Rattle.rules.specs.declared.lent.LabelLists.{LabelLists}
use Rattle.reasons.specs.Rows.{Columns, columns}
use Rattle.reasons.specs.Sums.{LabelColumns, label_columns}

abbrev pub reasons_lent : ReasonLists → Columns
reasons_lent x = columns x.kinds.now x.components.now x.blocks.now x.minimums.now x.maximums.now

abbrev pub labels_lent : LabelLists → LabelColumns
labels_lent x = label_columns x.settled.now x.lows.now x.highs.now
