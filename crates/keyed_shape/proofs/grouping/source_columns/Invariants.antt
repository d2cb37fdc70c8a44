use Rattle.std.proofs.Common.{◌≡◌, take}
use Rattle.keyed_shape.specs.Keyed.{source_columns}
use Rattle.keyed_shape.proofs.grouping.source_columns.Given as goal

abbrev pub invariant-loop-agg : goal.invariant-loop-agg
invariant-loop-agg l = l.cols ≡ source_columns (take l.agg-index l.results) l.fields
