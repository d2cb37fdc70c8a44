use Rattle.std.proofs.Common.{◌≡◌, ◌++◌, codes, take}
use Rattle.std.specs.List.{flat_map}
use Rattle.flow_score.specs.Texts.{column_name}
use Rattle.flow_score.proofs.columns.put_further_columns.Given as goal

abbrev pub invariant-loop-column : goal.invariant-loop-column
invariant-loop-column l = l.text ≡ l.fn.text ++ flat_map (λ c. codes "," ++ column_name l.fields c) (take l.column-index l.columns)
