use Rattle.std.proofs.Common.{◌≡◌, ◌++◌, drop}
use Rattle.std.specs.Prelude.{codes}
use Rattle.std.specs.List.{flat_map}
use Rattle.ds_schema.specs.ColumnText.{names_text}
use Rattle.ds_schema.proofs.column_lists.printing.print_names.Given as goal

-- the text so far and the names that are left are the text of all
abbrev pub invariant-loop-name : goal.invariant-loop-name
invariant-loop-name l = l.text ++ flat_map (λ other. codes "," ++ other) (drop l.name-index l.others) ≡ names_text l.names
