use Rattle.std.proofs.Common.{◌≡◌, ◌++◌, drop}
use Rattle.std.specs.Prelude.{codes}
use Rattle.std.specs.List.{flat_map}
use Rattle.ds_schema.specs.ColumnText.{key_text, keys_text}
use Rattle.ds_schema.proofs.column_lists.printing.print_keys.Given as goal

-- the text so far and the keys that are left are the text of all
abbrev pub invariant-loop-key : goal.invariant-loop-key
invariant-loop-key l = l.text ++ flat_map (λ other. codes "," ++ key_text other) (drop l.key-index l.others) ≡ keys_text l.keys
