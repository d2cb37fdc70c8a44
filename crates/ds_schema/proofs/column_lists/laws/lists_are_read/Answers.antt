use Rattle.ds_schema.proofs.ColumnLists.{names_stand, keys_stand, standing_names, standing_keys}
use Rattle.ds_schema.proofs.column_lists.laws.lists_are_read.Goals as goal

pub returns-clause-names : goal.returns-clause-names
returns-clause-names g c = names_stand

pub returns-clause-standing_names : goal.returns-clause-standing_names
returns-clause-standing_names g c = standing_names

pub returns-clause-keys : goal.returns-clause-keys
returns-clause-keys g c = keys_stand

pub returns-clause-standing_keys : goal.returns-clause-standing_keys
returns-clause-standing_keys g c = standing_keys
