use Rattle.ds_schema.proofs.ColumnLists.{one_names, one_keys}
use Rattle.ds_schema.proofs.column_lists.laws.one_list_is_spelled.Goals as goal

pub returns-clause-names : goal.returns-clause-names
returns-clause-names c = one_names

pub returns-clause-keys : goal.returns-clause-keys
returns-clause-keys c = one_keys
