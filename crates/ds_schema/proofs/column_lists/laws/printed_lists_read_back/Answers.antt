use Rattle.ds_schema.proofs.ColumnsPrinted.{names_read_back, keys_read_back}
use Rattle.ds_schema.proofs.column_lists.laws.printed_lists_read_back.Goals as goal

pub returns-clause-names : goal.returns-clause-names
returns-clause-names c = names_read_back

pub returns-clause-keys : goal.returns-clause-keys
returns-clause-keys c = keys_read_back
