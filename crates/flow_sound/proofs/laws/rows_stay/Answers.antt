use Rattle.flow_sound.proofs.RowsStaying.{keyed_rows_stay, rows_stay}
use Rattle.flow_sound.proofs.laws.rows_stay.Goals as goal

pub returns-clause-by_row : goal.returns-clause-by_row
returns-clause-by_row c = rows_stay

pub returns-clause-by_key : goal.returns-clause-by_key
returns-clause-by_key c = keyed_rows_stay
