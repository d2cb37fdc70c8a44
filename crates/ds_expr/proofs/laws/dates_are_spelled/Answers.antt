use Rattle.ds_expr.proofs.Dates.{dates_spelled}
use Rattle.ds_expr.proofs.laws.dates_are_spelled.Goals as goal

pub returns : goal.returns
returns c = dates_spelled
