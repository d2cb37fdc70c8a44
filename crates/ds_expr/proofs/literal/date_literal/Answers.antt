use Rattle.std.proofs.Common.{◌∙◌, Err, ap}
use Rattle.ds_expr.proofs.Dates.{spelled_day, no_day}
use Rattle.ds_expr.proofs.literal.date_literal.Goals as goal

pub returns-in-Ok-clause-value : goal.returns-in-Ok-clause-value
returns-in-Ok-clause-value c = c.day_in.ensures ∙ spelled_day _ _ c.in-Ok.ensures.found

pub returns-in-Err-Bad-clause-value : goal.returns-in-Err-Bad-clause-value
returns-in-Err-Bad-clause-value c = no_day _ (c.in-Err-Bad.ensures.bad (ap Err c.in-Err-Bad.field-0-is))
