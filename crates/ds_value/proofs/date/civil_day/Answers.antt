use Rattle.std.proofs.Common.{rules, ◌∙◌, ap, FitsSigned, w8, w16, w32, arith}
use Rattle.std.proofs.lemmas.Int.{to_z-of_z, to_z_pos}
use Rattle.jiff_core.specs.Date.{epoch_day}
use Rattle.ds_value.proofs.DateTexts.{civil_found}
use Rattle.ds_value.proofs.date.civil_day.Goals as goal

pub returns-in-Ok : goal.returns-in-Ok
returns-in-Ok c =
    let fits : FitsSigned w32 c.to_unix_epoch_day.result = search rules in
    let value = c.in-Ok.ensures.value in
    let low = c.requires.year in
    let month = c.requires.month in
    let day = c.requires.day in
    let found = civil_found c.args.year c.args.month c.args.day c.in-Ok.date (omega (arith, c.if-year-eq0.false)) (value.0 ∙ to_z_pos w16 c.args.year (omega arith)) (value.1 ∙ to_z_pos w8 c.args.month (omega arith)) (value.2 ∙ to_z_pos w8 c.args.day (omega arith)) in
    (found.0, to_z-of_z w32 c.to_unix_epoch_day.result fits ∙ (c.to_unix_epoch_day.ensures.value ∙ (ap epoch_day c.to_plain.ensures ∙ found.1)))
