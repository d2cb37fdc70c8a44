use Rattle.std.proofs.Common.{rules, FitsSigned, w32}
use Rattle.std.proofs.lemmas.Int.{to_z-of_z}
use Rattle.ds_value.proofs.DateTexts.{spelled_in_range}
use Rattle.ds_value.proofs.text.read_text.Goals as goal

pub returns-in-Some-read_date-clause-found : goal.returns-in-Some-read_date-clause-found
returns-in-Some-read_date-clause-found c =
    let fits : FitsSigned w32 c.in-Some-read_date.day = search rules in
    rw (to_z-of_z w32 c.in-Some-read_date.day fits, c.in-Date.is) (record { form = c.in-Some-read_date.ensures; fits = spelled_in_range c.args.bytes.now c.in-Some-read_date.day c.in-Some-read_date.ensures })
