use Rattle.ds_text.proofs.Fronts.{plain_at}
use Rattle.ds_text.proofs.cell.plain_value.Goals as goal

pub returns-in-Ok-clause-found : goal.returns-in-Ok-clause-found
returns-in-Ok-clause-found c = plain_at _ _ c.args.field.now _ _ c.plain_len-len.ensures.len c.requires.plain c.plain_len-len.ensures.within c.in-Ok.ensures.found
