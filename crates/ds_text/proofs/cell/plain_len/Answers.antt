use Rattle.ds_text.proofs.Searches.{found_len, no_len}
use Rattle.ds_text.proofs.cell.plain_len.Goals as goal

pub returns-in-Some-clause-len : goal.returns-in-Some-clause-len
returns-in-Some-clause-len c = found_len c.args.delimiter c.in-Some.at c.args.bytes.now c.in-Some.ensures

pub returns-in-None-clause-len : goal.returns-in-None-clause-len
returns-in-None-clause-len c = no_len c.args.delimiter c.args.bytes.now c.in-None.ensures
