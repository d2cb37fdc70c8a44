use Rattle.osh_value.proofs.ValuesSpelled.{answer_found}
use Rattle.osh_value.proofs.value.value_of.Goals as goal

pub returns-clause-spelled : goal.returns-clause-spelled
returns-clause-spelled c = answer_found c.read.result c.args.form c.args.bytes.now c.read.ensures
