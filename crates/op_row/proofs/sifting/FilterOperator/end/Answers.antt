use Rattle.op_row.proofs.Standing.{over-end}
use Rattle.op_row.proofs.sifting.FilterOperator.end.Goals as goal

pub returns-clause-stands : goal.returns-clause-stands
returns-clause-stands c = λ feeds stands. over-end c.requires.feeds feeds c.args._port c.requires.wanted
