use Rattle.op_row.proofs.Standing.{over-row}
use Rattle.op_row.proofs.copying.CopierOperator.feed.Goals as goal

pub returns-clause-stands : goal.returns-clause-stands
returns-clause-stands c = λ feeds stands. over-row _ feeds c.args._port c.args.row stands
