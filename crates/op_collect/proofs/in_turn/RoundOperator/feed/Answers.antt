use Rattle.std.proofs.Common.{◌+◌, arith}
use Rattle.op_collect.proofs.Standing.{round_row}
use Rattle.op_collect.proofs.in_turn.RoundOperator.feed.Goals as goal

pub returns-clause-stands : goal.returns-clause-stands
returns-clause-stands c = λ feeds stands. round_row c.args.self.now.over.items c.args.self.now.turn (c.args.port + 1) feeds c.args.port c.args.row (omega arith) stands
