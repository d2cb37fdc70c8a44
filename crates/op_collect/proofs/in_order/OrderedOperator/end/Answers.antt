use Rattle.std.proofs.Common.{◌+◌, arith}
use Rattle.op_collect.proofs.Standing.{ordered_end, ordered_port}
use Rattle.op_collect.proofs.in_order.OrderedOperator.end.Goals as goal

pub returns-clause-stands : goal.returns-clause-stands
returns-clause-stands c = λ feeds stands.
    let self = c.args.self.now in
    let fed = ordered_port self.ports self.turn c.args._port c.requires.feeds c.requires.stands c.requires.wanted in
    ordered_end self.turn (self.turn + 1) feeds c.args._port (omega arith) fed.0 stands
