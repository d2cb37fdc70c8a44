use Rattle.std.proofs.Common.{◌<◌, sym, subst}
use Rattle.op_collect.proofs.Standing.{gather_end, gather_port}
use Rattle.op_collect.proofs.any_order.GatherOperator.end.Goals as goal

pub returns-clause-stands : goal.returns-clause-stands
returns-clause-stands c = λ feeds stands.
    let self = c.args.self.now in
    gather_end self.over.items feeds c.args.port (subst (λ n. c.args.port < n) (sym self.each) (gather_port self.ports c.requires.feeds c.args.port c.requires.wanted)) stands
