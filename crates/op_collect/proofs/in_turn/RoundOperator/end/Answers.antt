use Rattle.std.proofs.Common.{◌<◌, ◌+◌, arith, sym, subst}
use Rattle.op_collect.proofs.Standing.{round_end, round_port}
use Rattle.op_collect.proofs.in_turn.RoundOperator.end.Goals as goal

pub returns-clause-stands : goal.returns-clause-stands
returns-clause-stands c = λ feeds stands.
    let self = c.args.self.now in
    round_end self.over.items self.turn (c.args.port + 1) feeds c.args.port (omega arith) (subst (λ n. c.args.port < n) (sym self.each) (round_port self.ports c.requires.feeds c.args.port c.requires.wanted)) stands
