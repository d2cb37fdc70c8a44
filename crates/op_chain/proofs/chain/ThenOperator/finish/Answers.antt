use Rattle.streams.specs.Chains.{passed_on}
use Rattle.op_chain.proofs.BothStand.{passed_over}
use Rattle.op_chain.proofs.chain.ThenOperator.finish.Goals as goal

pub finish-requires-2 : goal.finish-requires-2
finish-requires-2 g c =
    let a = g.A.Operator.stream c.args.self.now.first in (
      passed_on a c.requires.0,
      c.requires.1.second,
      passed_over a (g.B.Operator.stream c.args.self.now.second) (g.met.A.Operator.is_stream c.args.self.now.first) c.requires.1.one_port c.requires.0 c.requires.2,
    )
