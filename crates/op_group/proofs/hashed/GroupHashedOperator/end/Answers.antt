use Rattle.op_base.proofs.StandingLaws.{one_port_fed}
use Rattle.op_group.proofs.TableLaws.{HashedStands-end}
use Rattle.op_group.proofs.hashed.GroupHashedOperator.end.Goals as goal

pub returns-clause-stands : goal.returns-clause-stands
returns-clause-stands c = λ feeds stands. HashedStands-end c.args.self.now.keys c.args.self.now.aggs.items c.replace-table.new.dest.entries feeds c.args._port (one_port_fed c.requires.feeds c.args._port c.requires.wanted)
