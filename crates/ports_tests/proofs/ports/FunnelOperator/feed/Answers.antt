use Rattle.std.proofs.Common.{◌∙◌, sym}
use Rattle.op_base.proofs.StandingLaws.{ended-row}
use Rattle.ports_tests.proofs.ports.FunnelOperator.feed.Goals as goal

pub returns-clause-stands : goal.returns-clause-stands
returns-clause-stands c = λ feeds h. (h.0 ∙ sym (ended-row 0 feeds c.args._port c.args.row), h.1 ∙ sym (ended-row 1 feeds c.args._port c.args.row))
