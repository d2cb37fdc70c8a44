use Rattle.op_lookup.proofs.Feeding.{main_port, stands-reference_end, stands-main_end}
use Rattle.op_lookup.proofs.looker.LookupOperator.end.Goals as goal

pub returns-then-port-eq1-clause-stands : goal.returns-then-port-eq1-clause-stands
returns-then-port-eq1-clause-stands c = λ feeds stands. stands-reference_end c.args.self.now.columns.reference.items c.args.self.now.columns.others.items _ _ _ feeds c.args.port c.if-port-eq1.true stands

pub returns-else-port-eq1-clause-stands : goal.returns-else-port-eq1-clause-stands
returns-else-port-eq1-clause-stands c = λ feeds stands. stands-main_end c.args.self.now.columns.reference.items c.args.self.now.columns.others.items _ _ _ feeds c.args.port (main_port c.requires.feeds c.args.port c.requires.wanted c.if-port-eq1.false) stands
