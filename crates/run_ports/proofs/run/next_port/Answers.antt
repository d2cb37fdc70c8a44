use Rattle.std.proofs.Common.{◌∙◌}
use Rattle.run_ports.proofs.Feeding.{picks_least}
use Rattle.run_ports.proofs.run.next_port.Goals as goal

pub returns-in_err-first_open-in-Any : goal.returns-in_err-first_open-in-Any
returns-in_err-first_open-in-Any g c = λ lists feeds ports stands left. picks_least _ (g.met.O.Operator.is_stream c.args.op.now) lists _ ports feeds left (c.in-Any.ensures feeds stands) _ (c.from_residual.ensures ∙ c.in_err-first_open-in-Any.ensures.place)

pub returns-in_ok-first_open-in-Any : goal.returns-in_ok-first_open-in-Any
returns-in_ok-first_open-in-Any g c = λ lists feeds ports stands left. picks_least _ (g.met.O.Operator.is_stream c.args.op.now) lists _ ports feeds left (c.in-Any.ensures feeds stands) _ c.in_ok-first_open-in-Any.ensures.place
