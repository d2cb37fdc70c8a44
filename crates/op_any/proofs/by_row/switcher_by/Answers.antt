use Rattle.std.proofs.Common.{◌∙◌}
use Rattle.op_any.proofs.ByKind.{switches}
use Rattle.op_any.proofs.by_row.switcher_by.Goals as goal

pub returns-clause-stream : goal.returns-clause-stream
returns-clause-stream c = c.in_ok-op.ensures.stream ∙ switches _ _ _ _ c.args.reject (c.in_ok-on.ensures ∙ c.first_expr.ensures) (c.into_vec.ensures ∙ c.in_ok-numbers.ensures)
