use Rattle.std.proofs.Common.{◌∙◌}
use Rattle.op_any.proofs.ByKind.{joins}
use Rattle.op_any.proofs.keyed.join_by.Goals as goal

pub returns-clause-stream : goal.returns-clause-stream
returns-clause-stream c =
    c.in_ok-op.ensures.stream ∙ joins c.args.kind c.args.parts.now c.args.widths.now c.in_ok-left.left c.in_ok-right.right c.width_of.result c.width_of-2.result c.in_ok-left.ensures c.in_ok-right.ensures c.width_of.ensures c.width_of-2.ensures
