use Rattle.std.proofs.Common.{◌∙◌}
use Rattle.op_any.proofs.ByKind.{groups}
use Rattle.op_any.proofs.keyed.group_by.Goals as goal

pub returns-in_ok-group_sorted-clause-stream : goal.returns-in_ok-group_sorted-clause-stream
returns-in_ok-group_sorted-clause-stream c = c.in_ok-group_sorted.ensures.stream ∙ groups _ _ _ _ _ c.in_ok-keys.ensures c.if-hash.false c.in_ok-aggs.ensures
