use Rattle.std.proofs.Common.{◌<◌, length, arith, ◌∙◌}
use Rattle.op_group.proofs.GiveLaws.{values_step}
use Rattle.op_group.proofs.giving.key_values.Goals as goal

pub loop-key-preserved : goal.loop-key-preserved
loop-key-preserved c =
    let lt : c.loop-key.key-index < length c.as_slice-keys.result.now = omega arith in
    c.in_ok-push.ensures.items ∙ values_step c.as_slice-keys.result.now c.loop-key.key-index _ c.args.row.now c.loop-key.values.items _ lt c.in_ok-key_value.ensures c.loop-key.invariant
