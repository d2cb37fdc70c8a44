use Rattle.std.proofs.Common.{arith}
use Rattle.osh_value.proofs.Sets.{sets_more}
use Rattle.osh_value.proofs.setting.sets.Goals as goal

pub loop-setting-preserved : goal.loop-setting-preserved
loop-setting-preserved c =
    sets_more c.args.settings.now c.loop-setting.setting-index c.setting-item.result _ _ (omega arith) c.setting-item.is c.loop-setting.invariant c.in_ok-append_set.ensures
