use Rattle.std.proofs.Common.{◌≡◌, drop}
use Rattle.osh_value.specs.Kinds.{found_value}
use Rattle.osh_value.proofs.setting.found_value.Given as goal

abbrev pub invariant-loop-setting : goal.invariant-loop-setting
invariant-loop-setting l = found_value l.opt (drop l.setting-index l.settings) ≡ found_value l.opt l.settings
