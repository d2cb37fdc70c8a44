use Rattle.std.proofs.Common.{◌≡◌, take}
use Rattle.osh_value.specs.Kinds.{sets_of}
use Rattle.osh_value.proofs.setting.sets.Given as goal

abbrev pub invariant-loop-setting : goal.invariant-loop-setting
invariant-loop-setting l = l.found ≡ sets_of (take l.setting-index l.settings)
