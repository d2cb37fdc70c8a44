use Rattle.std.proofs.Common.{◌≡◌, take}
use Rattle.osh_value.specs.Kinds.{results_of}
use Rattle.osh_value.proofs.setting.results.Given as goal

abbrev pub invariant-loop-setting : goal.invariant-loop-setting
invariant-loop-setting l = l.found ≡ results_of (take l.setting-index l.settings)
