use Rattle.std.proofs.Common.{refl}
use Rattle.flow_files.proofs.Growing.{one_is_least}
use Rattle.flow_files.proofs.tally.Tally.add.Goals as goal

pub returns : goal.returns
returns c = c.join.ensures _ refl (one_is_least c.args.fault)
