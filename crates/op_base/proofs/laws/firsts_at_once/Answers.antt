use Rattle.op_base.proofs.AtOnce.{at_once_is}
use Rattle.op_base.proofs.laws.firsts_at_once.Goals as goal

pub returns : goal.returns
returns c = at_once_is
