use Rattle.op_collect.proofs.Means.{round_takes_turns}
use Rattle.op_collect.proofs.laws.round_takes_turns.Goals as goal

pub returns : goal.returns
returns c = round_takes_turns
