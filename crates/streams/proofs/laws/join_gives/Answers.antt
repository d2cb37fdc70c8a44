use Rattle.streams.proofs.Machines.{join_is}
use Rattle.streams.proofs.Joined.{join_gives}
use Rattle.streams.proofs.laws.join_gives.Goals as goal

pub returns : goal.returns
returns g c same itself alike cmp rule = (join_is same itself cmp rule, join_gives same itself alike cmp rule)
