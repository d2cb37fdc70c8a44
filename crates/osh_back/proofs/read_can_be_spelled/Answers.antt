use Rattle.osh_back.proofs.ReadFlows.{read_spelled}
use Rattle.osh_back.proofs.read_can_be_spelled.Goals as goal

pub returns : goal.returns
returns c = read_spelled
