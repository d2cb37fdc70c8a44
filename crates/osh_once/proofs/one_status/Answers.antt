use Rattle.osh_once.proofs.Commands.{all_one}
use Rattle.osh_once.proofs.one_status.Goals as goal

pub returns : goal.returns
returns c = all_one
