use Rattle.osh_back.proofs.FlowsBack.{printed_back}
use Rattle.osh_back.proofs.printed_reads_back.Goals as goal

pub returns : goal.returns
returns c = printed_back
