use Rattle.flow_chains.proofs.Following.{combined_chain}
use Rattle.flow_chains.proofs.laws.combined_links_chain.Goals as goal

pub returns : goal.returns
returns c = combined_chain
