use Rattle.flow_links.proofs.Linking.{shaped_is_linked}
use Rattle.flow_links.proofs.laws.outputs_are_linked.Goals as goal

pub returns : goal.returns
returns c = shaped_is_linked
