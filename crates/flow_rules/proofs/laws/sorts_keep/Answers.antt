use Rattle.flow_rules.proofs.FlowAll.{any_sorted_holds}
use Rattle.flow_rules.proofs.laws.sorts_keep.Goals as goal

pub returns : goal.returns
returns c = any_sorted_holds
