use Rattle.flow_graph.proofs.Widths.{result_wide}
use Rattle.flow_graph.proofs.laws.widths_are_kept.Goals as goal

pub returns : goal.returns
returns c = result_wide
