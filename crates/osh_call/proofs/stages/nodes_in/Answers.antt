use Rattle.osh_call.proofs.DefaultNodes.{nodes_in, some_nodes}
use Rattle.osh_call.proofs.stages.nodes_in.Goals as goal

pub returns-in-Ok-clause-nodes : goal.returns-in-Ok-clause-nodes
returns-in-Ok-clause-nodes c = nodes_in c.args.text.now c.in-Ok.config c.default_nodes.result c.in-Ok.ensures.spelled c.default_nodes.ensures

pub returns-in-Ok-clause-some : goal.returns-in-Ok-clause-some
returns-in-Ok-clause-some c = some_nodes c.args.text.now c.in-Ok.config c.default_nodes.result c.in-Ok.ensures.spelled c.default_nodes.ensures
