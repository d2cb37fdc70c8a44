use Rattle.osh_call.proofs.Fronts.{nodes_have, nodes_have_none}
use Rattle.osh_call.proofs.stages.nodes_at.Goals as goal

pub returns-in-Ok-clause-found : goal.returns-in-Ok-clause-found
returns-in-Ok-clause-found g c = λ tells.
    nodes_have (g.F.Files.holds c.args.files.now) c.args.name.now c.in-Ok.text c.as_slice.result.now c.nodes_in.result c.as_slice.ensures (c.in-Ok.ensures.found tells) c.nodes_in.ensures.nodes

pub returns-in-Ok-clause-stops : goal.returns-in-Ok-clause-stops
returns-in-Ok-clause-stops g c = λ tells.
    nodes_have_none (g.F.Files.holds c.args.files.now) c.args.name.now c.in-Ok.text c.as_slice.result.now c.nodes_in.result c.as_slice.ensures (c.in-Ok.ensures.found tells) c.nodes_in.ensures.stops
