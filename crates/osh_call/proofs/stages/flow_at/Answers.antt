use Rattle.osh_call.proofs.Fronts.{flow_has, flow_has_none}
use Rattle.osh_call.proofs.stages.flow_at.Goals as goal

pub returns-in-Ok-clause-found : goal.returns-in-Ok-clause-found
returns-in-Ok-clause-found g c = λ tells.
    flow_has (g.F.Files.holds c.args.files.now) c.args.name.now c.in-Ok.text c.as_slice.result.now c.flow_in.result c.as_slice.ensures (c.in-Ok.ensures.found tells) c.flow_in.ensures.flow

pub returns-in-Ok-clause-stops : goal.returns-in-Ok-clause-stops
returns-in-Ok-clause-stops g c = λ tells.
    flow_has_none (g.F.Files.holds c.args.files.now) c.args.name.now c.in-Ok.text c.as_slice.result.now c.flow_in.result c.as_slice.ensures (c.in-Ok.ensures.found tells) c.flow_in.ensures.stops
