use Rattle.std.proofs.Common.{subst}
use Rattle.osh_call.specs.Stages.{FileStops, NodesInStops}
use Rattle.osh_run.proofs.Stopping.{config_stops}
use Rattle.osh_run.proofs.stages.texts.Goals as goal

pub returns-in-Err-nodes_at-clause-stops : goal.returns-in-Err-nodes_at-clause-stops
returns-in-Err-nodes_at-clause-stops g c = λ tells.
    let config = c.args.config.now in
    let answer = c.in-Err-nodes_at.answer in
    config_stops (g.F.Files.holds c.args.files.now) c.args.flow.now config c.in-Ok.read answer (c.in-Ok.ensures.found tells)
    (subst (λ files. FileStops files config NodesInStops answer) c.flow_at.ensures.same (c.in-Err-nodes_at.ensures.stops tells))
