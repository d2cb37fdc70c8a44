use Rattle.osh_run.proofs.Stopping.{shape_stops}
use Rattle.osh_run.proofs.stages.shape_on.Goals as goal

pub returns-in-Err-shaped-clause-stops : goal.returns-in-Err-shaped-clause-stops
returns-in-Err-shaped-clause-stops g c = λ tells.
    shape_stops (g.F.Files.holds c.args.files.now) c.args.flow.now c.args.config.now (c.in-Ok.texts.0) (c.in-Ok.texts.1) c.in-Err-shaped.answer (c.in-Ok.ensures.found tells) c.in-Err-shaped.ensures.stops
