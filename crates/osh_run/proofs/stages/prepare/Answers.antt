use Rattle.std.proofs.Common.{Err, ap, ◌∙◌, arith}
use Rattle.flow_graph.specs.declared.flow.Flow.{Flow}
use Rattle.osh_run.proofs.Stopping.{inputs_from, missing_stops}
use Rattle.osh_run.proofs.stages.prepare.Goals as goal

pub returns-in-Ok-find_inputs-clause-inputs : goal.returns-in-Ok-find_inputs-clause-inputs
returns-in-Ok-find_inputs-clause-inputs g c =
    let listed = c.as_slice.ensures ∙ ap (λ (f : Flow). f.ops) c.flow.ensures in
    inputs_from _ _ _ _ _ _ _ c.shape_on.ensures.same listed c.in-Ok-find_inputs.ensures.inputs

pub returns-in-Err-Absent-clause-stops : goal.returns-in-Err-Absent-clause-stops
returns-in-Err-Absent-clause-stops g c = λ tells.
    let found = c.find_inputs.ensures.absent tells c.in-Err-Absent.name (c.in-Err-Absent.is ∙ ap (λ fault. Err fault) c.in-Err-Absent.field-0-is) in
    let same = c.shape_on.ensures.same in
    let ops = c.as_slice.ensures in
    let flow = c.flow.ensures in
    missing_stops (g.F.Files.holds c.args.files.now) c.args.flow.now c.args.config.now c.in-Ok.shape.0 c.in-Ok.shape.1 c.in-Err-Absent.name (c.in-Ok.ensures.found tells)
    (grind (arith, found, same, ops, flow))
