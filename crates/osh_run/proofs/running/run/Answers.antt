use Rattle.std.proofs.Common.{refl, ap, ◌∙◌, Err}
use Rattle.osh_call.proofs.Serving.{halts_serve}
use Rattle.osh_ends.specs.Ends.{RunsFile}
use Rattle.osh_run.proofs.Serving.{accepted_serves, refused_serves}
use Rattle.osh_run.proofs.running.run.Goals as goal

pub returns-in-Err-clause-serves : goal.returns-in-Err-clause-serves
returns-in-Err-clause-serves g c = λ tells.
    let old = g.F.Files.holds c.args.files.now in
    halts_serve (RunsFile old c.args.flow.now c.args.config.now) old (g.F.Files.holds c.prepare.new.files) g.O.Sink.tells _ _ _ _ c.in-Err.answer
    (c.in-Err.ensures.stops tells) c.prepare.ensures.same refl (λ e. c.prepare.ensures.cause.rose (c.in-Err.is ∙ ap Err e))

pub returns-in-Accepted-clause-serves : goal.returns-in-Accepted-clause-serves
returns-in-Accepted-clause-serves g c = λ tells.
    accepted_serves (g.F.Files.holds c.args.files.now) (g.F.Files.holds c.prepare.new.files) (g.F.Files.holds c.run_seated.new.files) c.args.flow.now c.args.config.now c.in-Ok.prepared.shaped c.in-Ok.prepared.nodes c.in-Ok-judged.verdict
    g.O.Sink.tells _ _ (g.F.Files.faults c.args.files.now) (g.F.Files.faults c.prepare.new.files) (g.F.Files.faults c.run_seated.new.files) _ c.run_seated.result
    c.prepare.ensures.same c.prepare.ensures.cause.later (c.in-Ok.ensures.found tells) (c.in-Ok.ensures.there tells) c.in-Ok-judged.ensures (c.run_seated.ensures.serves tells)

pub returns-clause-serves : goal.returns-clause-serves
returns-clause-serves g c = λ tells.
    refused_serves (g.F.Files.holds c.args.files.now) (g.F.Files.holds c.settle_inputs-in-Refused.new.files) c.args.flow.now c.args.config.now c.in-Ok.prepared.shaped c.in-Ok.prepared.nodes c.in-Ok-judged.verdict
    c.in-Refused.link c.in-Refused.need c.in-Refused.have g.O.Sink.tells _ _ _ _ c.tell.result c.in-Refused.is (c.in-Ok.ensures.found tells) (c.in-Ok.ensures.there tells) c.in-Ok-judged.ensures (c.settle_inputs-in-Refused.ensures.same ∙ c.prepare.ensures.same) c.tell.ensures.told
