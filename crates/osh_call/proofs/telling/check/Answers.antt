use Rattle.std.proofs.Common.{◌∙◌, ap, refl, Err}
use Rattle.osh_ends.specs.Ends.{ChecksFile}
use Rattle.osh_call.proofs.Serving.{halts_serve, tells_serve, check_halts}
use Rattle.osh_call.proofs.telling.check.Goals as goal

pub returns-in-Err-clause-serves : goal.returns-in-Err-clause-serves
returns-in-Err-clause-serves g c = λ tells.
    halts_serve (ChecksFile (g.F.Files.holds c.args.files.now) c.args.name.now) (g.F.Files.holds c.args.files.now) (g.F.Files.holds c.shape_at.new.files) g.O.Sink.tells _ _ _ _ c.in-Err.answer
    (check_halts (g.F.Files.holds c.args.files.now) c.args.name.now c.in-Err.answer (c.in-Err.ensures.stops tells))
    c.shape_at.ensures.same refl (λ e. c.shape_at.ensures.cause.rose (c.in-Err.is ∙ ap Err e))

pub returns-in-Ok-judged-clause-serves : goal.returns-in-Ok-judged-clause-serves
returns-in-Ok-judged-clause-serves g c = λ tells.
    tells_serve (g.F.Files.holds c.args.files.now) (g.F.Files.holds c.shape_at.new.files) c.args.name.now _ _ g.O.Sink.tells _ _ _ _ _
    (c.in-Ok.ensures.found tells) c.in-Ok-judged.ensures c.shape_at.ensures.same c.tell.ensures.told
