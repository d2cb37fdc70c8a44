use Rattle.std.proofs.Common.{ap, map, string_bytes, ◌⊎◌}
use Rattle.ds_port.specs.Causes.{Rose}
use Rattle.osh.proofs.Ending.{runs_complete, runs_exact, said_calls}
use Rattle.osh.proofs.Saying.{said_says}
use Rattle.osh.proofs.Words.{words_decide}
use Rattle.osh.proofs.still.osh_still.Goals as goal

pub returns-clause-calls : goal.returns-clause-calls
returns-clause-calls g c = λ tells.
    said_calls (map string_bytes c.args.words.now) (g.F.Files.holds c.args.files.now) (g.F.Files.holds c.serve-answer.new.files) g.O.Sink.tells _ _ _ _ g.E.Sink.tells _ _ _ _
    c.serve-answer.result c.say-said.result c.status.result (c.serve-answer.ensures.serves tells) c.say-said.ensures.said c.status.ensures c.say-said.ensures.line

pub returns-clause-exact : goal.returns-clause-exact
returns-clause-exact g c = λ tells.
    let call = returns-clause-calls g c tells in
    runs_exact (map string_bytes c.args.words.now) (g.F.Files.holds c.args.files.now) (g.F.Files.holds c.serve-answer.new.files) g.O.Sink.tells _ _ _ _ (call.0) c.status.result c.one_status.ensures (call.1)

pub returns-clause-complete : goal.returns-clause-complete
returns-clause-complete g c = λ tells.
    let call = returns-clause-calls g c tells in
    runs_complete (map string_bytes c.args.words.now) (g.F.Files.holds c.args.files.now) (g.F.Files.holds c.serve-answer.new.files) g.O.Sink.tells _ _ _ _ (call.0) c.status.result c.one_status.ensures (call.1)

pub returns-clause-words : goal.returns-clause-words
returns-clause-words g c =
    words_decide (map string_bytes c.args.words.now) c.serve-answer.result c.say-said.result c.status.result c.serve-answer.ensures.none c.serve-answer.ensures.only c.serve-answer.ensures.unbuilt c.say-said.ensures.said c.status.ensures

pub returns-clause-says : goal.returns-clause-says
returns-clause-says g c =
    said_says c.serve-answer.result c.say-said.result c.status.result _ _ c.say-said.ensures.said c.status.ensures (λ s. ap g.O.Sink.held (c.serve-answer.ensures.silent s)) c.say-said.ensures.line
