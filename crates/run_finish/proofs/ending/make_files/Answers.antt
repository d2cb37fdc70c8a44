use Rattle.std.proofs.Common.{inl, map}
use Rattle.flow_outputs.specs.Outputs.{MakesSome, file_from}
use Rattle.run_finish.proofs.Closing.{an_err, on_err, some_left}
use Rattle.run_finish.proofs.ending.make_files.Goals as goal

pub returns-then-is_err-clause-delivers : goal.returns-then-is_err-clause-delivers
returns-then-is_err-clause-delivers g c = λ tells.
    let all = map (λ o. file_from (g.F.Output.Sink.name o) (g.F.Output.Sink.held o)) c.args.outputs.items in
    let e = c.if-is_err.ensures.value in
    let made : MakesSome (g.F.Files.holds c.args.files.now) (g.F.Files.holds c.commit_all.new.files) all = on_err c.commit_all.result (MakesSome (g.F.Files.holds c.args.files.now) (g.F.Files.holds c.commit_all.new.files) all) e (c.commit_all.ensures.err tells) in
    let left = some_left (g.F.Files.holds c.args.files.now) (g.F.Files.holds c.commit_all.new.files) all g.O.Sink.tells (g.O.Sink.held c.args.out.now) made in
    inl (left.0, left.1, left.2, left.3, left.4, c.commit_all.ensures.cause.rose (an_err c.commit_all.result e))
