use Rattle.std.proofs.Common.{subst, sym}
use Rattle.ds_port.specs.Causes.{Rose}
use Rattle.flow_rules.specs.declared.verdict.Verdict.TheVariants.{Accepted}
use Rattle.flow_rules.specs.Verdicts.{IsVerdict}
use Rattle.run_finish.specs.Finished.{IsRun}
use Rattle.run_whole.proofs.Whole.{can_write, each_choice, ends_from, is_run}
use Rattle.run_whole.proofs.run_accepted.Goals as goal

pub finish_run-requires-clause-each : goal.finish_run-requires-clause-each
finish_run-requires-clause-each g c κs within = each_choice c.args.shaped.now c.args.choices.now c.args.nodes c.requires.ready

pub finish_run-requires-clause-can : goal.finish_run-requires-clause-can
finish_run-requires-clause-can g c κs within = can_write c.args.shaped.now c.args.choices.now c.args.nodes c.in-Ok.ran c.is_shaped.ensures c.requires.ready c.in-Ok.ensures.fit

pub returns-in-Ok-clause-ends : goal.returns-in-Ok-clause-ends
returns-in-Ok-clause-ends g c = λ tells states e.
    let old = g.F.Files.holds c.args.files.now in
    let mid = g.F.Files.holds c.feed.new.files in
    let shaped = c.args.shaped.now in
    let choices = c.args.choices.now in
    let verdict : IsVerdict shaped (Accepted states choices) = subst (IsVerdict shaped) e c.requires.verdict in
    let run = is_run old shaped states choices c.in-Ok.ran c.new-tally.result c.feed.new.tally c.new-tally.ensures (c.in-Ok.ensures.fed tells states verdict) in
    ends_from old mid (g.F.Files.holds c.finish_run.new.files) shaped c.args.nodes states choices g.O.Sink.tells (g.O.Sink.held c.args.out.now) (g.O.Sink.held c.finish_run.new.out)
    (g.F.Files.faults c.args.files.now) (g.F.Files.faults c.feed.new.files) (g.F.Files.faults c.finish_run.new.files) (Rose (g.O.Sink.faults c.args.out.now) (g.O.Sink.faults c.finish_run.new.out)) c.finish_run.result
    c.feed.ensures.same c.feed.ensures.cause.later
    (c.finish_run.ensures.ends tells states e (subst (λ m. IsRun m shaped states choices c.in-Ok.ran c.feed.new.tally) (sym c.feed.ensures.same) run))
