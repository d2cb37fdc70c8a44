use Rattle.std.proofs.Common.{refl, sym, subst}
use Rattle.ds_port.specs.Causes.{Rose}
use Rattle.flow_rules.specs.Verdicts.{IsVerdict}
use Rattle.osh_call.specs.Answers.{Serves}
use Rattle.osh_ends.specs.Ends.{AcceptedRuns}
use Rattle.osh_run.proofs.Ready.{is_ready}
use Rattle.osh_run.proofs.Serving.{run_serves, seats_serve}
use Rattle.osh_run.proofs.seating.run_seated.Goals as goal

pub run_accepted-requires-clause-ready : goal.run_accepted-requires-clause-ready
run_accepted-requires-clause-ready g c κs within =
    is_ready c.args.shaped.now c.args.choices.now c.args.nodes c.in-Ok.players c.requires.accepted.0 c.flows_can_be_shaped.ensures.marks c.flows_can_be_shaped.ensures.forms c.requires.built c.requires.some
    (subst (IsVerdict c.args.shaped.now) c.requires.accepted.1 c.requires.verdict) c.in-Ok.ensures.seats

pub returns-in-Err-clause-serves : goal.returns-in-Err-clause-serves
returns-in-Err-clause-serves g c = λ tells.
    let old = g.F.Files.holds c.args.files.now in
    let held = g.O.Sink.held c.args.out.now in
    seats_serve old (g.F.Files.holds c.settle_inputs.new.files) c.args.shaped.now c.args.nodes c.args.verdict.now c.requires.accepted.0 c.args.choices.now g.O.Sink.tells held held _ _ c.in-Err.answer
    c.requires.accepted.1 c.in-Err.ensures.stops c.settle_inputs.ensures.same refl (λ e. absurd (c.in-Err.ensures.quiet e))

pub returns-clause-serves : goal.returns-clause-serves
returns-clause-serves g c = λ tells.
    let old = g.F.Files.holds c.args.files.now in
    let new = g.F.Files.holds c.run_accepted.new.files in
    let out_old = g.O.Sink.held c.args.out.now in
    let out_new = g.O.Sink.held c.run_accepted.new.out in
    let files_rose = Rose (g.F.Files.faults c.args.files.now) (g.F.Files.faults c.run_accepted.new.files) in
    let out_rose = Rose (g.O.Sink.faults c.args.out.now) (g.O.Sink.faults c.run_accepted.new.out) in
    let states = c.requires.accepted.0 in
    let is = c.requires.accepted.1 in
    subst (Serves (AcceptedRuns old c.args.shaped.now c.args.nodes c.args.verdict.now) old new g.O.Sink.tells out_old out_new files_rose out_rose) (sym c.answer_of.ensures.answer)
    (run_serves old new c.args.shaped.now c.args.nodes c.in-Ok.players c.args.verdict.now states c.args.choices.now g.O.Sink.tells out_old out_new files_rose out_rose c.run_accepted.result is c.in-Ok.ensures.seats (c.run_accepted.ensures.ends tells states is))
