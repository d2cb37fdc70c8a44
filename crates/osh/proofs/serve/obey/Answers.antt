use Rattle.osh.proofs.Obeying.{check_serves, run_serves}
use Rattle.osh.proofs.Words.{check_built, run_built}
use Rattle.osh.proofs.serve.obey.Goals as goal

pub returns-in-Check-clause-serves : goal.returns-in-Check-clause-serves
returns-in-Check-clause-serves g c = λ tells.
    check_serves (g.F.Files.holds c.args.files.now) (g.F.Files.holds c.check.new.files) c.args.command.now c.in-Check.flow g.O.Sink.tells _ _ _ _ c.check.result c.in-Check.is (c.check.ensures.serves tells)

pub returns-then-serial-clause-serves : goal.returns-then-serial-clause-serves
returns-then-serial-clause-serves g c = λ tells.
    run_serves (g.F.Files.holds c.args.files.now) (g.F.Files.holds c.run.new.files) c.args.command.now c.in-Run.serial c.in-Run.cap c.in-Run.spill c.in-Run.flow c.in-Run.config
    g.O.Sink.tells _ _ _ _ c.run.result c.in-Run.is c.if-serial.true (c.run.ensures.serves tells)

pub returns-in-Check-clause-unbuilt : goal.returns-in-Check-clause-unbuilt
returns-in-Check-clause-unbuilt g c = λ u. check_built _ c.args.command.now c.in-Check.flow c.in-Check.is u

pub returns-then-serial-clause-unbuilt : goal.returns-then-serial-clause-unbuilt
returns-then-serial-clause-unbuilt g c = λ u. run_built _ c.args.command.now c.in-Run.serial c.in-Run.cap c.in-Run.spill c.in-Run.flow c.in-Run.config c.in-Run.is c.if-serial.true u
