use Rattle.osh_run.proofs.Ready.{each_choice}
use Rattle.osh_run.proofs.seating.seated.Goals as goal

pub seat-requires-clause-each : goal.seat-requires-clause-each
seat-requires-clause-each c = each_choice c.args.shaped.now c.args.choices.now (c.requires.0) (c.requires.1)
