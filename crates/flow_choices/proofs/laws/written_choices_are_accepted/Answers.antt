use Rattle.flow_choices.proofs.Written.{written_accepted, written_runs, written_keeps}
use Rattle.flow_choices.proofs.laws.written_choices_are_accepted.Goals as goal

pub returns : goal.returns
returns c = record { accepted = written_accepted; runs = written_runs; keeps = written_keeps }
