use Rattle.osh_sound.proofs.OperatorsWritten.{written_says, written_printed}
use Rattle.osh_sound.proofs.operators_are_written.Goals as goal

pub returns-clause-says : goal.returns-clause-says
returns-clause-says c = written_says

pub returns-clause-printed : goal.returns-clause-printed
returns-clause-printed c = written_printed
