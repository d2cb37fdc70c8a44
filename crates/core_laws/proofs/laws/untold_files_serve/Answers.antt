use Rattle.core_laws.proofs.Reading.{untold_never_stuck, reading_keeps, untold_step_keeps, untold_finished_is_legal, untold_begins}
use Rattle.core_laws.proofs.laws.untold_files_serve.Goals as goal

pub returns : goal.returns
returns g c = record { begins = untold_begins; stuck = untold_never_stuck; reading = reading_keeps; steps = untold_step_keeps; legal = untold_finished_is_legal }
