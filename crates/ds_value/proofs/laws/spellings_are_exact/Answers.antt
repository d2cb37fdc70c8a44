use Rattle.ds_value.proofs.Spellings.{spells_once, written_spells}
use Rattle.ds_value.proofs.laws.spellings_are_exact.Goals as goal

pub returns-clause-one : goal.returns-clause-one
returns-clause-one c = spells_once

pub returns-clause-written : goal.returns-clause-written
returns-clause-written c = written_spells
