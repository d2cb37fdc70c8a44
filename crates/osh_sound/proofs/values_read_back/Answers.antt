use Rattle.osh_sound.proofs.ValuesBack.{values_back}
use Rattle.osh_sound.proofs.values_read_back.Goals as goal

pub returns : goal.returns
returns c = values_back
