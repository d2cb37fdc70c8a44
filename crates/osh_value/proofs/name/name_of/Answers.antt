use Rattle.osh_value.proofs.Names.{found_name}
use Rattle.osh_value.proofs.name.name_of.Goals as goal

pub returns : goal.returns
returns c = found_name _ _ c.from_bytes.ensures
