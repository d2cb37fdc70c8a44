use Rattle.ds_port.proofs.Maps as proof
use Rattle.ds_port.proofs.map_laws.Goals as goal

pub returns : goal.returns
returns c = proof.map_laws
