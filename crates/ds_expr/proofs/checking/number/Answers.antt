use Rattle.ds_expr.proofs.Sound.{number_sound}
use Rattle.ds_expr.proofs.checking.number.Goals as goal

pub returns-in-Some-clause-sound : goal.returns-in-Some-clause-sound
returns-in-Some-clause-sound c = rw c.number_node.ensures (number_sound _ _ _ c.in-Some.ensures)
