use Rattle.expr_read.proofs.Wholes.{read_is_spelled, spelled_is_read, refused_is_none}
use Rattle.expr_read.proofs.laws.expressions_are_spelled.Goals as goal

pub returns : goal.returns
returns c = record { read = read_is_spelled; spelled = spelled_is_read; refused = refused_is_none }
