use Rattle.op_join.proofs.Pieces.{same_length}
use Rattle.op_join.proofs.joiner.Join.runs_cmp.Goals as goal

pub compare_keys-requires : goal.compare_keys-requires
compare_keys-requires c = same_length _ _ c.requires
