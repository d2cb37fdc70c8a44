use Rattle.op_base.proofs.Merging.{merge_rows_interleave}
use Rattle.op_base.proofs.Interleavings.{joined_interleaves}
use Rattle.op_base.proofs.Interleavings.{turns_interleave}
use Rattle.op_base.proofs.laws.collectors_interleave.Goals as goal

pub returns-clause-merge : goal.returns-clause-merge
returns-clause-merge c = merge_rows_interleave

pub returns-clause-ordered : goal.returns-clause-ordered
returns-clause-ordered c = λ lists. joined_interleaves lists

pub returns-clause-in_turn : goal.returns-clause-in_turn
returns-clause-in_turn c = λ lists. turns_interleave lists
