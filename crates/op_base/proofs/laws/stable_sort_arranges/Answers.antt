use Rattle.op_base.proofs.RowLists.{sorted_is_arranged}
use Rattle.op_base.proofs.RowLists.{sort_arranged}
use Rattle.op_base.proofs.RowLists.{sort_permutes}
use Rattle.op_base.proofs.laws.stable_sort_arranges.Goals as goal

pub returns-clause-arranged : goal.returns-clause-arranged
returns-clause-arranged c = sorted_is_arranged

pub returns-clause-sorted : goal.returns-clause-sorted
returns-clause-sorted c = sort_arranged

pub returns-clause-same : goal.returns-clause-same
returns-clause-same c = sort_permutes
