use Rattle.op_collect.proofs.Means.{sort_merge_merges, sort_merge_arranges}
use Rattle.op_collect.proofs.laws.sort_merge_merges.Goals as goal

pub returns : goal.returns
returns c = record { merged = sort_merge_merges; arranged = sort_merge_arranges }
