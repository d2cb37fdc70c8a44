use Rattle.std.proofs.Common.{[]}
use Rattle.op_group.proofs.sorted.Run.new.Goals as goal

pub add-requires : goal.add-requires
add-requires c = (c.args.aggs.now, [], c.in_ok-tally.ensures, c.requires)

pub returns-clause-tally : goal.returns-clause-tally
returns-clause-tally c = c.in_ok-add.ensures c.args.aggs.now [] c.in_ok-tally.ensures
