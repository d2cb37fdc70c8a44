use Rattle.std.proofs.Common.{[]}
use Rattle.op_group.proofs.GiveLaws.{keys_there, aggs_there}
use Rattle.op_group.proofs.table.Group.new.Goals as goal

pub key_values-requires : goal.key_values-requires
key_values-requires c = keys_there c.args.keys.now c.args.aggs.now c.args.row.now c.requires

pub add-requires : goal.add-requires
add-requires c = (c.args.aggs.now, [], c.in_ok-tally.ensures, aggs_there c.args.keys.now c.args.aggs.now c.args.row.now c.requires)

pub returns-clause-tally : goal.returns-clause-tally
returns-clause-tally c = c.in_ok-add.ensures c.args.aggs.now [] c.in_ok-tally.ensures
