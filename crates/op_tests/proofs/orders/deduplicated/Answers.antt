use Rattle.std.proofs.Common.{[]}
use Rattle.op_base.proofs.ListFeeds.{suits_any}
use Rattle.op_tests.proofs.orders.deduplicated.Goals as goal

pub run_list-requires-clause-suits : goal.run_list-requires-clause-suits
run_list-requires-clause-suits c = suits_any [] _
