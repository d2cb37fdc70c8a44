use Rattle.list_run.proofs.Places.{modulus_suits}
use Rattle.list_run.proofs.lanes.by_remainder.Goals as goal

pub by_place-requires-clause-rows : goal.by_place-requires-clause-rows
by_place-requires-clause-rows c = modulus_suits c.args.column c.args.sent c.requires.rows
