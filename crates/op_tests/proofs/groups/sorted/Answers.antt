use Rattle.std.proofs.Common.{Bool, List, [], sym, subst}
use Rattle.streams.specs.Streams.{Feed}
use Rattle.op_base.specs.Columns.{Row}
use Rattle.op_base.specs.WholeLists.{list_feeds, SuitsEach}
use Rattle.op_group.proofs.Fixtures.{numbers_suit}
use Rattle.op_tests.proofs.groups.sorted.Goals as goal

pub run_list-requires-clause-suits : goal.run_list-requires-clause-suits
run_list-requires-clause-suits c =
    let P : (List (Feed Row) → Bool) → Type 0 = λ suits. SuitsEach suits [] (list_feeds c.in_ok-rows.rows.items) in
    subst P (sym c.in_ok-op.ensures.suits) (numbers_suit c.in_ok-keys.field-0 c.in_ok-keys.ensures c.in_ok-each_agg.field-0.items c.in_ok-rows.rows.items c.in_ok-each_agg.ensures c.in_ok-rows.ensures)
