use Rattle.std.proofs.Common.{Bool, List, [], sym, subst}
use Rattle.streams.specs.Streams.{Feed}
use Rattle.op_base.specs.Columns.{Row}
use Rattle.op_base.specs.WholeLists.{list_feeds, SuitsEach}
use Rattle.list_run.proofs.Grouped.{group_fed, is_hashed}
use Rattle.list_run.proofs.grouping.run_hashed.Goals as goal

pub run_list-requires-clause-suits : goal.run_list-requires-clause-suits
run_list-requires-clause-suits c =
    let P : (List (Feed Row) → Bool) → Type 0 = λ suits. SuitsEach suits [] (list_feeds c.args.rows.items) in
    subst P (sym c.in_ok-op.ensures.suits) (group_fed c.args.keys c.args.aggs.items c.args.rows.items c.requires)

pub returns : goal.returns
returns c = is_hashed c.args.keys c.args.aggs.items c.args.rows.items c.in_ok-emit.emit _ c.in_ok-op.ensures.stream c.in_ok-emit.ensures.emitted c.in_ok-emit.ensures.gives
