use Rattle.std.proofs.Common.{Bool, List, [], sym, subst}
use Rattle.streams.specs.Streams.{Feed}
use Rattle.op_base.specs.Columns.{Row}
use Rattle.op_base.specs.WholeLists.{list_feeds, SuitsEach}
use Rattle.op_row.proofs.Standing.{rows_suit}
use Rattle.list_run.proofs.Working.{is_work}
use Rattle.ds_schema.specs.Schemas.{row_fits}
use Rattle.op_row.specs.Expressed.{input_fields, sets_rule, with_rejects}
use Rattle.list_run.proofs.by_row.run_transform.Goals as goal

pub run_list-requires-clause-suits : goal.run_list-requires-clause-suits
run_list-requires-clause-suits c =
    let P : (List (Feed Row) → Bool) → Type 0 = λ suits. SuitsEach suits [] (list_feeds c.args.rows.items) in
    subst P (sym c.in_ok-op.ensures.suits) (rows_suit (row_fits (input_fields c.args.sets.items)) c.args.rows.items c.requires.rows)

pub returns : goal.returns
returns c = is_work (sets_rule c.args.sets.items c.args.reject) (with_rejects 1 c.args.reject) c.args.rows.items c.in_ok-emit.emit _ c.in_ok-op.ensures.stream c.in_ok-emit.ensures.emitted c.in_ok-emit.ensures.gives
