use Rattle.std.proofs.Common.{Bool, List, [], sym, ap, ◌∙◌, subst}
use Rattle.std.specs.List.{list_all}
use Rattle.streams.specs.Streams.{Feed}
use Rattle.op_base.specs.Columns.{Row}
use Rattle.op_base.specs.WholeLists.{list_feeds, SuitsEach}
use Rattle.op_row.proofs.Standing.{rows_suit}
use Rattle.list_run.proofs.Working.{is_work}
use Rattle.ds_schema.specs.Schemas.{row_fits}
use Rattle.ds_expr.specs.Typed.{TypedTree}
use Rattle.op_base.specs.RowOperators.{filter_rule}
use Rattle.op_row.specs.Expressed.{filter_stream, with_rejects}
use Rattle.op_row.specs.Judging.{judged}
use Rattle.list_run.proofs.by_row.run_filter.Goals as goal

pub run_list-requires-clause-suits : goal.run_list-requires-clause-suits
run_list-requires-clause-suits c =
    let P : (List (Feed Row) → Bool) → Type 0 = λ suits. SuitsEach suits [] (list_feeds c.args.rows.items) in
    subst P (sym c.in_ok-op.ensures.suits) (rows_suit (row_fits c.in_ok-copy.copy.fields) c.args.rows.items (ap (λ (t : TypedTree). list_all (row_fits t.fields) c.args.rows.items) c.in_ok-copy.ensures ∙ c.requires.rows))

pub returns : goal.returns
returns c = is_work (filter_rule (judged c.args.test.now) c.args.reject) (with_rejects 1 c.args.reject) c.args.rows.items c.in_ok-emit.emit _
    (c.in_ok-op.ensures.stream ∙ ap (λ (t : TypedTree). filter_stream t c.args.reject) c.in_ok-copy.ensures) c.in_ok-emit.ensures.emitted c.in_ok-emit.ensures.gives
