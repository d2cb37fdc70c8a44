use Rattle.std.proofs.Common.{Bool, List, [], sym, ap, ◌∙◌, subst, length}
use Rattle.std.specs.List.{list_all}
use Rattle.streams.specs.Streams.{Feed}
use Rattle.op_base.specs.Columns.{Row}
use Rattle.op_base.specs.WholeLists.{list_feeds, SuitsEach}
use Rattle.op_row.proofs.Standing.{rows_suit}
use Rattle.list_run.proofs.Working.{is_work}
use Rattle.ds_schema.specs.Schemas.{row_fits}
use Rattle.ds_expr.specs.Typed.{TypedTree}
use Rattle.op_base.specs.RowOperators.{switch_rule}
use Rattle.op_row.specs.Expressed.{switch_stream, with_rejects}
use Rattle.op_row.specs.Judging.{case_of}
use Rattle.list_run.proofs.by_row.run_switch.Goals as goal

pub run_list-requires-clause-suits : goal.run_list-requires-clause-suits
run_list-requires-clause-suits c =
    let P : (List (Feed Row) → Bool) → Type 0 = λ suits. SuitsEach suits [] (list_feeds c.args.rows.items) in
    subst P (sym c.in_ok-op.ensures.suits) (rows_suit (row_fits c.in_ok-copy.copy.fields) c.args.rows.items (ap (λ (t : TypedTree). list_all (row_fits t.fields) c.args.rows.items) c.in_ok-copy.ensures ∙ c.requires.rows))

pub returns : goal.returns
returns c = is_work (switch_rule (length c.args.cases.now) (case_of c.args.on.now c.args.cases.now) c.args.reject) (with_rejects (length c.args.cases.now) c.args.reject) c.args.rows.items c.in_ok-emit.emit _
    (c.in_ok-op.ensures.stream ∙ ap (λ (t : TypedTree). switch_stream t c.into_vec.result.items c.args.reject) c.in_ok-copy.ensures ∙ ap (λ cases. switch_stream c.args.on.now cases c.args.reject) (c.into_vec.ensures ∙ c.in_ok-numbers.ensures)) c.in_ok-emit.ensures.emitted c.in_ok-emit.ensures.gives
