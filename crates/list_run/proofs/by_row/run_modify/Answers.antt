use Rattle.std.proofs.Common.{Bool, List, [], sym, ap, ◌∙◌, subst}
use Rattle.std.specs.List.{list_all}
use Rattle.streams.specs.Streams.{Feed}
use Rattle.op_base.specs.Columns.{Row}
use Rattle.op_base.specs.WholeLists.{list_feeds, SuitsEach}
use Rattle.op_row.proofs.Standing.{rows_suit}
use Rattle.list_run.proofs.Working.{is_work}
use Rattle.op_base.specs.RowOperators.{modify_rule}
use Rattle.op_row.specs.ByRow.{has_columns, modify_stream}
use Rattle.list_run.proofs.by_row.run_modify.Goals as goal

pub run_list-requires-clause-suits : goal.run_list-requires-clause-suits
run_list-requires-clause-suits c =
    let P : (List (Feed Row) → Bool) → Type 0 = λ suits. SuitsEach suits [] (list_feeds c.args.rows.items) in
    subst P (sym c.in_ok-op.ensures.suits) (rows_suit (has_columns c.into_vec.result.items) c.args.rows.items (ap (λ cols. list_all (has_columns cols) c.args.rows.items) (c.into_vec.ensures ∙ c.in_ok-kept.ensures) ∙ c.requires))

pub returns : goal.returns
returns c = is_work (modify_rule c.args.cols.now) 1 c.args.rows.items c.in_ok-emit.emit _
    (c.in_ok-op.ensures.stream ∙ ap modify_stream (c.into_vec.ensures ∙ c.in_ok-kept.ensures)) c.in_ok-emit.ensures.emitted c.in_ok-emit.ensures.gives
