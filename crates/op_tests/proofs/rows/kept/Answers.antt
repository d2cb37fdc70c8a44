use Rattle.std.proofs.Common.{Bool, List, [], sym, ap₂, ◌∙◌, subst}
use Rattle.std.specs.List.{list_all}
use Rattle.streams.specs.Streams.{Feed}
use Rattle.op_base.specs.Columns.{Row}
use Rattle.op_base.specs.WholeLists.{list_feeds, SuitsEach}
use Rattle.op_row.specs.ByRow.{has_columns}
use Rattle.op_row.proofs.Standing.{rows_suit}
use Rattle.op_tests.proofs.rows.kept.Goals as goal

pub run_list-requires-clause-suits : goal.run_list-requires-clause-suits
run_list-requires-clause-suits c =
    let P : (List (Feed Row) → Bool) → Type 0 = λ suits. SuitsEach suits [] (list_feeds c.in_ok-rows.rows.items) in
    subst P (sym c.in_ok-op.ensures.suits) (rows_suit (has_columns c.args.cols.items) c.in_ok-rows.rows.items (sym (c.all_have.ensures ∙ ap₂ (λ cols rows. list_all (has_columns cols) rows) c.as_slice.ensures.value c.as_slice-2.ensures.value) ∙ c.if-not-all_have.false))
