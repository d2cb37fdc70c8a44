use Rattle.std.proofs.Common.{◌≡◌, Bool, true, List, [], sym, ap, ◌∙◌, subst}
use Rattle.std.specs.List.{list_all}
use Rattle.streams.specs.Streams.{Feed}
use Rattle.ds_schema.specs.Schemas.{row_fits}
use Rattle.op_base.specs.Columns.{Row}
use Rattle.op_base.specs.WholeLists.{list_feeds, SuitsEach}
use Rattle.op_row.specs.Expressed.{input_fields}
use Rattle.op_row.proofs.Standing.{rows_suit}
use Rattle.op_tests.proofs.rows.transforming.transformed.Goals as goal

pub run_list-requires-clause-suits : goal.run_list-requires-clause-suits
run_list-requires-clause-suits c =
    let P : (List (Feed Row) → Bool) → Type 0 = λ suits. SuitsEach suits [] (list_feeds c.in_ok-rows.rows.items) in
    let fit : list_all (row_fits c.args.schema.now) c.in_ok-rows.rows.items ≡ true = sym (c.all_fit.ensures ∙ ap (list_all (row_fits c.args.schema.now)) c.as_slice-2.ensures.value) ∙ c.if-not-all_fit.false in
    let same : input_fields c.in_ok-sets.sets.items ≡ c.args.schema.now = ap input_fields (sym c.as_slice.ensures.value) ∙ c.are_sets.ensures.fields c.if-not-are_sets.false in
    subst P (sym c.in_ok-op.ensures.suits) (rows_suit (row_fits (input_fields c.in_ok-sets.sets.items)) c.in_ok-rows.rows.items (ap (λ fields. list_all (row_fits fields) c.in_ok-rows.rows.items) same ∙ fit))
