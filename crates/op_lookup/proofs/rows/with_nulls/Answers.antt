use Rattle.std.proofs.Common.{ap, sym, ◌∙◌, [], ◌∷◌, ◌++◌, take, append_assoc}
use Rattle.ds_value.specs.declared.value.Value.TheVariants.{Null}
use Rattle.ds_schema.specs.Rows.{val}
use Rattle.op_base.specs.Columns.{no_row}
use Rattle.op_lookup.proofs.Finding.{nulls_more}
use Rattle.op_lookup.proofs.rows.with_nulls.Goals as goal

pub loop-col-preserved : goal.loop-col-preserved
loop-col-preserved c =
    c.in_ok-push.ensures.items ∙ ap (λ t. t ++ Null ∷ []) c.loop-col.invariant ∙ append_assoc c.args.row (val (take c.loop-col._col-index c.args.cols.now) no_row) (Null ∷ [])
    ∙ ap (λ t. c.args.row ++ t) (sym (nulls_more c.args.cols.now c.loop-col._col-index c.loop-col-test.true))
