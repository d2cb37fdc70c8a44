use Rattle.std.proofs.Common.{◌∙◌, ap, sym, length}
use Rattle.ds_schema.proofs.RowFits.{other_length}
use Rattle.ds_schema.proofs.schema.row_fits.Goals as goal

pub returns-then-fields-values : goal.returns-then-fields-values
returns-then-fields-values c =
    sym (other_length c.args.schema.now c.args.row.now (λ e. c.if-fields-values.true (ap length c.as_slice-fields.ensures.fields ∙ (e ∙ ap length (sym c.as_slice-values.ensures)))))
