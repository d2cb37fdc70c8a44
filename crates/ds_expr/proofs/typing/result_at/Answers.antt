use Rattle.std.proofs.Common.{◌∙◌}
use Rattle.ds_expr.proofs.Uses.{past_rows}
use Rattle.ds_expr.proofs.typing.result_at.Goals as goal

pub returns-in-None : goal.returns-in-None
returns-in-None c = past_rows _ _ (c.as_slice.ensures.value ∙ c.table-table.ensures.value) c.in-None.ensures.lookup.3
