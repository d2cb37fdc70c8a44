use Rattle.std.proofs.Common.{◌∙◌}
use Rattle.ds_expr.proofs.Uses.{no_row, one_row, scales_sum}
use Rattle.ds_expr.proofs.typing.use_of.Goals as goal

pub returns-in_default : goal.returns-in_default
returns-in_default c = no_row _ _ _ _ c.table.ensures.value (c.deref.ensures.value ∙ c.in_ok-shapes.ensures) c.in_default.ensures.number

pub result_scale-requires : goal.result_scale-requires
result_scale-requires c =
    scales_sum _ _ _ _ _ _ c.table.ensures.value (c.deref.ensures.value ∙ c.in_ok-shapes.ensures) (c.deref-2.ensures.value ∙ c.in_ok-scales.ensures) c.in-Some.ensures.found c.requires

pub returns : goal.returns
returns c =
    one_row _ _ _ _ _ _ _ _ _ _ c.table.ensures.value (c.deref.ensures.value ∙ c.in_ok-shapes.ensures) c.in-Some.ensures.number (c.deref-2.ensures.value ∙ c.in_ok-scales.ensures) c.second_literal.ensures
    c.in-Some-result_scale.ensures c.result_at.ensures (c.from_vec.ensures ∙ c.in_ok-scales.ensures)
