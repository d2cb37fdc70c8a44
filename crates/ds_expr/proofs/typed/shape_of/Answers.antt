use Rattle.ds_expr.proofs.PlainScales.{node_plain}
use Rattle.ds_expr.proofs.typed.shape_of.Goals as goal

pub returns-clause-zero : goal.returns-clause-zero
returns-clause-zero c = (node_plain _ c.as_slice-fields.ensures.schema.each _ _ c.typed.invariant).zero

pub returns-clause-small : goal.returns-clause-small
returns-clause-small c = (node_plain _ c.as_slice-fields.ensures.schema.each _ _ c.typed.invariant).small
