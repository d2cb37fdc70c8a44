use Rattle.ds_expr.proofs.Sound.{column_read}
use Rattle.ds_expr.proofs.checking.column.Goals as goal

pub returns-then-eq-clause-sound : goal.returns-then-eq-clause-sound
returns-then-eq-clause-sound c = column_read _ _ _ _ c.index-fields-i.result _ c.as_slice-fields.ensures.fields c.as_slice-fields.ensures.schema c.loop-i-test.true c.index-fields-i.is c.typing_of_kind.ensures
