use Rattle.ds_expr.proofs.Digits.{digit_too_many}
use Rattle.ds_expr.proofs.literal.units_of.Goals as goal

pub returns-then-units-ge-TENTH : goal.returns-then-units-ge-TENTH
returns-then-units-ge-TENTH c = digit_too_many _ _ _ c.loop-b-test.true c.if-b-ne46.true c.if-units-ge-TENTH.true c.loop-b.invariant.rest
