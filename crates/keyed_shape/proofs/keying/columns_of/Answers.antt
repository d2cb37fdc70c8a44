use Rattle.keyed_shape.proofs.Others.{columns_next}
use Rattle.keyed_shape.proofs.keying.columns_of.Goals as goal

pub loop-name-preserved : goal.loop-name-preserved
loop-name-preserved c = columns_next c.args.fields.now c.args.key.now c.loop-name.name-index c.loop-name-item.result c.loop-name.found.items _ _ c.loop-name-test.true c.loop-name-item.is c.loop-name.invariant c.column.ensures c.in_ok-push.ensures.items
