use Rattle.std.proofs.Common.{sym}
use Rattle.op_join.proofs.Taking.{more_taken, none_taken, settled_emits, settled_rows}
use Rattle.op_join.proofs.joiner.Join.settle.Goals as goal

pub loop-order-init : goal.loop-order-init
loop-order-init c = none_taken _ _ c.requires

pub turn-requires : goal.turn-requires
turn-requires c = c.loop-order.invariant.sound

pub loop-order-preserved : goal.loop-order-preserved
loop-order-preserved c = more_taken _ _ _ _ _ _ c.loop-order.invariant c.in_ok-take_off.ensures.taken

pub returns-clause-rows : goal.returns-clause-rows
returns-clause-rows c = settled_rows _ _ _ _ c.loop-order.invariant (sym c.in_default.ensures)

pub returns-clause-emits : goal.returns-clause-emits
returns-clause-emits c = settled_emits _ _ _ _ c.loop-order.invariant (sym c.in_default.ensures)
