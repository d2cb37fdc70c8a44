use Rattle.std.proofs.Common.{◌≡◌, ◌++◌}
use Rattle.op_base.specs.WholeLists.{row_feeds}
use Rattle.op_chain.specs.InTurn.{StepsBy, EmitsAll}
use Rattle.op_chain.proofs.along.feed_rows.Given as goal

abbrev pub invariant-loop-row : goal.invariant-loop-row
invariant-loop-row g l = record {
  stream : g.O.Operator.stream l.op ≡ g.O.Operator.stream l.fn.op;
  suits : g.O.Operator.suits l.op ≡ g.O.Operator.suits l.fn.op;
  stands : StepsBy (g.O.Operator.Stands l.fn.op) (g.O.Operator.Stands l.op) (row_feeds l.yielded);
  emits : EmitsAll (g.O.Operator.stream l.fn.op) (g.O.Operator.Stands l.fn.op) (row_feeds l.yielded) l.fn.emit l.emit;
  rest : l.yielded ++ l.row-iterator.rest.items ≡ l.fn.rows.items;
}
