use Rattle.std.proofs.Common.{◌≡◌, ◌++◌}
use Rattle.streams.specs.Streams.{emits}
use Rattle.op_base.specs.Emits.{Adds}
use Rattle.op_base.specs.WholeLists.{row_feeds}
use Rattle.op_base.proofs.whole_list.feed_rows.Given as goal

abbrev pub invariant-loop-row : goal.invariant-loop-row
invariant-loop-row g l = record {
  stream : g.O.Operator.stream l.op ≡ g.O.Operator.stream l.fn.op;
  suits : g.O.Operator.suits l.op ≡ g.O.Operator.suits l.fn.op;
  stands : g.O.Operator.Stands l.op (row_feeds l.yielded);
  emits : Adds l.fn.emit l.emit (emits (g.O.Operator.stream l.fn.op) (row_feeds l.yielded));
  rest : l.yielded ++ l.row-iterator.rest.items ≡ l.fn.rows.items;
}
