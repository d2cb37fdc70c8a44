use Rattle.std.proofs.Common.{◌≡◌, drop}
use Rattle.op_base.specs.Columns.{column_in}
use Rattle.flow_derive.proofs.carry.column_in.Given as goal

abbrev pub invariant-loop-pair : goal.invariant-loop-pair
invariant-loop-pair l = column_in l.pairs l.column ≡ column_in (drop l.pair-index l.pairs) l.column
