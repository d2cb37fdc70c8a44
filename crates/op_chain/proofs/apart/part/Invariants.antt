use Rattle.std.proofs.Common.{◌≡◌, ◌++◌}
use Rattle.op_chain.specs.InTurn.{handed_rows, elsewhere}
use Rattle.op_chain.proofs.apart.part.Given as goal

abbrev pub invariant-loop-it : goal.invariant-loop-it
invariant-loop-it l = record {
  rows : l.rows.items ≡ handed_rows l.yielded;
  others : l.before ≡ l.fn.before ++ elsewhere l.yielded;
  rest : l.yielded ++ l.it-iterator.rest.items ≡ l.fn.sent.items;
}
