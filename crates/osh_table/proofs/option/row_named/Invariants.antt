use Rattle.std.proofs.Common.{◌≡◌, drop}
use Rattle.osh_table.specs.Options.{row_among, row_named}
use Rattle.osh_table.proofs.option.row_named.Given as goal

abbrev pub invariant-loop-row : goal.invariant-loop-row
invariant-loop-row l = row_among (drop l.row-index l.row-items) l.word ≡ row_named l.fn.op l.word
