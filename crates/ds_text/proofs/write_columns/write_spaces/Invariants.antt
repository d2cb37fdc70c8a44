use Rattle.std.proofs.Common.{◌≡◌, ◌++◌, replicate}
use Rattle.ds_text.proofs.write_columns.write_spaces.Given as goal

abbrev pub invariant-loop-given : goal.invariant-loop-given
invariant-loop-given l = l.into ≡ l.fn.into ++ replicate l._given 32
