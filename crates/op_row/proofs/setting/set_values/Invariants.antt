use Rattle.std.proofs.Common.{◌≡◌, drop, ◌++◌, Ok}
use Rattle.expr_table.specs.Meaning.{◌>>=◌}
use Rattle.op_row.specs.Judging.{set_values}
use Rattle.op_row.proofs.setting.set_values.Given as goal

abbrev pub invariant-loop-set : goal.invariant-loop-set
invariant-loop-set l = (set_values l.row (drop l.set-index l.sets) >>= λ more. Ok (l.values ++ more)) ≡ set_values l.row l.sets
