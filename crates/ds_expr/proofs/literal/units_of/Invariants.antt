use Rattle.std.proofs.Common.{◌≡◌, ◌<◌, ◌+◌, ◌^◌, drop}
use Rattle.std.specs.Prelude.{not, ◌==◌}
use Rattle.std.specs.List.{filter}
use Rattle.ds_value.specs.Spellings.{number_behind}
use Rattle.ds_expr.specs.Literals.{units_of}
use Rattle.ds_expr.proofs.literal.units_of.Given as goal

abbrev pub invariant-loop-b : goal.invariant-loop-b
invariant-loop-b l = record {
  bound : l.units < 10 ^ 38 + 10 ^ 4;
  rest : number_behind l.units (filter (λ b. not (b == 46)) (drop l.b-index l.digits)) ≡ units_of l.digits;
}
