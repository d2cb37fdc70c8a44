use Rattle.std.proofs.Common.{rules, FitsSigned}
use Rattle.std.specs.Int.{w128}
use Rattle.std.proofs.lemmas.Int.{to_z-of_z}
use Rattle.expr_table.proofs.arithmetic.numbers.Goals as goal

pub returns-in_ok-b-in-len2-Num : goal.returns-in_ok-b-in-len2-Num
returns-in_ok-b-in-len2-Num c =
    let first : FitsSigned w128 c.in_ok-a-in-len2-Num.a = search rules in
    let second : FitsSigned w128 c.in_ok-b-in-len2-Num.b = search rules in
    rw (to_z-of_z w128 c.in_ok-a-in-len2-Num.a first, to_z-of_z w128 c.in_ok-b-in-len2-Num.b second) (search rules)
