use Rattle.std.proofs.Common.{rules, ◌^◌, ◌≤◌, arith}
use Rattle.std.proofs.Math.Nat.{pow-le-pow_right}
use Rattle.expr_table.proofs.number.ten_to.Goals as goal

pub pow-requires : goal.pow-requires
pow-requires c =
    let at_most : c.from.result ≤ 38 = search rules in
    let below : 10 ^ c.from.result ≤ 10 ^ 38 = pow-le-pow_right (omega arith) at_most in
    omega (arith, below)

pub returns-clause-limit : goal.returns-clause-limit
returns-clause-limit c =
    let at_most : c.from.result ≤ 38 = search rules in
    let below : 10 ^ c.from.result ≤ 10 ^ 38 = pow-le-pow_right (omega arith) at_most in
    omega (arith, below)

pub returns-clause-some : goal.returns-clause-some
returns-clause-some c =
    let least : 0 ≤ c.from.result = omega arith in
    let more : 10 ^ 0 ≤ 10 ^ c.from.result = pow-le-pow_right (omega arith) least in
    omega (arith, more)
