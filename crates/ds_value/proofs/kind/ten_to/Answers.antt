use Rattle.std.proofs.Common.{rules, ◌^◌, ◌≤◌, arith}
use Rattle.std.proofs.Math.Nat.{pow-le-pow_right}
use Rattle.ds_value.proofs.kind.ten_to.Goals as goal

pub pow-requires : goal.pow-requires
pow-requires c =
    let at_most : c.from.result ≤ 38 = search rules in
    let below : 10 ^ c.from.result ≤ 10 ^ 38 = pow-le-pow_right (omega arith) at_most in
    omega (arith, below)
