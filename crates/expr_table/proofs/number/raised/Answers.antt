use Rattle.std.proofs.Common.{rules, ◌^◌, ◌≤◌, pos, arith}
use Rattle.std.specs.Int.{w128}
use Rattle.std.proofs.Math.Nat.{pow-le-pow_right}
use Rattle.std.proofs.lemmas.Int.{fits_signed_from_abs}
use Rattle.expr_table.proofs.number.raised.Goals as goal

pub pow-factor-requires : goal.pow-factor-requires
pow-factor-requires c =
    let at_most : c.from.result ≤ 38 = search rules in
    let below : 10 ^ c.from.result ≤ 10 ^ 38 = pow-le-pow_right (omega arith) at_most in
    fits_signed_from_abs w128 (pos (10 ^ c.from.result)) (omega (arith, below))
