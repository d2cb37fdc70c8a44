use Rattle.std.proofs.Common.{rules, ◌^◌, ◌≤◌, pos, arith, FitsSigned}
use Rattle.std.specs.Int.{w128}
use Rattle.std.proofs.Math.Nat.{pow-le-pow_right}
use Rattle.std.proofs.lemmas.Int.{fits_signed_from_abs, to_z-of_z}
use Rattle.ds_expr.proofs.Assigns.{too_wide}
use Rattle.ds_expr.proofs.assigning.decimal.Goals as goal

pub pow-factor-requires : goal.pow-factor-requires
pow-factor-requires c =
    let at_most : c.from.result ≤ 38 = omega (arith, c.from.ensures) in
    let below : 10 ^ c.from.result ≤ 10 ^ 38 = pow-le-pow_right (omega arith) at_most in
    fits_signed_from_abs w128 (pos (10 ^ c.from.result)) (omega (arith, below))

pub returns-in-None : goal.returns-in-None
returns-in-None c =
    let number : FitsSigned w128 c.args.n = search rules in
    let factor : FitsSigned w128 c.pow-factor.result = search rules in
    let out = rw (to_z-of_z w128 c.args.n number, to_z-of_z w128 c.pow-factor.result factor, c.pow-factor.ensures, c.from.ensures) at c.in-None.ensures in
    too_wide c.args.p c.args.s _ c.requires.digits out
