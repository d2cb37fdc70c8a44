-- Numbers that no field holds.
use Rattle.std.proofs.Common.{◌≡◌, ◌≤◌, ◌<◌, ◌^◌, ℕ, zero, ℤ, Bool, true, false, Result, Ok, Err, refl, FitsSigned, arith}
use Rattle.std.specs.Prelude.{nat_lt, unsigned_abs, if◌then◌else◌}
use Rattle.std.specs.Int.{w128}
use Rattle.std.proofs.lemmas.Bool.{ltb-true}
use Rattle.std.proofs.lemmas.Int.{fits_signed_from_abs}
use Rattle.std.proofs.Math.Nat.{pow-le-pow_right}
use Rattle.ds_value.specs.declared.kind.Kind.TheVariants as kind
use Rattle.ds_value.specs.declared.value.Value.{Value}
use Rattle.ds_value.specs.declared.value.Value.TheVariants as value
use Rattle.expr_table.specs.declared.arg.EvalFault.{EvalFault}
use Rattle.expr_table.specs.declared.arg.EvalFault.TheVariants.{Overflow}
use Rattle.ds_expr.specs.Assigning.{fitting}

wide_by : (b : Bool) (p : ℕ) (z : ℤ) (v : Value) → p ≤ 38 → nat_lt (unsigned_abs z) (10 ^ p) ≡ b → (FitsSigned w128 z → ⊥) → (let r : Result Value EvalFault = Err Overflow in r) ≡ (if b then Ok v else Err Overflow)
wide_by false p z v h e out = refl
wide_by true p z v h e out =
    let k : 10 ^ p ≤ 10 ^ 38 = pow-le-pow_right (let one : zero < 10 = omega arith in one) h in
    absurd (out (fits_signed_from_abs w128 z (omega (arith, k, ltb-true (unsigned_abs z) (10 ^ p) e))))

pub too_wide : (p s : ℕ) (z : ℤ) → p ≤ 38 → (FitsSigned w128 z → ⊥) → Err Overflow ≡ fitting (kind.Dec p s) (value.Dec z)
too_wide p s z h out = wide_by (nat_lt (unsigned_abs z) (10 ^ p)) p z (value.Dec z) h refl out
