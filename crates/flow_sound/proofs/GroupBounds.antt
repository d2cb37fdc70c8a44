-- How large a sum of decimals is.
use Rattle.std.proofs.Common.{◌≡◌, ◌<◌, ◌≤◌, ◌*◌, ◌^◌, ℕ, suc, ℤ, ◌+ℤ◌, true, arith}
use Rattle.std.specs.Prelude.{nat_lt, unsigned_abs}
use Rattle.std.proofs.lemmas.Bool.{ltb-true}
use Rattle.std.proofs.lemmas.Bool.Decides.{nat_tests}
use Rattle.std.proofs.Math.Nat.{pow-le-pow_right}
use Rattle.std.proofs.lemmas.Int.{ints}

pub within : (z : ℤ) (p : ℕ) → p ≤ 18 → nat_lt (unsigned_abs z) (10 ^ p) ≡ true → unsigned_abs z ≤ 10 ^ 18
within z p l e =
    let most : 10 ^ p ≤ 10 ^ 18 = pow-le-pow_right (omega arith) l in
    let less : unsigned_abs z < 10 ^ p = ltb-true _ _ e in
    omega arith

pub one_more : (a b : ℤ) (n : ℕ) → unsigned_abs a ≤ 10 ^ 18 → unsigned_abs b ≤ n * 10 ^ 18 → unsigned_abs (a +ℤ b) ≤ suc n * 10 ^ 18
one_more a b n h k = omega (arith, ints, h, k)

pub few : (z : ℤ) (n : ℕ) → n ≤ 2 ^ 62 → unsigned_abs z ≤ n * 10 ^ 18 → nat_lt (unsigned_abs z) (10 ^ 38) ≡ true
few z n l h = grind (arith, ints, nat_tests, l, h)
