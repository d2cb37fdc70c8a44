-- Numbers by their digits.
use Rattle.std.proofs.Common.{◌≡◌, ◌≢◌, ◌≤◌, ◌<◌, ◌+◌, ◌-◌, ◌*◌, ◌^◌, ℕ, suc, length, get_or, drop-cons, List, [], ◌∷◌, None, refl, arith, drop}
use Rattle.std.specs.Prelude.{not, ◌==◌}
use Rattle.std.specs.List.{filter}
use Rattle.std.proofs.lemmas.Bool.{le-ltb, ne_eqb}
use Rattle.ds_value.specs.Spellings.{number_behind}
use Rattle.ds_expr.specs.Literals.{units_of, units_below}

pub number_behind-le : (n : ℕ) (ds : List ℕ) → n ≤ number_behind n ds
number_behind-le n [] = omega arith
number_behind-le n (d ∷ ds) = omega (arith, number_behind-le (n * 10 + (d - 48)) ds)

too_large : (u d : ℕ) (ds bytes : List ℕ) → 10 ^ 37 ≤ u → number_behind u (d ∷ ds) ≡ units_of bytes → None ≡ units_below bytes
too_large u d ds bytes h e =
    let k = number_behind-le (u * 10 + (d - 48)) ds in
    let big : 10 ^ 38 ≤ units_of bytes = rw (← e) (omega (arith, k)) in
    rw (le-ltb (units_of bytes) (10 ^ 38) big) refl

-- a further digit makes it too large
pub digit_too_many : (u i : ℕ) (bytes : List ℕ) → i < length bytes → get_or bytes i 0 ≢ 46 → 10 ^ 37 ≤ u → number_behind u (filter (λ b. not (b == 46)) (drop i bytes)) ≡ units_of bytes → None ≡ units_below bytes
digit_too_many u i bytes h n k e =
    let split : filter (λ b. not (b == 46)) (drop i bytes) ≡ get_or bytes i 0 ∷ filter (λ b. not (b == 46)) (drop (suc i) bytes) = rw (drop-cons bytes i 0 h, ne_eqb (get_or bytes i 0) 46 n) refl in
    too_large u (get_or bytes i 0) (filter (λ b. not (b == 46)) (drop (suc i) bytes)) bytes k (rw split at e)
