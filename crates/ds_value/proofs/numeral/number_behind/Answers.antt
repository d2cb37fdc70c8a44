use Rattle.std.proofs.Common.{◌∙◌, arith}
use Rattle.ds_value.proofs.Numerals.{digit_at}
use Rattle.ds_value.proofs.numeral.number_behind.Goals as goal
use Rattle.ds_value.proofs.numeral.number_behind.Goals.{then-not-is_ascii_digit-via-then-not-is_ascii_digit, then-not-is_ascii_digit-via-else-not-is_ascii_digit+then-number-ge-TENTH}

pub returns-then-not-is_ascii_digit : goal.returns-then-not-is_ascii_digit
returns-then-not-is_ascii_digit c = λ h.
    let all = c.loop-digit.invariant.digits ∙ h.0 in
    let next = digit_at c.loop-digit.number c.loop-digit.digit-index c.args.digits.now (omega arith) all in
    elim c.then-not-is_ascii_digit.branch [
      | then-not-is_ascii_digit-via-then-not-is_ascii_digit w ↦ let first = next.0 in cc
      | then-not-is_ascii_digit-via-else-not-is_ascii_digit+then-number-ge-TENTH w ↦ let second = next.1 in let same = c.loop-digit.invariant.number in omega (arith, h.1)
    ]
