use Rattle.std.proofs.Common.{arith}
use Rattle.ds_value.proofs.DateTexts.{small_number, is_small}
use Rattle.ds_value.proofs.date.number_in.Goals as goal

pub returns-in_err-number : goal.returns-in_err-number
returns-in_err-number c = rw c.from_residual.ensures (is_small c.args.digits.now c.requires c.in_err-number.ensures)

pub overflow_cast-result : goal.overflow_cast-result
overflow_cast-result c =
    let number = c.in_ok-number.ensures in
    let less = small_number c.args.digits.now c.requires number.0.0 in
    let same = number.1 in
    omega arith
