use Rattle.std.proofs.Common.{rules, pos, neg_ℤ, cond, sym, ◌∙◌, ap, arith, FitsSigned}
use Rattle.std.specs.Int.{w128}
use Rattle.std.proofs.lemmas.Int.{to_z-of_z}
use Rattle.ds_value.proofs.DecimalTexts.{no_parts, no_units, too_great, dec_spelled}
use Rattle.ds_value.proofs.decimal.read_decimal.Goals as goal

pub returns-in_err-whole : goal.returns-in_err-whole
returns-in_err-whole c =
    rw c.from_residual.ensures (λ z h fits. no_parts c.args.s c.args.bytes.now (rw c.split_sign-minus.ensures.rest at c.in_err-whole.ensures) z h)

pub returns-in_err-number : goal.returns-in_err-number
returns-in_err-number c =
    rw c.from_residual-in_err-number.ensures (no_units c.args.p c.args.s c.args.bytes.now c.in_ok-whole.whole.now c.in_ok-whole.fraction.now c.requires.digits c.in_ok-whole.ensures.0 (sym c.split_sign-minus.ensures.rest ∙ c.in_ok-whole.ensures.1) c.in_err-number.ensures)

pub returns-then-number-ten_to : goal.returns-then-number-ten_to
returns-then-number-ten_to c =
    too_great c.args.p c.args.s c.in_ok-number.number c.args.bytes.now c.in_ok-whole.whole.now c.in_ok-whole.fraction.now c.in_ok-whole.ensures.0 (sym c.split_sign-minus.ensures.rest ∙ c.in_ok-whole.ensures.1) c.in_ok-number.ensures.1 (let great = c.if-number-ten_to.true in let limit = c.ten_to.ensures in omega arith)

pub returns : goal.returns
returns c =
    let fits : FitsSigned w128 c.signed.result = search rules in
    let value = to_z-of_z w128 c.signed.result fits ∙ (c.signed.ensures ∙ ap (λ m. cond m (neg_ℤ (pos c.in_ok-number.number)) (pos c.in_ok-number.number)) c.split_sign-minus.ensures.minus) in
    dec_spelled c.args.p c.args.s c.in_ok-number.number c.args.bytes.now c.in_ok-whole.whole.now c.in_ok-whole.fraction.now _ (sym c.split_sign-minus.ensures.rest ∙ c.in_ok-whole.ensures.1) c.in_ok-number.ensures.0 c.in_ok-number.ensures.1 (let less = c.if-number-ten_to.false in let limit = c.ten_to.ensures in omega arith) value
