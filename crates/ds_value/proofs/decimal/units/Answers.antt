use Rattle.std.proofs.Common.{min, length, sym, ◌∙◌, ap}
use Rattle.ds_value.proofs.Decimals.{no_whole, no_fraction, units_found}
use Rattle.ds_value.proofs.decimal.units.Goals as goal

pub returns-in_err-number_of : goal.returns-in_err-number_of
returns-in_err-number_of c = rw c.from_residual.ensures (no_whole c.args.s c.args.whole.now c.args.fraction.now c.in_err-number_of.ensures)

pub returns-in_err-number : goal.returns-in_err-number
returns-in_err-number c =
    let kept = c.min-kept.ensures ∙ ap (min (length c.args.fraction.now)) c.from.ensures in
    rw c.from_residual-in_err-number.ensures (no_fraction c.args.s c.min-kept.result c.in_ok-number_of.field-0 c.args.whole.now c.args.fraction.now kept c.in_ok-number_of.ensures.1 c.in_err-number.ensures)

pub returns : goal.returns
returns c =
    let kept = c.min-kept.ensures ∙ ap (min (length c.args.fraction.now)) c.from.ensures in
    let whole = c.in_ok-number_of.ensures in
    let number = c.in_ok-number.ensures in
    units_found c.args.s c.min-kept.result c.in_ok-number_of.field-0 c.in_ok-number.number c.args.whole.now c.args.fraction.now c.shifted.result kept whole.1 (sym c.are_zeros.ensures ∙ c.if-not-are_zeros.false) whole.0.0 number.0.0 number.1 c.shifted.ensures
