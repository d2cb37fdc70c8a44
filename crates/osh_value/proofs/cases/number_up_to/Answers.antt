use Rattle.std.proofs.Common.{◌≡◌, ◌<◌, ◌+◌, ◌*◌, ◌-◌, true, get_or, arith, refl, sym, ◌∙◌}
use Rattle.ds_lex.specs.Pieces.{is_digit}
use Rattle.ds_schema.proofs.Sizes.{passes, too_large}
use Rattle.osh_value.proofs.cases.number_up_to.Goals as goal

pub returns-then-from-more : goal.returns-then-from-more
returns-then-from-more c =
    let digit : is_digit (get_or c.args.bytes.now c.loop-byte.byte-index 0) ≡ true = sym c.is_digit.ensures ∙ c.if-not-is_digit.false in
    let above : c.args.high < c.loop-byte.value * 10 + (get_or c.args.bytes.now c.loop-byte.byte-index 0 - 48) = omega (arith, c.from.ensures, c.from-in-loop-byte.ensures, c.from-in-loop-byte-2.ensures) in
    let large = passes c.loop-byte.value c.args.high c.loop-byte.byte-index c.args.bytes.now (omega arith) digit above c.loop-byte.invariant.value in
    rw (too_large 0 c.args.high c.args.bytes.now large) (record { number = refl; bound = tt })
